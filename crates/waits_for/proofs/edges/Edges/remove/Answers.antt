use Rattle.std.proofs.Common.{◌<◌, ◌^◌, not}
use Rattle.std.proofs.lemmas.List.Elements.{recursion_from_All, All-from_recursion}
use Rattle.je_order.specs.declared.txn_id.TxnId.{TxnId}
use Rattle.waits_for.specs.Cycles.{is_from, edges_without}
use Rattle.je_order.proofs.Lists.{all_kept}
use Rattle.waits_for.proofs.edges.Edges.remove.Goals as goal

pub invariant_of-self : goal.invariant_of-self
invariant_of-self c =
    let P : TxnId × TxnId → Type 0 = λ e. e.1.0 < 2 ^ 64 in
    rw c.retain_others.ensures (All-from_recursion P (edges_without c.args.waiter c.self.inside.pairs.keys) (all_kept P (λ e. not (is_from c.args.waiter e)) c.self.inside.pairs.keys (recursion_from_All P c.self.inside.pairs.keys c.self.invariant)))
