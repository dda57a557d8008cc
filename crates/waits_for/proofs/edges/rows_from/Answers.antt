use Rattle.std.proofs.Common.{◌≡◌, ◌<◌, ◌^◌, ◌-◌, rules, ◌∙◌}
use Rattle.std.specs.List.{filter, All}
use Rattle.std.specs.BTreeMap.Range.{range_contains}
use Rattle.std.specs.declared.ops.Bound.TheVariants.{Included}
use Rattle.je_order.specs.declared.txn_id.TxnId.{TxnId}
use Rattle.je_order.proofs.Results.{if_ok}
use Rattle.std.proofs.lemmas.List.Elements.{recursion_from_All}
use Rattle.waits_for.specs.Cycles.{is_from}
use Rattle.waits_for.proofs.EdgeSets.{pair_cmp, txn, filter_same, in_row, rising_row}
use Rattle.waits_for.proofs.edges.rows_from.Goals as goal

pub returns-clause-found : goal.returns-clause-found
returns-clause-found c =
    let a : All (λ (e : TxnId × TxnId). e.1.0 < 2 ^ 64) c.args.pairs.now.keys = c.requires in
    let b = c.range.ensures.between in
    let s = filter_same (range_contains pair_cmp (Included (c.args.waiter, txn 0)) (Included (c.args.waiter, txn (2 ^ 64 - 1)))) (is_from c.args.waiter) (λ (e : TxnId × TxnId). e.1.0 < 2 ^ 64) (in_row c.args.waiter) c.args.pairs.now.keys (recursion_from_All (λ (e : TxnId × TxnId). e.1.0 < 2 ^ 64) c.args.pairs.now.keys a) in
    let t = rw (c.new.ensures.start, c.new.ensures.end) at (b c.new.ensures.exhausted) in
    let u : c.range.result ≡ filter (is_from c.args.waiter) c.args.pairs.now.keys = t ∙ s in
    rw (← u) (search rules)

pub returns-clause-rising : goal.returns-clause-rising
returns-clause-rising c = if_ok c.collect.result (λ found h. rising_row c.args.waiter c.args.pairs.now.keys c.range.ensures.ordered) (returns-clause-found c)
