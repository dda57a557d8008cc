use Rattle.std.proofs.Common.{◌∙◌, ◌≤◌, ap, max, subst, List, ℕ, Some, refl, arith}
use Rattle.record_tree.specs.Stored.{HasStored, stored_at}
use Rattle.recovery_je.proofs.PutLaws.{record_got}
use Rattle.recovery_je.proofs.WalkLaws.{with_one}
use Rattle.recovery_je.proofs.walking.put_record.Goals as goal

pub returns-clause-walk : goal.returns-clause-walk
returns-clause-walk g c walk at =
    let before = g.T.Loads.stored c.args.walking.now.trees in
    let after = g.T.Loads.stored c.load.new.self in
    with_one before after c.args.walking.now.seen.keys c.args.walking.now.node c.args.walking.now.db c.max-walking.result c.args.d c.args.name.now c.args.lsn c.args.value.now walk
    (subst (λ (v : List ℕ). HasStored before after c.args.d c.args.name.now (stored_at c.args.lsn (Some v))) c.as_slice.ensures c.in_ok-load.ensures.stored)
    (c.max-walking.ensures ∙ ap (max c.args.walking.now.db) c.number_in.ensures) at

pub returns-clause-nodes : goal.returns-clause-nodes
returns-clause-nodes g c k x some = record {
  same = refl;
  rises = let e : c.args.walking.now.node ≤ c.args.walking.now.node = omega arith in e;
  puts = λ most le. record { nodes = c.in_ok-load.ensures.nodes k x some; slots = record_got (g.T.Loads.read c.args.walking.now.trees) (g.T.Loads.read c.load.new.self) c.args.d c.args.name.now c.args.lsn c.in_ok-load.ensures.read };
}
