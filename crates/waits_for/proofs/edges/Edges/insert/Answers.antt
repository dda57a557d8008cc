use Rattle.std.proofs.Common.{◌<◌, ◌^◌, arith}
use Rattle.std.proofs.lemmas.Map.Views.{All-insert_key}
use Rattle.waits_for.proofs.EdgeSets.{pair_cmp, pair_inserted}
use Rattle.waits_for.proofs.edges.Edges.insert.Goals as goal

pub invariant_of-self-2 : goal.invariant_of-self-2
invariant_of-self-2 c = let fits : c.args.owner.0 < 2 ^ 64 = omega arith in rw c.in_ok-insert.ensures.keys (All-insert_key pair_cmp (c.args.waiter, c.args.owner) (λ e. e.1.0 < 2 ^ 64) _ c.self.invariant fits)

pub returns-clause-ok : goal.returns-clause-ok
returns-clause-ok c = λ x y. rw (← c.self.view_is) (pair_inserted c.insert.new.self.keys c.self.inside.pairs.keys x y c.args.waiter c.args.owner (c.in_ok-insert.ensures.updates.0 (x, y)))
