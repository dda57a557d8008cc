use Rattle.dirty_nodes.proofs.Forests.{all_since_in, done_ended, done_next}
use Rattle.dirty_nodes.proofs.forest.is_since_in.Goals as goal

pub loop-db-preserved : goal.loop-db-preserved
loop-db-preserved c =
    done_next (all_since_in c.args.since) (all_since_in c.args.since) c.args.forest.now.entries c.loop-db._db-iterator c.next.new.self (c.in-Some._db.now, c.in-Some.tree.now)
    (λ x own. own) c.in-Some.ensures.steps (c.is_since.ensures c.if-not-is_since.false) c.loop-db.invariant

pub returns : goal.returns
returns c = λ yes. done_ended (all_since_in c.args.since) c.args.forest.now.entries c.loop-db._db-iterator c.in-None.ensures.steps.0 c.loop-db.invariant
