use Rattle.std.proofs.Common.{ℕ, List, ◌∷◌, [], ◌++◌, subst, sym}
use Rattle.dirty_nodes.proofs.Forests.{IsDone, done_ended, done_next, each_get}
use Rattle.dirty_nodes.proofs.NotedTrees.{HasNumber, number_here, number_more}
use Rattle.dirty_nodes.proofs.forest.databases_in.Goals as goal

pub loop-db-preserved : goal.loop-db-preserved
loop-db-preserved c =
    subst (λ (dbs : List ℕ). IsDone (HasNumber dbs) c.args.forest.now.entries c.next.new.self) (sym c.in_ok-push.ensures.items)
    (done_next (HasNumber c.loop-db.dbs.items) (HasNumber (c.loop-db.dbs.items ++ c.in-Some.db.now ∷ [])) c.args.forest.now.entries c.loop-db.db-iterator c.next.new.self (c.in-Some.db.now, c.in-Some._tree.now)
    (number_more c.loop-db.dbs.items c.in-Some.db.now) c.in-Some.ensures.steps (number_here c.loop-db.dbs.items (c.in-Some.db.now, c.in-Some._tree.now)) c.loop-db.invariant)

pub returns : goal.returns
returns c = λ d tree there.
    each_get (HasNumber c.loop-db.dbs.items) c.args.forest.now (done_ended (HasNumber c.loop-db.dbs.items) c.args.forest.now.entries c.loop-db.db-iterator c.in-None.ensures.steps.0 c.loop-db.invariant) d tree there
