use Rattle.std.proofs.Common.{inl, refl}
use Rattle.std.proofs.Math.Nat.{le_refl, le_trans}
use Rattle.dirty_nodes.proofs.Forests.{all_from_in, done_ended, done_start, done_next, each_get, from_less, mark_found, mark_in}
use Rattle.dirty_nodes.proofs.forest.least_mark_in.Goals as goal

pub loop-db-init : goal.loop-db-init
loop-db-init c = (le_refl c.args.bound, done_start (all_from_in c.args.bound) c.args.forest.now.entries c.into_iter-db-iterator.result c.into_iter-db-iterator.ensures.into_iter_gives.0, inl refl)

pub loop-db-preserved : goal.loop-db-preserved
loop-db-preserved c = (
  le_trans c.least_mark-least.ensures.upto c.loop-db.invariant.0,
  done_next (all_from_in c.loop-db.least) (all_from_in c.least_mark-least.result) c.args.forest.now.entries c.loop-db._db-iterator c.next.new.self (c.in-Some._db.now, c.in-Some.tree.now)
      (from_less c.loop-db.least c.least_mark-least.result c.least_mark-least.ensures.upto) c.in-Some.ensures.steps (c.least_mark-least.ensures.all, c.least_mark-least.ensures.parts, c.least_mark-least.ensures.rising) c.loop-db.invariant.1,
  mark_in c.args.forest.now.entries c.args.bound c.loop-db.least c.least_mark-least.result (all_from_in c.loop-db.least) c.loop-db._db-iterator c.next.new.self (c.in-Some._db.now, c.in-Some.tree.now) c.loop-db.invariant.1 c.in-Some.ensures.steps
      c.least_mark-least.ensures.some c.loop-db.invariant.2,
)

pub returns-clause-upto : goal.returns-clause-upto
returns-clause-upto c = c.loop-db.invariant.0

pub returns-clause-all : goal.returns-clause-all
returns-clause-all c = each_get (all_from_in c.loop-db.least) c.args.forest.now (done_ended (all_from_in c.loop-db.least) c.args.forest.now.entries c.loop-db._db-iterator c.in-None.ensures.steps.0 c.loop-db.invariant.1)

pub returns-clause-some : goal.returns-clause-some
returns-clause-some c = mark_found c.args.forest.now c.args.bound c.loop-db.least c.into_iter-db-iterator.ensures.into_iter_gives.6 c.loop-db.invariant.2
