use Rattle.std.proofs.Math.Nat.{le_trans}
use Rattle.std.proofs.Common.{arith}
use Rattle.tree_nodes.proofs.MarkLaws.{mark_more, marked_more, none_marked}
use Rattle.tree_nodes.proofs.marks.least_mark.Goals as goal

pub loop-place-preserved : goal.loop-place-preserved
loop-place-preserved c = (
  le_trans c.lesser_at-least.ensures.upto c.loop-place.invariant.0,
  marked_more c.args.names.now c.args.nodes.now c.loop-place.place c.loop-place.least c.lesser_at-least.result c.lesser_at-least.ensures.upto c.lesser_at-least.ensures.from c.loop-place.invariant.1,
  mark_more c.args.bound c.args.names.now c.args.nodes.now c.loop-place.place c.loop-place.least c.lesser_at-least.result c.lesser_at-least.ensures.some c.loop-place.invariant.2,
)

pub returns-clause-all : goal.returns-clause-all
returns-clause-all c =
    none_marked c.loop-place.least c.args.names.now c.args.nodes.now c.loop-place.place (let same = c.requires in let test = c.loop-place-test.false in omega (arith, same, test)) c.loop-place.invariant.1
