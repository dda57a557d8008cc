use Rattle.std.proofs.Common.{◌+◌, ◌-◌, length, arith}
use Rattle.in_tree.proofs.Placings.{back_begin, back_step, back_end}
use Rattle.in_tree.proofs.preparing.take_back_all.Goals as goal

pub loop-i-init : goal.loop-i-init
loop-i-init c = λ fanout before placed. back_begin fanout c.args.changes.now c.args.rooms.now before c.args.trees.now placed

pub loop-i-preserved : goal.loop-i-preserved
loop-i-preserved c = λ fanout before placed.
    back_step fanout c.args.changes.now c.args.rooms.now c.index-changes-k.result c.index-rooms-k.result before c.loop-i.trees c.take_back.new.trees (length c.args.rooms.now - c.loop-i.i) (length c.args.rooms.now - (c.loop-i.i + 1))
    (omega arith) (omega arith) (omega arith) c.index-changes-k.is c.index-rooms-k.is c.take_back.ensures (c.loop-i.invariant fanout before placed)

pub returns : goal.returns
returns c = λ fanout before placed. back_end fanout c.args.changes.now c.args.rooms.now before c.loop-i.trees (length c.args.rooms.now - c.loop-i.i) (omega arith) (c.loop-i.invariant fanout before placed)
