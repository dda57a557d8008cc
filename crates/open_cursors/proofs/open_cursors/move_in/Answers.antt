use Rattle.std.proofs.Common.{◌<◌, length, sym, arith}
use Rattle.open_cursors.proofs.MoveSteps.{move_here}
use Rattle.open_cursors.proofs.open_cursors.move_in.Goals as goal

pub returns-then-is_of : goal.returns-then-is_of
returns-then-is_of c =
    let within : c.loop-index.index < length c.loop-index.cursors = omega (arith, c.loop-index-test.true, c.loop-index.auto.cursors) in
    move_here c.args.session c.args.cursor c.args.at c.loop-index.cursors c.args.cursors.now c.loop-index.index c.index-cursors-index.result c.index-cursors-index-then-is_of.result within (sym c.if-is_of.ensures) c.loop-index.invariant
