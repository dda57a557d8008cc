use Rattle.std.proofs.Common.{◌-◌, arith}
use Rattle.script_text.proofs.WaitingCalls.{begun_before, begun_here}
use Rattle.script_text.proofs.waiting.begun_by.Goals as goal

pub returns-in-Some : goal.returns-in-Some
returns-in-Some c =
    let left = c.loop-left.left in
    begun_here c.args.events.now left (left - 1) c.index-events-left.result c.args.session c.in-Some.durability (omega (arith, c.loop-left-test.true)) (omega (arith, c.loop-left-test.true, c.loop-left.invariant.0))
    c.index-events-left.is c.loop-left.invariant.1 c.in-Some.ensures

pub loop-left-preserved : goal.loop-left-preserved
loop-left-preserved c =
    let left = c.loop-left.left in (
      omega (arith, c.loop-left-test.true, c.loop-left.invariant.0),
      begun_before c.args.events.now left (left - 1) c.index-events-left.result c.args.session (omega (arith, c.loop-left-test.true)) (omega (arith, c.loop-left-test.true, c.loop-left.invariant.0))
          c.index-events-left.is c.loop-left.invariant.1 c.in-None.ensures,
    )
