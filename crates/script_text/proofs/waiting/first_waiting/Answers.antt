use Rattle.std.proofs.Common.{refl, arith}
use Rattle.script_text.proofs.WaitingCalls.{first_step}
use Rattle.script_text.proofs.waiting.first_waiting.Goals as goal

pub loop-first-preserved : goal.loop-first-preserved
loop-first-preserved c =
    (omega arith, first_step c.args.seen.now c.loop-first.first c.index-seen-first.result _ c.loop-first-test.true c.index-seen-first.is refl c.loop-first.invariant.1 c.if-not-waits.ensures)
