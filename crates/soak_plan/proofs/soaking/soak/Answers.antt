use Rattle.std.proofs.Common.{rules, ◌≡◌, ◌+◌, ◌∙◌, arith}
use Rattle.soak_plan.specs.Rounds.{soak_of}
use Rattle.soak_plan.proofs.RoundLaws.{round_done, all_done, few_steps}
use Rattle.soak_plan.proofs.soaking.soak.Goals as goal

pub loop-done-init : goal.loop-done-init
loop-done-init c = search rules

pub loop-done-preserved : goal.loop-done-preserved
loop-done-preserved c =
    let more = round_done (soak_of c.args.seed) c.loop-done.lines.items c.loop-done.done c.loop-done.line c.loop-done.state c.in_ok-session.field-0 c.loop-done-test.true c.in_ok-session.ensures c.loop-done.invariant.1 in
    (omega (arith, c.in_ok-line.ensures.1, few_steps (c.loop-done.done + 1) (c.loop-done.line + 1), c.loop-done.invariant.0), rw (c.in_ok-line.ensures.0, c.in_ok-push-3.ensures.items, c.in_ok-line.ensures.1) more)

pub returns : goal.returns
returns c = c.from_vec.ensures ∙ all_done (soak_of c.args.seed) c.loop-done.lines.items c.loop-done.done c.loop-done.line c.loop-done.state (omega (arith, c.loop-done-test.false)) c.loop-done.invariant.1
