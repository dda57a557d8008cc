use Rattle.std.proofs.Common.{◌-◌, ◌∙◌, ap, sym, arith}
use Rattle.std.specs.Option.{is_some}
use Rattle.script_text.proofs.CommitCounts.{changed_before, changed_begun, changed_here}
use Rattle.script_text.proofs.counting.changed_by.Goals as goal

pub returns-then-is_some : goal.returns-then-is_some
returns-then-is_some c =
    let left = c.loop-left.left in
    changed_begun c.args.events.now left (left - 1) _ c.args.session (omega (arith, c.loop-left-test.true)) (omega (arith, c.loop-left-test.true, c.loop-left.invariant.0))
    c.index-events-left.is c.loop-left.invariant.1 (ap is_some (sym c.begins.ensures) ∙ sym c.is_some.ensures ∙ c.if-is_some.true)

pub returns-then-has_changed : goal.returns-then-has_changed
returns-then-has_changed c =
    let left = c.loop-left.left in
    changed_here c.args.events.now left (left - 1) _ c.args.session (omega (arith, c.loop-left-test.true)) (omega (arith, c.loop-left-test.true, c.loop-left.invariant.0))
    c.index-events-left.is c.loop-left.invariant.1 (ap is_some (sym c.begins.ensures) ∙ sym c.is_some.ensures ∙ c.if-is_some.false) (sym c.has_changed.ensures ∙ c.if-has_changed.true)

pub loop-left-preserved : goal.loop-left-preserved
loop-left-preserved c =
    let left = c.loop-left.left in (
      omega (arith, c.loop-left-test.true, c.loop-left.invariant.0),
      changed_before c.args.events.now left (left - 1) _ c.args.session (omega (arith, c.loop-left-test.true)) (omega (arith, c.loop-left-test.true, c.loop-left.invariant.0))
          c.index-events-left.is c.loop-left.invariant.1 (ap is_some (sym c.begins.ensures) ∙ sym c.is_some.ensures ∙ c.if-is_some.false) (sym c.has_changed.ensures ∙ c.if-has_changed.false),
    )
