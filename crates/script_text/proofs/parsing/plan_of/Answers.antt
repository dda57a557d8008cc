use Rattle.std.proofs.Common.{arith}
use Rattle.text_lines.specs.Lines.{text_lines}
use Rattle.script_text.specs.Grammar.{lines_give}
use Rattle.script_text.proofs.ScriptLines.{good_line}
use Rattle.script_text.proofs.parsing.plan_of.Goals as goal

pub loop-rest-preserved : goal.loop-rest-preserved
loop-rest-preserved c =
    let more = good_line (lines_give 1 (text_lines c.args.input.now)) c.loop-rest.lines.items c.loop-rest.line c.loop-rest.rest.now c.cut_line.result.0.now c.cut_line.result.1.now c.in_ok-given_by_line.field-0 c.loop-rest.invariant.1 c.cut_line.ensures.lines c.in_ok-given_by_line.ensures.answer in
    (omega (arith, c.in_ok-given_by_line.ensures.within), rw c.in_ok-keep.ensures more)
