use Rattle.std.proofs.Common.{ap, decimal}
use Rattle.script_text.specs.Report.{answer_text}
use Rattle.text_out.proofs.BufferedText.{adds_then, adds_same}
use Rattle.script_text.proofs.ReportLines.{adds_step}
use Rattle.script_text.proofs.event_lines.put_step.Goals as goal

pub returns-then-has_text : goal.returns-then-has_text
returns-then-has_text g c =
    let line = adds_same _ _ (ap decimal c.from.ensures) c.put_number.ensures in
    adds_step c.args.line (answer_text c.args.answer.now) c.if-has_text.ensures (adds_then line c.put.ensures) c.put_answer.ensures c.put-then-has_text.ensures
