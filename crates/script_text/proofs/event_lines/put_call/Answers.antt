use Rattle.script_text.specs.Report.{answer_text}
use Rattle.script_text.proofs.ReportLines.{adds_line}
use Rattle.script_text.proofs.event_lines.put_call.Goals as goal

pub returns-then-has_text : goal.returns-then-has_text
returns-then-has_text g c =
    adds_line c.args.session c.args.line (answer_text c.args.answer.now) c.if-has_text.ensures c.put_front.ensures c.put_answer.ensures c.put.ensures
