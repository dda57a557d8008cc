use Rattle.text_out.proofs.BufferedText.{adds_same}
use Rattle.script_text.proofs.ReportLines.{short_is}
use Rattle.script_text.proofs.answer_texts.put_answer.Goals as goal

pub returns-in_default : goal.returns-in_default
returns-in_default g c =
    adds_same _ _ (short_is c.args.answer.now c.in_default.not-Rec c.in_default.not-IndexRec c.in_default.not-Names c.in_default.not-Waiting c.in_default.not-Deadlock c.in_default.not-MustAbort) c.put_short.ensures
