use Rattle.std.proofs.Common.{◌∙◌, sym}
use Rattle.environment.proofs.TurningAnswers.{finish_err, finish_ok, is_finish}
use Rattle.environment.proofs.environment.Environment.finish_checkpoint.Goals as goal

pub returns-in-Ok-clause-finishes : goal.returns-in-Ok-clause-finishes
returns-in-Ok-clause-finishes g c = λ st at.
    finish_ok g.D.Disk.meaning c.args.self.now c.finish-ended.new.trees c.finish-ended.new.self c.finish_of-finish.result _ c.finish-ended.result
    (sym c.is_under_way.ensures ∙ c.if-not-is_under_way.false)
    (is_finish g.D.Disk.meaning c.args.self.now c.finish_of-finish.result c.least_first.result c.in_ok-owed.owed _ c.finish_of-finish.ensures c.least_first.ensures (c.in_ok-owed.ensures st at))
    c.finish-ended.ensures.ends (λ redo is. (c.finish-ended.ensures.done redo is).0) (λ none. (c.finish-ended.ensures.stays none).0) c.in-Ok.ended c.note_end.result c.note_end.new.kept c.in-Ok.is c.note_end.ensures.answer
    c.note_end.ensures.kept

pub returns-in-Err-clause-finishes : goal.returns-in-Err-clause-finishes
returns-in-Err-clause-finishes g c = λ st at.
    finish_err g.D.Disk.meaning c.args.self.now c.finish-ended.new.trees c.finish-ended.new.self c.finish_of-finish.result _ c.finish-ended.result
    (sym c.is_under_way.ensures ∙ c.if-not-is_under_way.false)
    (is_finish g.D.Disk.meaning c.args.self.now c.finish_of-finish.result c.least_first.result c.in_ok-owed.owed _ c.finish_of-finish.ensures c.least_first.ensures (c.in_ok-owed.ensures st at))
    c.finish-ended.ensures.ends (λ redo is. (c.finish-ended.ensures.done redo is).0) (λ none. (c.finish-ended.ensures.stays none).0) c.in-Err.error c.answer_to.result c.answer_to.new.kept c.in-Err.is c.answer_to.ensures.answer
    c.answer_to.ensures.kept
