use Rattle.std.proofs.Common.{◌∙◌, sym}
use Rattle.environment.proofs.TurningAnswers.{flush_err, flush_ok}
use Rattle.environment.proofs.environment.Environment.flush_node.Goals as goal

pub returns-in-Ok-clause-flushes : goal.returns-in-Ok-clause-flushes
returns-in-Ok-clause-flushes g c = λ st at.
    flush_ok g.D.Disk.meaning c.args.self.now c.flush-flushed.new.trees c.in_ok-owed.owed _ c.flush-flushed.result
    (sym c.is_under_way.ensures ∙ c.if-not-is_under_way.false) (c.in_ok-owed.ensures st at) c.flush-flushed.ensures.flushes c.in-Ok.node c.flushed_answer.result c.in-Ok.is
    c.flushed_answer.ensures

pub returns-in-Err-clause-flushes : goal.returns-in-Err-clause-flushes
returns-in-Err-clause-flushes g c = λ st at.
    flush_err g.D.Disk.meaning c.args.self.now c.flush-flushed.new.trees c.in_ok-owed.owed _ c.flush-flushed.result
    (sym c.is_under_way.ensures ∙ c.if-not-is_under_way.false) (c.in_ok-owed.ensures st at) c.flush-flushed.ensures.flushes c.in-Err.error c.answer_to.result
    c.answer_to.new.kept c.in-Err.is c.answer_to.ensures.answer c.answer_to.ensures.kept
