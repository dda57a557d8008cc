use Rattle.std.proofs.Common.{◌∙◌, sym}
use Rattle.environment.proofs.CursorLaws.{close_ended, close_absent, close_closes}
use Rattle.environment.proofs.environment.Environment.close_refusal.Goals as goal

pub returns-then-lacks_number-clause-late : goal.returns-then-lacks_number-clause-late
returns-then-lacks_number-clause-late g c = λ most st at. close_ended st c.args.session c.args.cursor (sym (c.lacks_number.ensures most st at) ∙ c.if-lacks_number.true)

pub returns-in-None-clause-late : goal.returns-in-None-clause-late
returns-in-None-clause-late g c = λ most st at.
    close_absent st c.args.session c.args.cursor (sym (c.lacks_number.ensures most st at) ∙ c.if-lacks_number.false) c.cursor.result (c.cursor.ensures.place st at.sessions_at) c.in-None.is

pub returns-in-Some-clause-late : goal.returns-in-Some-clause-late
returns-in-Some-clause-late g c = λ most st at.
    close_closes st c.args.session c.args.cursor (sym (c.lacks_number.ensures most st at) ∙ c.if-lacks_number.false) c.cursor.result _ (c.cursor.ensures.place st at.sessions_at) c.in-Some.is
