use Rattle.std.proofs.Common.{◌∙◌, is_some, ap, sym}
use Rattle.environment.proofs.ListLaws.{same_some}
use Rattle.environment.proofs.environment.Environment.list.Goals as goal

pub list_inside-requires-clause-inside : goal.list_inside-requires-clause-inside
list_inside-requires-clause-inside g c = λ most st at.
    ap is_some (sym (c.of_session.ensures st at.sessions_at)) ∙ same_some c.of_session.result ∙ sym c.is_some.ensures ∙ c.if-is_some.true

pub list_outside-requires-clause-outside : goal.list_outside-requires-clause-outside
list_outside-requires-clause-outside g c = λ most st at.
    ap is_some (sym (c.of_session.ensures st at.sessions_at)) ∙ same_some c.of_session.result ∙ sym c.is_some.ensures ∙ c.if-is_some.false
