use Rattle.std.proofs.Common.{◌≡◌, ◌∙◌, sym}
use Rattle.open_cursors.specs.Under.{IsUnderIn}
use Rattle.environment.proofs.CursorLaws.{dup_ended, dup_absent, dup_taken, dup_opens, place_found, some_told}
use Rattle.environment.proofs.environment.Environment.duplicate_of.Goals as goal

pub returns-then-lacks_number : goal.returns-then-lacks_number
returns-then-lacks_number g c = λ most st at. dup_ended st c.args.session c.args.cursor c.args.to (sym (c.lacks_number.ensures most st at) ∙ c.if-lacks_number.true)

pub returns-in_default : goal.returns-in_default
returns-in_default g c = λ most st at.
    dup_absent st c.args.session c.args.cursor c.args.to (sym (c.lacks_number.ensures most st at) ∙ c.if-lacks_number.false) c.in_ok-opened.field-0 (c.in_ok-opened.ensures.place st at.sessions_at) c.in_default.is

pub returns-then-is_some : goal.returns-then-is_some
returns-then-is_some g c = λ most st at.
    dup_taken st c.args.session c.args.cursor c.args.to (sym (c.lacks_number.ensures most st at) ∙ c.if-lacks_number.false) c.in_ok-opened.field-0 (c.in_ok-opened.ensures.place st at.sessions_at) c.in-Some.opened c.in-Some.is
    (place_found c.cursor.result _ _ (c.cursor.ensures.place st at.sessions_at) c.is_some.ensures ∙ c.if-is_some.true)

pub returns : goal.returns
returns g c = λ most st at.
    dup_opens st c.args.session c.args.cursor c.args.to (sym (c.lacks_number.ensures most st at) ∙ c.if-lacks_number.false) c.in_ok-opened.field-0 (c.in_ok-opened.ensures.place st at.sessions_at) c.in-Some.opened c.in-Some.is
    (some_told (λ x. x.session ≡ c.args.session) c.in_ok-opened.field-0 c.in-Some.opened c.in-Some.is c.in_ok-opened.ensures.its)
    (some_told (λ x. IsUnderIn st.store st.numbers x.place.db x.name x.kind) c.in_ok-opened.field-0 c.in-Some.opened c.in-Some.is (c.in_ok-opened.ensures.under st at.sessions_at))
    (place_found c.cursor.result _ _ (c.cursor.ensures.place st at.sessions_at) c.is_some.ensures ∙ c.if-is_some.false)
