-- What refuses a call at a cursor late, and where its cursor stands.
use Rattle.std.proofs.Common.{◌≡◌, ◌∙◌, ℕ, true, false, cond, Option, None, Some, is_some, option_map, refl, ap, sym, subst}
use Rattle.std.specs.Prelude.{IsSome}
use Rattle.std.proofs.lemmas.Option.{none-some}
use Rattle.store_model.specs.declared.answer.Answer.{Answer}
use Rattle.store_model.specs.declared.answer.Answer.TheVariants.{IdsEnded, NoCursor}
use Rattle.store_model.specs.declared.call.Call.{Call}
use Rattle.store_model.specs.declared.call.Call.TheVariants.{Count, Cur, CPutCur, CDel, CPut}
use Rattle.store_model.specs.declared.place.Place.{Place}
use Rattle.store_model.specs.declared.store.Database.{Database}
use Rattle.store_model.specs.Refusals.{or_refusal}
use Rattle.je_answers.specs.declared.active.Active.{Active}
use Rattle.je_answers.specs.Standing.{Standing, active_of, database_at, place_at}
use Rattle.je_answers.specs.Views.{Target, cursor_target, target, target_at, target_of}
use Rattle.je_answers.specs.Refusals.{cursor_refusal, late_refusal, number_refusal, target_refusal}
use Rattle.log_replay.specs.Rows.{Rows}
use Rattle.open_cursors.specs.declared.open_cursor.OpenCursor.{OpenCursor}
use Rattle.open_cursors.specs.Under.{IsUnderIn}
use Rattle.txn_log.specs.Committing.{MakesStore}
use Rattle.engine.proofs.CalmAnswers.{IsCalm}
use Rattle.standing_laws.specs.Right.{AreSound}
use Rattle.db_catalog.specs.declared.found_db.FoundDb.{FoundDb}
use Rattle.environment.specs.Access.{IsLateAt, refuses_in}
use Rattle.environment.specs.Valid.{made_at}
use Rattle.environment.specs.Calls.{IsAtCursor}
use Rattle.environment.specs.declared.late_at.LateAt.TheVariants.{Refused, Stands}
use Rattle.environment.specs.declared.spot.Spot.{Spot}
use Rattle.environment.proofs.LateLaws.{IsKnownAs, known_as, number_ended, number_is_none, target_refuses}

-- ---- by the number of its cursor

abbrev late_of : Option Answer → Standing → ℕ → Call → ℕ → Option Answer
late_of number st session call cursor = or_refusal number (or_refusal (cursor_refusal cursor (st.places session)) (or_refusal None (target_refusal call (cursor_target st session cursor))))

abbrev number_of : Standing → ℕ → Option Answer
number_of st session = number_refusal st.last_txn (active_of session st.actives)

late_is : (st : Standing) (session : ℕ) (call : Call) (cursor : ℕ) → IsAtCursor cursor call → late_refusal st session call ≡ late_of (number_of st session) st session call cursor
late_is st session (Count n) cursor is = ap (late_of (number_of st session) st session (Count n)) is
late_is st session (Cur n motion rmw) cursor is = ap (late_of (number_of st session) st session (Cur n motion rmw)) is
late_is st session (CPutCur n value) cursor is = ap (late_of (number_of st session) st session (CPutCur n value)) is
late_is st session (CDel n) cursor is = ap (late_of (number_of st session) st session (CDel n)) is
late_is st session (CPut n key value mode) cursor is = ap (late_of (number_of st session) st session (CPut n key value mode)) is
late_is st session call cursor is = absurd is

target_is : (st : Standing) (session : ℕ) (call : Call) (cursor : ℕ) → IsAtCursor cursor call → target_of st session call ≡ cursor_target st session cursor
target_is st session (Count n) cursor is = ap (cursor_target st session) is
target_is st session (Cur n motion rmw) cursor is = ap (cursor_target st session) is
target_is st session (CPutCur n value) cursor is = ap (cursor_target st session) is
target_is st session (CDel n) cursor is = ap (cursor_target st session) is
target_is st session (CPut n key value mode) cursor is = ap (cursor_target st session) is
target_is st session call cursor is = absurd is

-- ---- by where it stands

module _ (rows : Rows) (st : Standing) (makes : MakesStore rows st.last_db st) (session cursor : ℕ) (call : Call) (at : IsAtCursor cursor call) where
  late_by : (o : Option Place) → place_at cursor (st.places session) ≡ o →
      late_refusal st session call ≡ or_refusal (number_of st session) (or_refusal (cond (is_some o) None (Some NoCursor)) (or_refusal None (target_refusal call (target_at st o))))
  late_by o is =
      late_is st session call cursor at
      ∙ ap (λ (x : Option Place). or_refusal (number_of st session) (or_refusal (cond (is_some x) None (Some NoCursor)) (or_refusal None (target_refusal call (target_at st x))))) is

  pub spot_ended : is_some (number_of st session) ≡ true → IsLateAt st session call (Refused IdsEnded)
  spot_ended is = (late_is st session call cursor at ∙ ap (λ (n : Option Answer). late_of n st session call cursor) (number_ended st.last_txn (active_of session st.actives) is), refl)

  pub spot_closed : is_some (number_of st session) ≡ false → place_at cursor (st.places session) ≡ None → IsLateAt st session call (Refused NoCursor)
  spot_closed none closed = (late_by None closed ∙ ap (λ (n : Option Answer). or_refusal n (Some NoCursor)) (number_is_none (number_of st session) none), refl)

  module _ (opened : OpenCursor) (open_ : Some opened.place ≡ place_at cursor (st.places session)) (under : IsUnderIn st.store st.numbers opened.place.db opened.name opened.kind) where
    known : IsKnownAs st opened.name under.database
    known = known_as rows st makes opened.name under.database under.its

    there : database_at opened.place.db st ≡ Some under.database
    there = ap (λ (n : ℕ). database_at n st) (sym under.number_is) ∙ known.there

    abbrev on : Target
    on = target st.numbers st.store opened.place.db opened.place.at under.database

    target_there : target_of st session call ≡ Some on
    target_there = target_is st session call cursor at ∙ ap (target_at st) (sym open_) ∙ ap (option_map (target st.numbers st.store opened.place.db opened.place.at)) there

    abbrev spot : FoundDb
    spot = record { number = opened.place.db; kind = opened.kind }

    late_there : is_some (number_of st session) ≡ false → late_refusal st session call ≡ refuses_in (made_at st.numbers st.store) spot call
    late_there none =
        late_by (Some opened.place) (sym open_)
        ∙ ap (λ (n : Option Answer). or_refusal n (target_refusal call (target_at st (Some opened.place)))) (number_is_none (number_of st session) none)
        ∙ ap (λ (d : Option Database). target_refusal call (option_map (target st.numbers st.store opened.place.db opened.place.at) d)) there
        ∙ target_refuses st call spot under.database there under.kind_is

    pub spot_refused : is_some (number_of st session) ≡ false → (answer : Answer) → refuses_in (made_at st.numbers st.store) spot call ≡ Some answer → IsCalm answer → IsLateAt st session call (Refused answer)
    spot_refused none answer refuses calm = (late_there none ∙ refuses, calm)

    -- outside a transaction no cursor is open
    inside : AreSound st → IsSome (active_of session st.actives)
    inside sound = by (active_of session st.actives) refl
      where
        by : (o : Option Active) → active_of session st.actives ≡ o → IsSome o
        by None none = absurd (none-some opened.place (sym (open_ ∙ ap (place_at cursor) (sound.places session none))))
        by (Some a) some = refl

    pub spot_stands : is_some (number_of st session) ≡ false → AreSound st → refuses_in (made_at st.numbers st.store) spot call ≡ None → (stands : Spot) →
        stands ≡ record { name = opened.name; found = record { number = opened.place.db; kind = opened.kind }; at = opened.place.at } → IsLateAt st session call (Stands stands)
    spot_stands none sound refuses stands is = subst (λ (s : Spot). IsLateAt st session call (Stands s)) (sym is) (
      on,
      record {
        late = late_there none ∙ refuses;
        target = target_there;
        over = refl;
        indexes = refl;
        number = refl;
        kind = under.kind_is;
        name = known.name;
        stands = refl;
        is = under.its;
        there = there;
        named = ap st.numbers known.name ∙ under.number_is;
        above = λ zero_. known.above (under.number_is ∙ zero_);
      },
      inside sound,
    )
