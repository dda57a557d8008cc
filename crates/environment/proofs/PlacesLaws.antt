-- Where cursors stand, behind calls and transactions of one call.
use Rattle.std.proofs.Common.{◌≡◌, ℕ, ◌==◌, List, [], None, Some, Option, refl, ap, sym, ◌∙◌, subst, ⊎_elim}
use Rattle.std.proofs.lemmas.Bool.{cases_Bool, cond-true, cond-false, eqb-true}
use Rattle.std.proofs.lemmas.Option.{none-some, same_Some}
use Rattle.je_order.specs.declared.name.Name.{Name}
use Rattle.store_model.specs.declared.place.Place.{Place}
use Rattle.store_model.specs.declared.call.Call.{Call}
use Rattle.je_answers.specs.declared.active.Active.{Active}
use Rattle.je_answers.specs.Standing.{Standing, active_of, with_at}
use Rattle.je_answers.specs.After.{moved_to}
use Rattle.open_cursors.specs.declared.open_cursors.OpenCursors.{OpenCursors}
use Rattle.open_cursors.specs.Places.{AreCursorsAt}
use Rattle.open_cursors.proofs.PlaceLaws.{same_places}
use Rattle.standing_laws.specs.Right.{AreSound}
use Rattle.sessions.specs.declared.all_sessions.Sessions.{Sessions}
use Rattle.sessions.specs.AtStanding.{AreCursorsOn, AreSessionsAt, with_places}
use Rattle.environment.specs.declared.moving.Move.{Move}
use Rattle.environment.proofs.EndingLaws.{found_session}
use Rattle.environment.specs.Access.{IsCursorOf, Moves, with_move}

-- a call that moves no cursor leaves the sessions where it would move one
pub stands_unmoved : (s : Sessions) (st : Standing) (a : Active) (call : Call) (place : Option Name) → Moves a.session call place None → AreSessionsAt s st → AreSessionsAt s (with_move a call place st)
stands_unmoved s st a call place unmoved at = record {
  actives = at.actives;
  own = at.own;
  places = record {
    at = subst (λ (l : List Place). AreCursorsAt s.cursors (with_at a.session l st.places)) (sym (unmoved (st.places a.session))) (same_places s.cursors st.places a.session at.places.at);
    under = at.places.under;
  };
  waiting = at.waiting;
  locks = at.locks;
}

-- and one that moves this cursor where the cursor stands elsewhere
pub stands_moved : (s : Sessions) (st : Standing) (a : Active) (call : Call) (place : Option Name) (m : Move) → Moves a.session call place (Some m) → AreSessionsAt s (with_places m.session (moved_to m.cursor m.at (st.places m.session)) st) →
    AreSessionsAt s (with_move a call place st)
stands_moved s st a call place m moves at =
    subst (λ (l : List Place). AreSessionsAt s (with_places a.session l st)) (sym (moves.1 (st.places a.session)))
    (subst (λ (n : ℕ). AreSessionsAt s (with_places n (moved_to m.cursor m.at (st.places n)) st)) moves.0 at)

-- the cursor of a call
pub moves_none : (session : ℕ) (call : Call) (place : Option Name) (o : Option ℕ) → IsCursorOf call o → o ≡ None → Moves session call place None
moves_none session call place None is none = λ places. is place places
moves_none session call place (Some cursor) is none = absurd (none-some cursor (sym none))

pub moves_some : (session cursor : ℕ) (call : Call) (place : Option Name) (o : Option ℕ) → IsCursorOf call o → o ≡ Some cursor → Moves session call place (Some (record { session = session; cursor = cursor; at = place }))
moves_some session cursor call place None is some = absurd (none-some cursor some)
moves_some session cursor call place (Some n) is some = (refl, λ places. is place places ∙ ap (λ (m : ℕ). moved_to m place places) (same_Some n cursor some))

-- a session's move is its transaction's
pub its_moves : (session : ℕ) (a : Active) (as_ : List Active) (call : Call) (place : Option Name) (moves : Option Move) → active_of session as_ ≡ Some a → Moves session call place moves → Moves a.session call place moves
its_moves session a as_ call place moves its is = subst (λ (n : ℕ). Moves n call place moves) (sym (found_session session a as_ its)) is

-- a transaction of one call had no cursor before it
pub placed_again : (o : OpenCursors) (st : Standing) (session : ℕ) → AreSound st → active_of session st.actives ≡ None → AreCursorsOn o st.store st.numbers (with_at session [] st.places) → AreCursorsOn o st.store st.numbers st.places
placed_again o st session sound none stands = record {
  at = record {
    each = λ s. stands.at.each s ∙ ⊎_elim
        (λ e. cond-true (s == session) [] (st.places s) e ∙ sym (ap st.places (eqb-true s session e) ∙ sound.places session none))
        (λ e. cond-false (s == session) [] (st.places s) e)
        (cases_Bool (s == session));
    apart = stands.at.apart;
  };
  under = stands.under;
}

-- a session's places, taken out twice
pub gone_again : (session : ℕ) (others : List Place) (places : ℕ → List Place) (s : ℕ) → with_at session [] (with_at session others places) s ≡ with_at session [] places s
gone_again session others places s = ⊎_elim
    (λ e. cond-true (s == session) [] (with_at session others places s) e ∙ sym (cond-true (s == session) [] (places s) e))
    (λ e. cond-false (s == session) [] (with_at session others places s) e ∙ (cond-false (s == session) others (places s) e ∙ sym (cond-false (s == session) [] (places s) e)))
    (cases_Bool (s == session))
