-- A call that begins to wait: where it leaves the sessions.
use Rattle.std.proofs.Common.{◌≡◌, not, List, [], ◌∷◌, ◌++◌, None, Some, Option, ap, ap₂, sym, ◌∙◌, subst}
use Rattle.std.specs.List.{filter}
use Rattle.store_model.specs.declared.victim.Victim.{Victim}
use Rattle.je_answers.specs.declared.wait.Wait.{Wait}
use Rattle.store_model.specs.declared.answer.Fault.{Fault}
use Rattle.je_answers.specs.declared.active.Active.{Active}
use Rattle.je_answers.specs.Standing.{LockState, Standing}
use Rattle.je_answers.specs.After.{marked, is_victim, all_ended, autos_in, without_waits_of, with_victims}
use Rattle.active_txns.specs.Marks.{HaveOwnSessions}
use Rattle.active_txns.specs.Own.{AreCounted, OwnEntries}
use Rattle.open_cursors.specs.declared.open_cursors.OpenCursors.{OpenCursors}
use Rattle.txn_locks.specs.declared.call_locks.CallLocks.{CallLocks}
use Rattle.txn_locks.specs.Taking.{state_of}
use Rattle.sessions.specs.declared.all_sessions.Sessions.{Sessions}
use Rattle.sessions.specs.Waiting.{all_back}
use Rattle.sessions.proofs.Backs.{told_among, backs_marked}
use Rattle.sessions.specs.AtStanding.{AreCursorsOn, AreSessionsAt, AreLocksAt}
use Rattle.standing_laws.proofs.Marks.{marked_own, ends_marked}

-- what telling left, and what was given back and ended after it
abbrev with_locks_of : CallLocks → Sessions → Sessions
with_locks_of locks s = record { txns = s.txns; locks = locks; cursors = s.cursors; waiting = s.waiting }

given_at : (f : Option Fault) (given old : CallLocks) (l l2 : List Active) (state : LockState) → state_of given.locks ≡ all_back l (state_of old.locks) → ((x : LockState) → all_back l x ≡ all_back l2 x)
    → AreLocksAt f old.locks state → AreLocksAt f given.locks (all_back l2 state)
given_at None given old l l2 state is same at = is ∙ (ap (all_back l) at ∙ same state)
given_at (Some first) given old l l2 state is same at = tt

pub stop_stands : (vs us ends_of : List Victim) (w : Wait) (old mid new : Sessions) (given : CallLocks) (as_ : List Active) → us ≡ vs → ends_of ≡ vs → as_ ≡ mid.txns.actives.items
    → mid.txns.actives.items ≡ marked vs old.txns.actives.items → mid.txns.own.entries ≡ old.txns.own.entries
    → mid.waiting.items ≡ filter (λ x. not (is_victim x.session vs)) (old.waiting.items ++ w ∷ []) → mid.locks ≡ old.locks → mid.cursors ≡ old.cursors
    → state_of given.locks ≡ all_back (told_among us as_) (state_of mid.locks.locks)
    → ((st : Standing) → HaveOwnSessions st.actives → AreSessionsAt (with_locks_of given mid) st → AreSessionsAt new (all_ended (autos_in ends_of st.actives) st))
    → (st : Standing) → HaveOwnSessions st.actives → AreSessionsAt old st → AreSessionsAt new (with_victims vs (record st { waiting = st.waiting ++ w ∷ [] }))
stop_stands vs us ends_of w old mid new given as_ is ended_is list marks own waiting locks cursors back ends st apart at =
    let next : Standing = without_waits_of vs (record st { waiting = st.waiting ++ w ∷ [] }) in
    let marked_now : as_ ≡ marked vs st.actives = list ∙ (marks ∙ ap (marked vs) at.actives) in
    let gives : state_of given.locks ≡ all_back (told_among vs (marked vs st.actives)) (state_of old.locks.locks) =
    back ∙ (ap₂ (λ (v : List Victim) (l : List Active). all_back (told_among v l) (state_of mid.locks.locks)) is marked_now ∙ ap (λ (l : CallLocks). all_back (told_among vs (marked vs st.actives)) (state_of l.locks)) locks) in
    let there : AreSessionsAt (with_locks_of given mid) next = record {
      actives = marks ∙ ap (marked vs) at.actives;
      own = subst (λ (entries : OwnEntries). AreCounted entries st.own) (sym own) at.own;
      places = subst (λ (o : OpenCursors). AreCursorsOn o st.store st.numbers st.places) (sym cursors) at.places;
      waiting = waiting ∙ ap (λ (ws : List Wait). filter (λ x. not (is_victim x.session vs)) (ws ++ w ∷ [])) at.waiting;
      locks = given_at st.fault given old.locks (told_among vs (marked vs st.actives)) (told_among vs st.actives) st.locks gives (backs_marked vs vs st.actives) at.locks;
    } in
    subst (AreSessionsAt new) (ap (λ l. all_ended (autos_in l (marked vs st.actives)) next) ended_is ∙ ends_marked vs vs st.actives next) (ends next (marked_own vs st.actives apart) there)
