-- A call that waited, and is a transaction of its own.
use Rattle.std.proofs.Common.{◌≡◌, ◌∙◌, ℕ, ◌==◌, Bool, true, cond, filter, length, List, [], None, Some, inl, ap, refl, sym, subst}
use Rattle.je_disk.specs.DiskMeaning.{DiskMeaning}
use Rattle.je_order.specs.declared.txn_id.TxnId.{TxnId}
use Rattle.store_model.specs.declared.answer.Answer.{Answer}
use Rattle.store_model.specs.declared.answer.Fault.TheVariants.{Disk}
use Rattle.store_model.specs.declared.call.Call.{Call}
use Rattle.store_model.specs.declared.record_change.RecordChange.{RecordChange}
use Rattle.store_model.specs.Records.{Evaluated}
use Rattle.je_answers.specs.declared.active.Active.{Active}
use Rattle.je_answers.specs.Standing.{Standing, active_of}
use Rattle.je_answers.specs.Views.{Target, needs_in, outcome_of}
use Rattle.je_answers.specs.Locking.{all_got}
use Rattle.je_answers.specs.After.{answered, with_locks, with_outcome}
use Rattle.log_replay.proofs.ListLaws.{found}
use Rattle.active_txns.specs.Own.{AreCounted}
use Rattle.sessions.specs.declared.all_sessions.Sessions.{Sessions}
use Rattle.active_txns.specs.Own.{has_changes}
use Rattle.sessions.specs.AtStanding.{AreSessionsAt, owing}
use Rattle.engine.specs.declared.engine.Engine.{Engine}
use Rattle.engine.proofs.CalmAnswers.{IsCalm, faultless, unnumbered}
use Rattle.environment.specs.declared.environment.Environment.{Environment}
use Rattle.environment.specs.declared.outcome.Outcome.{Outcome}
use Rattle.environment.specs.declared.written.Written.{Written}
use Rattle.environment.specs.Access.{HasAccessed, IsTakenUp, with_move}
use Rattle.environment.specs.Ending.{HasAbandoned}
use Rattle.environment.specs.Steps.{HasNotCome, IsCallStep, StandsAt}
use Rattle.environment.specs.Valid.{AreBare}
use Rattle.environment.proofs.Answering.{owed_is, within_more}
use Rattle.environment.proofs.CallChanges.{none_changed}
use Rattle.environment.proofs.EarlyLaws.{told_so}
use Rattle.environment.proofs.EndingLaws.{abandoned, abandoned_near, found_session, near_owed, within_then}
use Rattle.environment.proofs.FinishLaws.{Changes, Evaluates, Takes, calm_taken, elsewhere_at, in_sessions, same_own, without}
use Rattle.environment.proofs.OwnLaws.{not_taken}

-- it has changed nothing
pub bare_own : (st : Standing) (session : ℕ) (a : Active) → AreBare st → active_of session st.actives ≡ Some a → a.is_auto ≡ true → st.own a.txn.0 ≡ []
bare_own st session a bare its auto = (found (λ (b : Active). b.is_auto ≡ true → st.own b.txn.0 ≡ []) (λ b. b.session == session) st.actives a its bare).0 auto

module _ {D : Type 0} (meaning : DiskMeaning D) where
  -- it changes nothing, and ends
  ends_nothing : (before e new : Environment D) (s : Sessions) (most session : ℕ) (st : Standing) (a : Active) (call : Call) (g : Target) (answer : Answer) (changes : List (ℕ × RecordChange))
      (ev : Evaluated) → IsTakenUp meaning most before e st session a call g answer changes → AreSessionsAt s (with_move a call ev.place (answered a call g st)) → HasAbandoned (in_sessions s before) new a.session a.txn →
      answer ≡ ev.answer → IsCalm answer → Changes meaning most before new st a call g answer (without meaning ev) true
  ends_nothing before e new s most session st a call g answer changes ev up stands h is calm =
      let nothing : Evaluated = without meaning ev in
      let after : Standing = with_outcome a call g nothing (answered a call g st) in
      let same : st.own ≡ after.own = same_own a.txn.0 st.own in
      let stands_now : AreSessionsAt s after = record { actives = stands.actives; own = subst (AreCounted s.txns.own.entries) same stands.own; places = stands.places; waiting = stands.waiting; locks = stands.locks } in
      let here : StandsAt most meaning (in_sessions s before) after = elsewhere_at most meaning before s st after.own after.places after.locks same stands_now up.here in
      let its : active_of a.session st.actives ≡ Some a = ap (λ (n : ℕ). active_of n st.actives) (found_session session a st.actives up.its) ∙ up.its in
      let owes : owing after ≡ owing st = ap (λ (own : ℕ → List (ℕ × RecordChange)). length (filter (λ b. has_changes (own b.txn.0)) st.actives)) (sym same) in
      let ended_near = abandoned_near most meaning (in_sessions s before) new after a h stands_now in
      record {
        limit = None;
        has_limit = refl;
        answers = (is, refl);
        here = abandoned most meaning (in_sessions s before) new after a h its (λ none. up.sound.numbers) here;
        numbered = unnumbered answer st.commits calm;
        fault = up.valid ∙ ap (λ (b : Bool). cond b (Some Disk) None) (sym (faultless answer calm));
        logged = subst (λ (b : Bool). IsCallStep meaning b before.engine new.engine.trees.log [] []) (sym (faultless answer calm)) (inl (h.log, refl, refl));
        near = within_more before new [] (within_then before (in_sessions s before) new (near_owed before s (owed_is s after stands_now ∙ owes ∙ sym (owed_is before.sessions st up.here.sessions_at))) ended_near);
      }

  nothing_evaluates : (before e new : Environment D) (s : Sessions) (most session : ℕ) (st : Standing) (a : Active) (call : Call) (g : Target) (answer : Answer) (changes : List (ℕ × RecordChange))
      (ev : Evaluated) (cs : List RecordChange) → ev.changes ≡ cs → cs ≡ [] → a.is_auto ≡ true → IsTakenUp meaning most before e st session a call g answer changes → AreSessionsAt s (with_move a call ev.place (answered a call g st)) →
      HasAbandoned (in_sessions s before) new a.session a.txn → answer ≡ ev.answer → IsCalm answer → Evaluates meaning most before new st a call g answer a.is_auto ev
  nothing_evaluates before e new s most session st a call g answer changes ev cs has empty auto up stands h is calm =
      subst (λ (l : List RecordChange). Evaluates meaning most before new st a call g answer a.is_auto (record { answer = ev.answer; answered = ev.answered; changes = l; place = ev.place }))
      (sym (has ∙ empty))
      (subst (Changes meaning most before new st a call g answer (without meaning ev)) (sym auto)
      (ends_nothing before e new s most session st a call g answer changes ev up stands h is calm))

  pub finishes_again : (before e new : Environment D) (s : Sessions) (most session line : ℕ) (st : Standing) (a : Active) (call : Call) (g : Target) (answer : Answer) (changes : List (ℕ × RecordChange))
      (o : Outcome) → IsTakenUp meaning most before e st session a call g answer changes → changes ≡ [] → a.is_auto ≡ true →
      AreSessionsAt s (with_move a call (outcome_of st a call g).place (with_locks a (all_got a.txn (needs_in st a call g) st.locks.at) st)) → (txn : TxnId) → a.txn ≡ txn → HasAbandoned (in_sessions s e) new session txn → o.answer ≡ answer → o.victims ≡ [] →
      HasAccessed meaning most before new st a line call g o.answer o.victims
  finishes_again before e new s most session line st a call g answer changes o up empty auto stands txn its h told alone =
      told_so (HasAccessed meaning most before new st a line call g) o answer told alone
      (subst (Takes meaning most before new st a line call g answer) (sym up.taken.free)
      (nothing_evaluates before e new s most session st a call g answer changes (outcome_of st a call g) (outcome_of st a call g).changes refl (none_changed st a g (outcome_of st a call g).changes (sym up.changes_are ∙ empty)) auto up stands
      (subst (λ (n : ℕ). HasAbandoned (in_sessions s before) new n a.txn) (sym (found_session session a st.actives up.its))
      (subst (λ (t : TxnId). HasAbandoned (in_sessions s before) new session t) (sym its)
      (subst (λ (w : Written). HasAbandoned (record { engine = before.engine; sessions = s; written = w }) new session txn) up.written
      (subst (λ (x : Engine D). HasAbandoned (record { engine = x; sessions = s; written = e.written }) new session txn) up.engine h))))
      up.answer_is (calm_taken meaning before e most session st a call g answer changes up)))

  -- there was no memory
  pub not_again : (before e : Environment D) (s : Sessions) (most session : ℕ) (st : Standing) (a : Active) (call : Call) (g : Target) (answer : Answer) (changes : List (ℕ × RecordChange)) →
      IsTakenUp meaning most before e st session a call g answer changes → AreSessionsAt s st → HasNotCome meaning most before (in_sessions s e) st
  not_again before e s most session st a call g answer changes up stands =
      subst (λ (w : Written). HasNotCome meaning most before (record { engine = e.engine; sessions = s; written = w }) st) (sym up.written)
      (subst (λ (x : Engine D). HasNotCome meaning most before (record { engine = x; sessions = s; written = before.written }) st) (sym up.engine)
      (not_taken meaning most before s st up.here stands))
