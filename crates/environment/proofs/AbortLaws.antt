-- The abort of a transaction.
use Rattle.std.proofs.Common.{◌≡◌, ◌≤◌, ◌∙◌, ℕ, Bor, [], Option, None, Some, Ok, ap, refl, sym, subst, inl, arith}
use Rattle.std.specs.Option.{option_copied}
use Rattle.je_disk.specs.DiskMeaning.{DiskMeaning}
use Rattle.store_model.specs.declared.answer.Answer.{Answer}
use Rattle.store_model.specs.declared.answer.Answer.TheVariants.{Done, DiskFault}
use Rattle.store_model.specs.declared.call.Call.TheVariants.{Abort}
use Rattle.store_model.specs.Refusals.{or_refusal}
use Rattle.je_answers.specs.declared.active.Active.{Active}
use Rattle.je_answers.specs.Standing.{Standing, active_of}
use Rattle.je_answers.specs.Refusals.{late_refusal, number_refusal}
use Rattle.je_answers.specs.Events.{IsEvaluated}
use Rattle.je_answers.specs.After.{after_evaluated, ended_if_any}
use Rattle.je_answers.specs.Journal.{changes_evaluated}
use Rattle.standing_laws.specs.Right.{AreSound}
use Rattle.environment.specs.declared.environment.Environment.{Environment}
use Rattle.environment.specs.Ending.{HasAbandoned}
use Rattle.environment.specs.Limits.{owing_after, written_evaluated}
use Rattle.sessions.specs.AtStanding.{AreSessionsAt}
use Rattle.engine.specs.declared.kept.Kept.{Kept}
use Rattle.environment.specs.Steps.{HasCome, HasStepped, PerformsAnswer, StandsAt}
use Rattle.environment.specs.Whole.{CanGoOn, disk_of}
use Rattle.environment.proofs.Answering.{within_more}
use Rattle.environment.proofs.EndingLaws.{abandoned, abandoned_near, ended_fault, found_session}

-- and nothing refuses it late
abort_late : (st : Standing) (session : ℕ) (a : Active) → active_of session st.actives ≡ Some a → late_refusal st session Abort ≡ None
abort_late st session a some = ap (λ (o : Option Active). or_refusal (number_refusal st.last_txn o) None) some

module _ {D : Type 0} (meaning : DiskMeaning D) where
  pub aborted : (most : ℕ) (old new : Environment D) (st : Standing) (session line : ℕ) (a : Active) → active_of session st.actives ≡ Some a → HasAbandoned old new session a.txn → AreSound st → st.fault ≡ None →
      StandsAt most meaning old st → HasCome meaning most old new st session line Abort Done []
  aborted most old new st session line a some h sound none at = subst Come (sym (abort_late st session a some)) (record {
    limit = None;
    has_limit = refl;
    answers = (refl, refl);
    here = subst (λ (o : Option Active). StandsAt most meaning new (ended_if_any o st)) (sym some)
        (abandoned most meaning old new st a its (ap (λ (s : ℕ). active_of s st.actives) own ∙ some) (λ calm. sound.numbers) at);
    numbered = tt;
    fault = ended_fault (active_of session st.actives) st ∙ none;
    logged = inl (its.log, refl, refl);
    near = within_more old new [] (abandoned_near most meaning old new st a its at.sessions_at);
  })
    where
      own : a.session ≡ session
      own = found_session session a st.actives some

      its : HasAbandoned old new a.session a.txn
      its = subst (λ (s : ℕ). HasAbandoned old new s a.txn) (sym own) h

      Come : Option Answer → Type 0
      Come late = HasStepped meaning most old new (owing_after st session) (written_evaluated late st session Abort) (changes_evaluated late st session Abort)
          (λ limit. IsEvaluated late limit st session line Abort Done []) (after_evaluated late st session line Abort Done []) Done

pub never_done : Done ≡ DiskFault → ⊥
never_done is = absurd cc

module _ {D : Type 0} (meaning : DiskMeaning D) where
  -- what the call comes to wherever the model stands
  pub abort_performs : (old new : Environment D) (session : ℕ) (found : Option (Bor Active)) (a : Bor Active) → found ≡ Some a → ((st : Standing) → AreSessionsAt old.sessions st → option_copied found ≡ active_of session st.actives) →
      HasAbandoned old new session a.now.txn → old.engine.kept.fault ≡ None → CanGoOn old →
      PerformsAnswer meaning old new session Abort (Ok Done)
  abort_performs old new session found a is finds h valid bounds = record {
    comes = λ most st line at sound early.
        let none = sym at.fault ∙ valid in
        let some = sym (finds st at.sessions_at) ∙ ap option_copied is in
        aborted meaning most old new st session line a.now some h sound none at;
    near = tt;
    bounds = subst (λ (k : Kept). k.commits ≤ k.last_txn) (sym h.kept) bounds;
    cause = record {
      never_falls = subst (λ (d : D). meaning.faults (disk_of old) ≤ meaning.faults d) (sym h.log.disk) (omega arith);
      fault = λ done. absurd (never_done done);
    };
  }
