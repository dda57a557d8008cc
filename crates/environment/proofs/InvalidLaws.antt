-- A call after a fault.
use Rattle.std.proofs.Common.{◌≡◌, ◌∙◌, ℕ, List, [], Option, None, Some, Ok, refl, ap, sym, subst, inl}
use Rattle.je_disk.specs.DiskMeaning.{DiskMeaning}
use Rattle.je_disk.specs.Moments.{now}
use Rattle.store_model.specs.declared.answer.Answer.{Answer}
use Rattle.store_model.specs.declared.answer.Answer.TheVariants.{Invalid}
use Rattle.store_model.specs.declared.answer.Fault.{Fault}
use Rattle.store_model.specs.declared.call.Call.{Call}
use Rattle.store_model.specs.declared.change.Change.{Change}
use Rattle.store_model.specs.declared.event.Event.TheVariants.{Call as Called}
use Rattle.store_model.specs.declared.victim.Victim.{Victim}
use Rattle.store_model.specs.Refusals.{or_refusal}
use Rattle.je_answers.specs.Standing.{Standing, active_of}
use Rattle.je_answers.specs.Refusals.{abort_refusal, early_refusal, fault_refusal, txn_refusal, waits_refusal}
use Rattle.je_answers.specs.Events.{IsAnswered, IsCallAnswered}
use Rattle.je_answers.specs.After.{after_call, after_event, after_events}
use Rattle.je_answers.specs.Journal.{attempt_of, changes_of, tried}
use Rattle.engine.proofs.GuardLaws.{guarded_quiet}
use Rattle.environment.specs.declared.environment.Environment.{Environment}
use Rattle.environment.specs.declared.outcome.Outcome.{Outcome}
use Rattle.environment.specs.Answering.{AnswersCall}
use Rattle.environment.specs.Limits.{owing_after, written_call, written_unless}
use Rattle.environment.specs.Whole.{HasLimit, IsAt, disk_of}
use Rattle.environment.proofs.Answering.{within_more}
use Rattle.environment.proofs.EarlyLaws.{same_buffer, same_reach}

-- what refuses it
early_invalid : (st : Standing) (session : ℕ) (call : Call) (first : Fault) → st.fault ≡ Some first → early_refusal st session call ≡ Some (Invalid first)
early_invalid st session call first is =
    let active = active_of session st.actives in
    ap (λ (f : Option Fault). or_refusal (fault_refusal f) (or_refusal (waits_refusal st active) (or_refusal (abort_refusal call active) (txn_refusal call active)))) is

module _ {D : Type 0} (meaning : DiskMeaning D) (e : Environment D) (session line : ℕ) (call : Call) (first : Fault) (fault : e.engine.kept.fault ≡ Some first) where
  early : (most : ℕ) (st : Standing) → IsAt most meaning.observable (now (meaning.history (disk_of e))) e st → early_refusal st session call ≡ Some (Invalid first)
  early most st here = early_invalid st session call first (sym here.at.fault ∙ fault)

  -- all is as it was
  record IsInvalid (st : Standing) : Type 0 where
    written : written_call st session call ≡ []
    answered : IsAnswered None st (Called session line call (Invalid first) [])
    after : after_event st (Called session line call (Invalid first) []) ≡ st
    attempt : attempt_of st (Called session line call (Invalid first) []) ≡ []

  invalid : (most : ℕ) (st : Standing) → IsAt most meaning.observable (now (meaning.history (disk_of e))) e st → IsInvalid st
  invalid most st here =
      let is = early most st here in
      record {
        written = ap (λ (r : Option Answer). written_unless r st session call) is;
        answered = subst (λ (r : Option Answer). IsCallAnswered r None st session line call (Invalid first) []) (sym is) (refl, refl);
        after = ap (λ (r : Option Answer). after_call r st session line call (Invalid first) []) is;
        attempt = ap (λ (r : Option Answer). tried (changes_of r st session call) (Rattle.je_answers.specs.After.fate_of (Invalid first))) is;
      }

  limit_none : (changes : List Change) (owed : ℕ) → changes ≡ [] → HasLimit e owed changes None
  limit_none changes owed none = subst (λ (cs : List Change). HasLimit e owed cs None) (sym none) refl

  answers_at : (answer : Answer) (victims : List Victim) → answer ≡ Invalid first → victims ≡ [] → AnswersCall meaning e e session line call (Ok (record { answer = answer; victims = victims }))
  answers_at answer victims is none =
      subst (λ (a : Answer). AnswersCall meaning e e session line call (Ok (record { answer = a; victims = victims }))) (sym is)
      (subst (λ (vs : List Victim). AnswersCall meaning e e session line call (Ok (record { answer = Invalid first; victims = vs }))) (sym none) (record {
        goes_on = λ most st here.
            let i = invalid most st here in
            record {
              limit = None;
              bounded = inl refl;
              answered = i.answered;
              here = subst (λ (s : Standing). IsAt most meaning.observable (now (meaning.history (disk_of e))) e s) (sym i.after) here;
            };
        exact = λ most st here. let i = invalid most st here in (None, limit_none (written_call st session call) (owing_after st session) i.written, i.answered);
        numbered = λ most st here. tt;
        grows = λ most st here. within_more e e (written_call st session call) (same_reach e);
        crash = λ observed most st start journal here is_.
            let i = invalid most (after_events st journal) here in
            (is_.0, guarded_quiet st is_.0 start (meaning.history (disk_of e)) e.engine.trees.log journal (Called session line call (Invalid first) []) refl i.attempt refl refl (ap (λ (s : Standing). s.fault) i.after) is_.1);
        appends = λ most st here.
            let i = invalid most st here in
            inl (same_buffer e.engine.trees.log, i.attempt, ap (λ (cs : List Change). tried cs (Rattle.je_answers.specs.After.fate_of (Invalid first))) i.written);
        stays = tt;
      }))

  pub answers_invalid : (o : Outcome) → o.answer ≡ Invalid first → o.victims ≡ [] → AnswersCall meaning e e session line call (Ok o)
  answers_invalid o is none = answers_at o.answer o.victims is none
