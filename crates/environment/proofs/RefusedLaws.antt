-- A call on records that is refused late.
use Rattle.std.proofs.Common.{◌≡◌, ◌∙◌, ◌+◌, ℕ, nat_lt, Bool, true, false, cond, is_some, inl, [], Option, None, Some, ap, refl, sym, subst, arith, true≢false}
use Rattle.je_disk.specs.DiskMeaning.{DiskMeaning}
use Rattle.store_model.specs.declared.store.TheConstants.{LAST_TXN}
use Rattle.store_model.specs.declared.answer.Answer.{Answer}
use Rattle.store_model.specs.declared.answer.Fault.TheVariants.{Disk}
use Rattle.store_model.specs.declared.call.Call.{Call}
use Rattle.store_model.specs.Refusals.{next_txn}
use Rattle.je_answers.specs.declared.active.Active.{Active}
use Rattle.je_answers.specs.Standing.{Standing, active_of}
use Rattle.je_answers.specs.Refusals.{late_refusal}
use Rattle.je_answers.specs.Events.{IsEvaluated}
use Rattle.je_answers.specs.After.{after_evaluated, drawn_by}
use Rattle.je_answers.specs.Journal.{changes_evaluated}
use Rattle.log_buffer.specs.Buffer.{IsUnchanged}
use Rattle.engine.specs.Limits.{IsWithin}
use Rattle.engine.proofs.CalmAnswers.{IsCalm, faultless, unnumbered}
use Rattle.environment.specs.declared.environment.Environment.{Environment}
use Rattle.environment.specs.declared.outcome.Outcome.{Outcome}
use Rattle.environment.specs.Limits.{owing_after, written_evaluated}
use Rattle.environment.specs.Steps.{HasCome, HasStepped, IsCallStep, StandsAt}
use Rattle.environment.specs.Whole.{reach_of}
use Rattle.environment.proofs.Answering.{within_more}
use Rattle.environment.proofs.BeginLaws.{next_is, with_begun}
use Rattle.environment.proofs.EarlyLaws.{told_so}
use Rattle.environment.proofs.ListLaws.{drawn_at, drawn_fault}

module _ {D : Type 0} (meaning : DiskMeaning D) where
  -- a number is drawn outside a transaction
  pub drawn_next : (most : ℕ) (e : Environment D) (st : Standing) (o : Option Active) → is_some o ≡ false → nat_lt e.engine.kept.last_txn LAST_TXN ≡ true → StandsAt most meaning e st →
      StandsAt most meaning (with_begun e (e.engine.kept.last_txn + 1) e.sessions) (drawn_by o st)
  drawn_next most e st (Some a) none left at = absurd (true≢false none)
  drawn_next most e st None none left at =
      let next : e.engine.kept.last_txn + 1 ≡ next_txn st.last_txn = ap (λ (n : ℕ). n + 1) at.last_txn ∙ sym (next_is st.last_txn (ap (λ (n : ℕ). nat_lt n LAST_TXN) (sym at.last_txn) ∙ left)) in
      let same = at.last_txn in
      subst (λ (n : ℕ). StandsAt most meaning (with_begun e (e.engine.kept.last_txn + 1) e.sessions) (record st { last_txn = n })) next
      (drawn_at most meaning e (e.engine.kept.last_txn + 1) st (omega (arith, same)) at)

  -- a refusal alone
  pub refused_late : (most : ℕ) (old new : Environment D) (st : Standing) (session line : ℕ) (call : Call) (answer : Answer) (o : Outcome) →
      StandsAt most meaning new (drawn_by (active_of session st.actives) st) → st.fault ≡ None → IsUnchanged old.engine.trees.log new.engine.trees.log → IsWithin (reach_of new) (reach_of old) →
      late_refusal st session call ≡ Some answer → IsCalm answer → o.answer ≡ answer → o.victims ≡ [] → HasCome meaning most old new st session line call o.answer o.victims
  refused_late most old new st session line call answer o here none same near late calm is alone =
      told_so (HasCome meaning most old new st session line call) o answer is alone (subst Come (sym late) (record {
        limit = None;
        has_limit = refl;
        answers = (refl, refl);
        here = here;
        numbered = unnumbered answer _ calm;
        fault = drawn_fault (active_of session st.actives) st ∙ none ∙ ap (λ (b : Bool). cond b (Some Disk) None) (sym (faultless answer calm));
        logged = subst (λ (b : Bool). IsCallStep meaning b old.engine new.engine.trees.log [] []) (sym (faultless answer calm)) (inl (same, refl, refl));
        near = within_more old new [] near;
      }))
    where
      Come : Option Answer → Type 0
      Come late = HasStepped meaning most old new (owing_after st session) (written_evaluated late st session call) (changes_evaluated late st session call)
          (λ limit. IsEvaluated late limit st session line call answer []) (after_evaluated late st session line call answer []) answer
