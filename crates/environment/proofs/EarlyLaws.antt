-- A call that is refused early, and one that is not.
use Rattle.std.proofs.Common.{◌≡◌, ◌==◌, ◌∙◌, ℕ, Bool, true, false, cond, inl, List, [], ◌∷◌, Option, None, Some, is_some, length, Result, Ok, Err, refl, ap, sym, subst, rules, arith}
use Rattle.std.specs.Prelude.{IfSome}
use Rattle.std.specs.List.{AllByRecursion}
use Rattle.std.specs.declared.alloc.AllocError.{AllocError}
use Rattle.std.proofs.lemmas.Bool.{eqb-true}
use Rattle.je_disk.specs.DiskMeaning.{DiskMeaning}
use Rattle.je_order.specs.declared.txn_id.TxnId.{TxnId}
use Rattle.lock_table.specs.declared.record_id.RecordId.{RecordId}
use Rattle.store_model.specs.declared.answer.Answer.{Answer}
use Rattle.store_model.specs.declared.answer.Fault.{Fault}
use Rattle.store_model.specs.declared.answer.Fault.TheVariants.{Disk}
use Rattle.store_model.specs.declared.call.Call.{Call}
use Rattle.store_model.specs.declared.call.Call.TheVariants.{Begin, Commit, Abort, Create, CreateIndex, Remove, Rename, Truncate, Open}
use Rattle.store_model.specs.declared.victim.Victim.{Victim}
use Rattle.store_model.specs.Refusals.{or_refusal}
use Rattle.je_answers.specs.declared.active.Active.{Active}
use Rattle.je_answers.specs.Standing.{Standing, active_of}
use Rattle.je_answers.specs.Refusals.{abort_refusal, early_refusal, fault_refusal, txn_refusal, victim_refusal, waits_refusal}
use Rattle.je_answers.specs.Events.{IsCallAnswered}
use Rattle.je_answers.specs.After.{after_call}
use Rattle.je_answers.specs.Journal.{changes_of}
use Rattle.log_buffer.specs.declared.buffer.LogBuffer.{LogBuffer}
use Rattle.log_buffer.specs.Buffer.{IsUnchanged}
use Rattle.standing_laws.specs.Right.{AreRight}
use Rattle.standing_laws.proofs.StandingsStay.{untold_has-no_wait}
use Rattle.engine.specs.Limits.{IsWithin}
use Rattle.engine.proofs.CalmAnswers.{IsCalm, faultless, unnumbered}
use Rattle.environment.specs.declared.environment.Environment.{Environment}
use Rattle.environment.specs.declared.outcome.Outcome.{Outcome}
use Rattle.environment.specs.Limits.{owing_after, written_unless}
use Rattle.environment.specs.Steps.{CallsTo, ComesTo, HasCalled, HasStepped, IsCallStep, MayCall, StandsAt}
use Rattle.environment.specs.Valid.{AreBare}
use Rattle.environment.specs.Whole.{reach_of}
use Rattle.environment.proofs.Answering.{within_more}

-- an answer alone
pub told_so : (P : Answer → List Victim → Type 0) (o : Outcome) (answer : Answer) → o.answer ≡ answer → o.victims ≡ [] → P answer [] → P o.answer o.victims
told_so P o answer is none h = subst (λ (a : Answer). P a o.victims) (sym is) (subst (P answer) (sym none) h)

-- ---- refusals are calm

abbrev pub IsCalmRefusal : Option Answer → Type 0
IsCalmRefusal o = IfSome o IsCalm

pub calm_or : (a b : Option Answer) → IsCalmRefusal a → IsCalmRefusal b → IsCalmRefusal (or_refusal a b)
calm_or None b first second = second
calm_or (Some refusal) b first second = first

calm_fault : (f : Option Fault) → IsCalmRefusal (fault_refusal f)
calm_fault None = tt
calm_fault (Some first) = refl

calm_waits : (st : Standing) (a : Option Active) → IsCalmRefusal (waits_refusal st a)
calm_waits st None = tt
calm_waits st (Some a) = by_test (is_some (st.locks.pending a.txn))
  where
    by_test : (b : Bool) → IsCalmRefusal (cond b (Some Rattle.store_model.specs.declared.answer.Answer.TheVariants.SessionWaits) None)
    by_test true = refl
    by_test false = tt

calm_victim : (call : Call) (o : Option (List TxnId)) → IsCalmRefusal (victim_refusal call o)
calm_victim call None = tt
calm_victim Abort (Some cycle) = tt
calm_victim call (Some cycle) = refl

calm_abort : (call : Call) (a : Option Active) → IsCalmRefusal (abort_refusal call a)
calm_abort call None = tt
calm_abort call (Some a) = calm_victim call a.deadlock

calm_txn : (call : Call) (a : Option Active) → IsCalmRefusal (txn_refusal call a)
calm_txn (Begin level durability wait) (Some a) = refl
calm_txn (Create db kind) (Some a) = refl
calm_txn (CreateIndex db index) (Some a) = refl
calm_txn (Remove db) (Some a) = refl
calm_txn (Rename db to) (Some a) = refl
calm_txn (Truncate db) (Some a) = refl
calm_txn Commit None = refl
calm_txn Abort None = refl
calm_txn (Open cursor db) None = refl
calm_txn call active = tt

pub calm_early : (st : Standing) (session : ℕ) (call : Call) → IsCalmRefusal (early_refusal st session call)
calm_early st session call =
    let active = active_of session st.actives in
    calm_or (fault_refusal st.fault) _ (calm_fault st.fault)
    (calm_or (waits_refusal st active) _ (calm_waits st active) (calm_or (abort_refusal call active) (txn_refusal call active) (calm_abort call active) (calm_txn call active)))

-- ---- a refusal steps nowhere

module _ {D : Type 0} where
  pub same_buffer : (buffer : LogBuffer D) → IsUnchanged buffer buffer
  same_buffer buffer = record {
    kept = record { end = refl; last = refl; first = refl; written = refl; flushed_len = refl; max = refl; unwritten = λ f. refl; room = λ sizes room. room };
    disk = refl;
    failed = refl;
  }

  pub same_reach : (e : Environment D) → IsWithin (reach_of e) (reach_of e)
  same_reach e = record { file = omega arith; node = omega arith }

  module _ (meaning : DiskMeaning D) where
    pub refused_early : (most : ℕ) (e : Environment D) (st : Standing) (session line : ℕ) (call : Call) (refusal : Answer) → StandsAt most meaning e st → st.fault ≡ None →
        early_refusal st session call ≡ Some refusal → HasCalled meaning most e e st session line call refusal []
    refused_early most e st session line call refusal here none is =
        subst Called (sym is) (record {
          limit = None;
          has_limit = refl;
          answers = (refl, refl);
          here = here;
          numbered = unnumbered refusal st.commits calm;
          fault = none ∙ ap (λ (b : Bool). cond b (Some Disk) None) (sym (faultless refusal calm));
          logged = subst (λ (b : Bool). IsCallStep meaning b e.engine e.engine.trees.log [] []) (sym (faultless refusal calm)) (inl (same_buffer e.engine.trees.log, refl, refl));
          near = within_more e e [] (same_reach e);
        })
      where
        calm : IsCalm refusal
        calm = subst IsCalmRefusal is (calm_early st session call)

        Called : Option Answer → Type 0
        Called early = HasStepped meaning most e e (owing_after st session) (written_unless early st session call) (changes_of early st session call)
            (λ limit. IsCallAnswered early limit st session line call refusal []) (after_call early st session line call refusal []) refusal

    -- a call that nothing refuses early
    pub not_refused : (most : ℕ) (old new : Environment D) (st : Standing) (session line : ℕ) (call : Call) (result : Result Outcome AllocError) → early_refusal st session call ≡ None →
        ComesTo meaning most old new st session line call result → CallsTo meaning most old new st session line call result
    not_refused most old new st session line call (Ok o) none comes = subst Called (sym none) comes
      where
        Called : Option Answer → Type 0
        Called early = HasStepped meaning most old new (owing_after st session) (written_unless early st session call) (changes_of early st session call)
            (λ limit. IsCallAnswered early limit st session line call o.answer o.victims) (after_call early st session line call o.answer o.victims) o.answer
    not_refused most old new st session line call (Err error) none comes = comes

-- ---- who may call

or_none : (a b : Option Answer) → or_refusal a b ≡ None → (a ≡ None) × (b ≡ None)
or_none None b is = (refl, is)
or_none (Some x) b is = absurd cc

pub record IsNotEarly (st : Standing) (session : ℕ) (call : Call) : Type 0 where
  pub fault : fault_refusal st.fault ≡ None
  pub waits : waits_refusal st (active_of session st.actives) ≡ None
  pub abort : abort_refusal call (active_of session st.actives) ≡ None
  pub txn : txn_refusal call (active_of session st.actives) ≡ None

pub not_early : (st : Standing) (session : ℕ) (call : Call) → early_refusal st session call ≡ None → IsNotEarly st session call
not_early st session call is =
    let active = active_of session st.actives in
    let first = or_none (fault_refusal st.fault) _ is in
    let second = or_none (waits_refusal st active) _ first.1 in
    let third = or_none (abort_refusal call active) (txn_refusal call active) second.1 in
    record { fault = first.0; waits = second.0; abort = third.0; txn = third.1 }

pub found_active : (P : Active → Type 0) (session : ℕ) (actives : List Active) (a : Active) → active_of session actives ≡ Some a → AllByRecursion P actives → P a × (a.session ≡ session)
found_active P session [] a is all = absurd cc
found_active P session (b ∷ actives) a is all = by_test (b.session == session) refl is (λ found. found_active P session actives a found all.1)
  where
    some_is : (x y : Active) → Some x ≡ Some y → x ≡ y
    some_is x y e = search (rules, e)

    by_test : (t : Bool) → (b.session == session) ≡ t → cond t (Some b) (active_of session actives) ≡ Some a → (active_of session actives ≡ Some a → P a × (a.session ≡ session)) → P a × (a.session ≡ session)
    by_test true e found rest = subst (λ (x : Active). P x × (x.session ≡ session)) (some_is b a found) (all.0, eqb-true b.session session e)
    by_test false e found rest = rest found

-- the session of its transaction
pub found_unit : (session : ℕ) (actives : List Active) (a : Active) → active_of session actives ≡ Some a → a.session ≡ session
found_unit session [] a is = absurd cc
found_unit session (b ∷ actives) a is = by_test (b.session == session) refl is (λ found. found_unit session actives a found)
  where
    some_is : (x y : Active) → Some x ≡ Some y → x ≡ y
    some_is x y e = search (rules, e)

    by_test : (t : Bool) → (b.session == session) ≡ t → cond t (Some b) (active_of session actives) ≡ Some a → (active_of session actives ≡ Some a → a.session ≡ session) → a.session ≡ session
    by_test true e found rest = subst (λ (x : Active). x.session ≡ session) (some_is b a found) (eqb-true b.session session e)
    by_test false e found rest = rest found

-- a call that nothing refuses early may be made between two events
pub may_call : (st : Standing) (session : ℕ) (call : Call) → AreRight st → AreBare st → early_refusal st session call ≡ None → MayCall st session false
may_call st session call right bare is = record {
  told = told;
  bare = bare;
  alone = λ a its.
      let here = found_unit session st.actives a its in
      untold_has-no_wait st a right (ap (λ (s : ℕ). active_of s st.actives) here ∙ its) (told a its);
}
  where
    told : (a : Active) → active_of session st.actives ≡ Some a → st.locks.pending a.txn ≡ None
    told a its = by_place (st.locks.pending a.txn) (subst (λ (o : Option Active). waits_refusal st o ≡ None) its (not_early st session call is).waits)
      where
        by_place : (o : Option RecordId) → cond (is_some o) (Some Rattle.store_model.specs.declared.answer.Answer.TheVariants.SessionWaits) None ≡ None → o ≡ None
        by_place None none = refl
        by_place (Some r) none = absurd cc

-- no transaction is under way where there are none
pub none_there : (actives : List Active) → (length actives == 0) ≡ true → actives ≡ []
none_there [] is = refl
none_there (a ∷ actives) is = let e = eqb-true (length (a ∷ actives)) 0 is in absurd (omega (arith, e))
