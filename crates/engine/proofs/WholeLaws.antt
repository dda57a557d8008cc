-- An engine as one value, from its parts.
use Rattle.std.proofs.Common.{◌≡◌, ◌↔◌, ◌+◌, ℕ, ◌∙◌, Bool, true, false, cond, None, Result, Ok, Err, IsErrOf, refl, ap, sym, subst}
use Rattle.je_disk.specs.States.{State}
use Rattle.je_answers.specs.Standing.{Standing}
use Rattle.log_buffer.specs.declared.buffer.LogBuffer.{LogBuffer}
use Rattle.log_buffer.specs.declared.error.LogErr.{LogErr}
use Rattle.log_buffer.specs.declared.error.LogErr.TheVariants.{Fault}
use Rattle.log_buffer.specs.Buffer.{end_of, has_failed}
use Rattle.in_tree.specs.Observed.{waits_of}
use Rattle.txn_core.specs.Totals.{totals_of}
use Rattle.engine.specs.declared.engine.Engine.{Engine}
use Rattle.engine.specs.Contents.{Contents}
use Rattle.engine.specs.Environment.{AreAt, IsValid}
use Rattle.engine.specs.Whole.{IsAt, end_file}

module _ {D : Type 0} where
  -- an environment that met no fault is valid
  pub valid_at : (most : ℕ) (observable : Bool) (state : State) (buffer : LogBuffer D) (c : Contents) (st : Standing) → AreAt most observable state buffer c st → st.fault ≡ None →
      IsValid observable state buffer c st.store
  valid_at most observable state buffer c st here none =
      subst (λ (s : Standing). IsValid observable state buffer c s.store) (sym here.st_is) (here.here.valid (sym (ap (λ (s : Standing). s.fault) here.st_is) ∙ none))

  -- the commits are counted
  pub commits_at : (most : ℕ) (observable : Bool) (state : State) (buffer : LogBuffer D) (c : Contents) (st : Standing) → AreAt most observable state buffer c st → c.commits ≡ st.commits
  commits_at most observable state buffer c st here = here.here.commits ∙ sym (ap (λ (s : Standing). s.commits) here.st_is)

  -- a buffer works on after a call that met no fault
  pub still_works : {T : Type 0} (r : Result T LogErr) (x : T) (buffer : LogBuffer D) → r ≡ Ok x → (has_failed buffer ≡ true ↔ IsErrOf r Fault) → has_failed buffer ≡ false
  still_works r x buffer is h = by_failed (has_failed buffer) h
    where
      by_failed : (b : Bool) → (b ≡ true ↔ IsErrOf r Fault) → b ≡ false
      by_failed true h = (let e : Ok x ≡ Err Fault = sym is ∙ h.0 refl in cc)
      by_failed false h = refl

  -- where the log works, the engine reaches the file in which it ends, with those of the images that wait
  pub file_is : (engine : Engine D) → has_failed engine.trees.log ≡ false → end_file engine.trees ≡ (end_of engine.trees.log).file + waits_of engine.trees
  file_is engine works = ap (λ (b : Bool). cond b 0 ((end_of engine.trees.log).file + waits_of engine.trees)) works
