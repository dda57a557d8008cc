-- What a crash keeps of a log is kept of one with an entry more.
use Rattle.std.proofs.Common.{◌≡◌, ℕ, ◌<◌, ◌≤◌, ◌==◌, Bool, true, false, cond, List, [], ◌∷◌, ◌++◌, Option, Some, None, refl, sym, ap, ap₂, subst, ◌∙◌, arith, append_assoc, ◌⊎◌, inl, inr}
use Rattle.std.proofs.lemmas.Bool.Decides.{nat_tests}
use Rattle.std.proofs.lemmas.Bool.{cases_order, eqb-true}
use Rattle.std.specs.Map.{lookup}
use Rattle.je_disk.specs.States.{State, Files, CrashState}
use Rattle.log_entry.specs.declared.entry.Entry.{Entry}
use Rattle.log_file.specs.Log.{Log, IsLog}
use Rattle.log_buffer.specs.Log.{EndsAt, log_with}
use Rattle.log_buffer.specs.Crash.{KeepsLog, KeepsFrom, KeepsJob, Holds}
use Rattle.log_buffer.proofs.LogChanges.{AreBelow, below_more}
use Rattle.log_buffer.proofs.LogSplits.{below_at, lookup_at, lookup_over}

other_below : (n m : ℕ) → n < m → (n == m) ≡ false
other_below n m less = grind (arith, nat_tests)

-- an entry goes behind the files of lower numbers
with_behind : (before rest : Log) (f : ℕ) (e : Entry) → AreBelow f before → log_with f e (before ++ rest) ≡ before ++ log_with f e rest
with_behind [] rest f e below = refl
with_behind (file ∷ before) rest f e below =
    ap (λ (b : Bool). cond b ((f, file.1 ++ e ∷ []) ∷ (before ++ rest)) (file ∷ log_with f e (before ++ rest))) (other_below file.0 f below.0)
    ∙ ap (λ (l : Log). file ∷ l) (with_behind before rest f e below.1)

-- a file of a log is not behind its last one
pub last_is : (log : Log) (file offset last : ℕ) (before : Log) (at : ℕ) (es : List Entry) (after : Log) → IsLog log → EndsAt log file offset last → log ≡ before ++ (at, es) ∷ after → at ≤ file
last_is log file offset last before at es after is ends parts = by_order (cases_order at file) where
  absent : file < at → ⊥
  absent gt =
      let here : lookup (λ n. n == at) log ≡ Some es = ap (λ (l : Log). lookup (λ n. n == at) l) parts ∙ lookup_at before (at, es) after (subst IsLog parts is) in
      let gone : lookup (λ n. n == at) log ≡ None = ap (λ (l : Log). lookup (λ n. n == at) l) ends.log_is ∙ lookup_over ends.before (file, ends.entries) [] at (subst IsLog ends.log_is is) gt in
      let both = sym here ∙ gone in cc

  by_order : (at ≡ file) ⊎ ((at < file) ⊎ (file < at)) → at ≤ file
  by_order (inl same) = omega arith
  by_order (inr (inl lt)) = omega arith
  by_order (inr (inr gt)) = absurd (absent gt)

-- what a crash keeps of a log with an entry more: what it keeps of the log, up to the same file
pub record KeepsOn (log removed : Log) (least file : ℕ) (crash_states : ℕ → CrashState) : Type 0 where
  pub keeps : KeepsLog log removed least crash_states
  pub at_is : keeps.at ≡ file

pub keeps_with : (log removed : Log) (least f : ℕ) (crash_states : ℕ → CrashState) (e : Entry) (k : KeepsLog log removed least crash_states) → AreBelow f k.before → KeepsOn (log_with f e log) removed least k.at crash_states
keeps_with log removed least f crash_states e k below = by_case (k.at == f) refl where
  grown : log_with f e log ≡ k.before ++ log_with f e ((k.at, k.kept ++ k.more) ∷ k.after)
  grown = ap (log_with f e) k.log_is ∙ with_behind k.before ((k.at, k.kept ++ k.more) ∷ k.after) f e below

  by_case : (b : Bool) → (k.at == f) ≡ b → KeepsOn (log_with f e log) removed least k.at crash_states
  by_case true same = record {
    keeps = record {
      before = k.before;
      at = k.at;
      kept = k.kept;
      more = k.more ++ e ∷ [];
      after = k.after;
      log_is = grown ∙ ap (λ (l : Log). k.before ++ l)
          (ap (λ (b : Bool). cond b ((f, (k.kept ++ k.more) ++ e ∷ []) ∷ k.after) ((k.at, k.kept ++ k.more) ∷ log_with f e k.after)) same
          ∙ ap₂ (λ (n : ℕ) (x : List Entry). (n, x) ∷ k.after) (sym (eqb-true _ _ same)) (append_assoc k.kept k.more (e ∷ [])));
      front = k.front;
      others = k.others;
      at_least = k.at_least;
    };
    at_is = refl;
  }
  by_case false other = record {
    keeps = record {
      before = k.before;
      at = k.at;
      kept = k.kept;
      more = k.more;
      after = log_with f e k.after;
      log_is = grown ∙ ap (λ (b : Bool). k.before ++ cond b ((f, (k.kept ++ k.more) ++ e ∷ []) ∷ k.after) ((k.at, k.kept ++ k.more) ∷ log_with f e k.after)) other;
      front = k.front;
      others = k.others;
      at_least = k.at_least;
    };
    at_is = refl;
  }

kept_with : (log removed : Log) (least first f : ℕ) (reads : Files) (crash_states : ℕ → CrashState) (e : Entry) → IsLog log → (k : KeepsFrom log removed least first reads crash_states) → k.keeps.at ≤ f → KeepsFrom (log_with f e log) removed least first reads crash_states
kept_with log removed least first f reads crash_states e is k le =
    let on = keeps_with log removed least f crash_states e k.keeps
    (below_more k.keeps.at f k.keeps.before le (below_at k.keeps.before (k.keeps.at, k.keeps.kept ++ k.keeps.more) k.keeps.after (subst IsLog k.keeps.log_is is))) in
    record { keeps = on.keeps; first_is = subst (λ (n : ℕ). first ≤ n) (sym on.at_is) k.first_is; read = k.read }

pub holds_with : (log removed : Log) (least : ℕ) (begun : Option ℕ) (old_first new_first file offset last f : ℕ) (state : State) (e : Entry) → IsLog log → EndsAt log file offset last → file ≤ f → new_first ≡ old_first
    → Holds log removed least begun old_first state → Holds (log_with f e log) removed least begun new_first state
holds_with log removed least begun old_first new_first file offset last f state e is ends le same h =
    subst (λ (n : ℕ). Holds (log_with f e log) removed least begun n state) (sym same) (record {
      kept = kept least state.crash_states h.kept;
      job = by_job begun h.job;
    }) where
      kept : (n : ℕ) (crash_states : ℕ → CrashState) → KeepsFrom log removed n old_first state.reads crash_states → KeepsFrom (log_with f e log) removed n old_first state.reads crash_states
      kept n crash_states k = kept_with log removed n old_first f state.reads crash_states e is k
          (let within = last_is log file offset last k.keeps.before k.keeps.at (k.keeps.kept ++ k.keeps.more) k.keeps.after is ends k.keeps.log_is in omega (arith, within))

      by_job : (b : Option ℕ) → KeepsJob log removed least old_first state b → KeepsJob (log_with f e log) removed least old_first state b
      by_job None job = tt
      by_job (Some n) job = record { crash_states = job.crash_states; job_is = job.job_is; no_less = job.no_less; kept = kept n job.crash_states job.kept }
