-- What a crash keeps of a log that a file was taken from.
use Rattle.std.proofs.Common.{◌≡◌, ◌≢◌, ℕ, ◌+◌, ◌-◌, ◌^◌, ◌<◌, ◌≤◌, ◌==◌, Bool, true, false, cond, not, List, [], ◌∷◌, ◌++◌, Option, Some, None, length, refl, sym, ap, subst, ◌∙◌, arith, option_map, length-append, ◌⊎◌, inl, inr}
use Rattle.std.specs.Prelude.{nat_le}
use Rattle.std.proofs.lemmas.Bool.Decides.{nat_tests}
use Rattle.std.proofs.lemmas.Bool.{cases_order, eqb-true}
use Rattle.std.specs.Map.{lookup}
use Rattle.std.specs.List.{AllByRecursion, filter}
use Rattle.std.specs.Option.{option_map as mapped}
use Rattle.je_disk.specs.States.{State, Files, CrashState, put_at, with_crash_state, dropped, removed, removed_by, IsEither}
use Rattle.je_disk.specs.Images.{AreFileImages}
use Rattle.je_disk.specs.Moments.{History, Passes, now}
use Rattle.je_disk.proofs.ImageLaws.{image_put}
use Rattle.je_disk.proofs.MomentLaws.{passes_weaken}
use Rattle.log_entry.specs.declared.entry.Entry.{Entry}
use Rattle.log_file.specs.Log.{Log, IsLog, AreFileEntries, entries_of, file_bytes, files_of_log}
use Rattle.log_buffer.specs.Log.{log_without, log_of, log_upto}
use Rattle.log_buffer.specs.Crash.{IsWhole, KeepsFront, KeepsFile, KeepsLog, KeepsFrom, KeepsJob, Holds}
use Rattle.log_buffer.proofs.LogChanges.{AreBelow}
use Rattle.log_buffer.proofs.LogSplits.{below_at, lookup_under, entries-append}
use Rattle.log_buffer.proofs.CrashWrites.{crash_state_same, crash_state_other}
use Rattle.log_buffer.proofs.ChanceMatches.{log_file_at}

-- ---- parts of a log

keep_append : (test : ℕ × List Entry → Bool) (a b : Log) → filter test (a ++ b) ≡ filter test a ++ filter test b
keep_append test [] b = refl
keep_append test (file ∷ a) b = by_case (keep_append test a b) (test file) where
  by_case : filter test (a ++ b) ≡ filter test a ++ filter test b → (t : Bool) → cond t (file ∷ filter test (a ++ b)) (filter test (a ++ b)) ≡ cond t (file ∷ filter test a) (filter test a) ++ filter test b
  by_case more true = ap (λ (l : Log). file ∷ l) more
  by_case more false = more

-- the entries of a log are those of the file and those of the others
count_without : (f : ℕ) (log : Log) → length (entries_of (log_without f log)) + length (entries_of (log_of f log)) ≡ length (entries_of log)
count_without f [] = omega arith
count_without f (file ∷ log) = by_case (count_without f log) (file.0 == f) where
  by_case : length (entries_of (log_without f log)) + length (entries_of (log_of f log)) ≡ length (entries_of log) → (t : Bool) → length (entries_of (cond (not t) (file ∷ log_without f log) (log_without f log))) + length (entries_of (cond t (file ∷ log_of f log) (log_of f log))) ≡ length (file.1 ++ entries_of log)
  by_case more true = let a = length-append file.1 (entries_of (log_of f log)) in let b = length-append file.1 (entries_of log) in omega (arith, more, a, b)
  by_case more false = let a = length-append file.1 (entries_of (log_without f log)) in let b = length-append file.1 (entries_of log) in omega (arith, more, a, b)

-- a log of low numbers is all of its front
upto_all : (f : ℕ) (log : Log) → AllByRecursion (λ file. file.0 ≤ f) log → log_upto f log ≡ log
upto_all f [] all = refl
upto_all f (file ∷ log) all =
    ap (λ (t : Bool). cond t (file ∷ log_upto f log) (log_upto f log)) (let le = all.0 in let t : nat_le file.0 f ≡ true = grind arith in t) ∙ ap (λ (l : Log). file ∷ l) (upto_all f log all.1)

low : (n f : ℕ) (log : Log) → n ≤ f → AreBelow n log → AllByRecursion (λ file. file.0 ≤ f) log
low n f [] le all = tt
low n f (file ∷ log) le all = (let lt = all.0 in omega (arith, lt), low n f log le all.1)

-- a file that is not among those that are surely kept has entries that are not
pub is_below : (log removed_files : Log) (least f : ℕ) (crash_states : ℕ → CrashState) (k : KeepsLog log removed_files least crash_states) → IsLog log → length (entries_of (log_upto f log)) < least → f < k.at
is_below log removed_files least f crash_states k is less = by_order (cases_order f k.at) where
  too_many : k.at ≤ f → ⊥
  too_many le =
      let below = below_at k.before (k.at, k.kept ++ k.more) k.after (subst IsLog k.log_is is) in
      let upto : log_upto f log ≡ k.before ++ log_upto f ((k.at, k.kept ++ k.more) ∷ k.after) =
      ap (log_upto f) k.log_is ∙ keep_append (λ file. nat_le file.0 f) k.before ((k.at, k.kept ++ k.more) ∷ k.after) ∙ ap (λ (l : Log). l ++ log_upto f ((k.at, k.kept ++ k.more) ∷ k.after)) (upto_all f k.before (low k.at f k.before le below)) in
      let here : log_upto f ((k.at, k.kept ++ k.more) ∷ k.after) ≡ (k.at, k.kept ++ k.more) ∷ log_upto f k.after =
      ap (λ (t : Bool). cond t ((k.at, k.kept ++ k.more) ∷ log_upto f k.after) (log_upto f k.after)) (let t : nat_le k.at f ≡ true = grind arith in t) in
      let all = ap (λ (l : Log). length (entries_of l)) (upto ∙ ap (λ (l : Log). k.before ++ l) here) in
      let parts = ap length (entries-append k.before ((k.at, k.kept ++ k.more) ∷ log_upto f k.after)) in
      let a = length-append (entries_of k.before) ((k.kept ++ k.more) ++ entries_of (log_upto f k.after)) in
      let b = length-append (k.kept ++ k.more) (entries_of (log_upto f k.after)) in
      let c = length-append k.kept k.more in
      let enough = k.at_least in
      omega (arith, all, parts, a, b, c, enough)

  by_order : (f ≡ k.at) ⊎ ((f < k.at) ⊎ (k.at < f)) → f < k.at
  by_order (inl same) = absurd (too_many (omega arith))
  by_order (inr (inl lt)) = lt
  by_order (inr (inr gt)) = absurd (too_many (omega arith))

-- ---- looking a file up

lookup_gone : (f : ℕ) (log : Log) → lookup (λ n. n == f) (log_without f log) ≡ None
lookup_gone f [] = refl
lookup_gone f (file ∷ log) = by_case (lookup_gone f log) (file.0 == f) refl where
  by_case : lookup (λ n. n == f) (log_without f log) ≡ None → (b : Bool) → (file.0 == f) ≡ b → lookup (λ n. n == f) (cond (not b) (file ∷ log_without f log) (log_without f log)) ≡ None
  by_case more true is = more
  by_case more false is = ap (λ (b : Bool). cond b (Some file.1) (lookup (λ n. n == f) (log_without f log))) is ∙ more

other_test : (n g f : ℕ) → g ≢ f → (n == f) ≡ true → (n == g) ≡ false
other_test n g f apart is = let same = eqb-true n f is in grind (arith, nat_tests)

lookup_stays : (f g : ℕ) (log : Log) → g ≢ f → lookup (λ n. n == g) (log_without f log) ≡ lookup (λ n. n == g) log
lookup_stays f g [] apart = refl
lookup_stays f g (file ∷ log) apart = by_case (lookup_stays f g log apart) (file.0 == f) refl where
  by_case : lookup (λ n. n == g) (log_without f log) ≡ lookup (λ n. n == g) log → (b : Bool) → (file.0 == f) ≡ b → lookup (λ n. n == g) (cond (not b) (file ∷ log_without f log) (log_without f log)) ≡ cond (file.0 == g) (Some file.1) (lookup (λ n. n == g) log)
  by_case more true is = more ∙ sym (ap (λ (b : Bool). cond b (Some file.1) (lookup (λ n. n == g) log)) (other_test file.0 g f apart is))
  by_case more false is = ap (λ (o : Option (List Entry)). cond (file.0 == g) (Some file.1) o) more

-- among those of a file and others
lookup_of : (f : ℕ) (log others : Log) (es : List Entry) → lookup (λ n. n == f) log ≡ Some es → lookup (λ n. n == f) (log_of f log ++ others) ≡ Some es
lookup_of f [] others es found = absurd cc
lookup_of f (file ∷ log) others es found = by_case (λ rest. lookup_of f log others es rest) (file.0 == f) refl found where
  by_case : (lookup (λ n. n == f) log ≡ Some es → lookup (λ n. n == f) (log_of f log ++ others) ≡ Some es) → (b : Bool) → (file.0 == f) ≡ b → cond b (Some file.1) (lookup (λ n. n == f) log) ≡ Some es → lookup (λ n. n == f) (cond b (file ∷ log_of f log) (log_of f log) ++ others) ≡ Some es
  by_case goes true is some = ap (λ (b : Bool). cond b (Some file.1) (lookup (λ n. n == f) (log_of f log ++ others))) is ∙ some
  by_case goes false is rest = goes rest

lookup_other : (f g : ℕ) (log others : Log) → g ≢ f → lookup (λ n. n == g) (log_of f log ++ others) ≡ lookup (λ n. n == g) others
lookup_other f g [] others apart = refl
lookup_other f g (file ∷ log) others apart = by_case (lookup_other f g log others apart) (file.0 == f) refl where
  by_case : lookup (λ n. n == g) (log_of f log ++ others) ≡ lookup (λ n. n == g) others → (b : Bool) → (file.0 == f) ≡ b → lookup (λ n. n == g) (cond b (file ∷ log_of f log) (log_of f log) ++ others) ≡ lookup (λ n. n == g) others
  by_case more true is = ap (λ (b : Bool). cond b (Some file.1) (lookup (λ n. n == g) (log_of f log ++ others))) (other_test file.0 g f apart is) ∙ more
  by_case more false is = more

none_of : (f : ℕ) (log : Log) → lookup (λ n. n == f) log ≡ None → log_of f log ≡ []
none_of f [] none = refl
none_of f (file ∷ log) none = by_case (λ rest. none_of f log rest) (file.0 == f) none where
  by_case : (lookup (λ n. n == f) log ≡ None → log_of f log ≡ []) → (b : Bool) → cond b (Some file.1) (lookup (λ n. n == f) log) ≡ None → cond b (file ∷ log_of f log) (log_of f log) ≡ []
  by_case goes true some = absurd cc
  by_case goes false rest = goes rest

-- ---- what is kept

-- two crash states that differ in whether the file is there in any case
record HasCrashState (old new : CrashState) : Type 0 where
  pub stable : new.stable ≡ old.stable
  pub max_len : new.max_len ≡ old.max_len
  pub may_exist : new.may_exist ≡ old.may_exist

still_whole : (bytes : List ℕ) (old new : CrashState) → HasCrashState old new → IsWhole bytes old → IsWhole bytes new
still_whole bytes old new so whole = record { stable = so.stable ∙ whole.stable; max_len = so.max_len ∙ whole.max_len }

-- more files were removed
among_more : (gone : Log) (f g at : ℕ) (log : Log) (file : Option (List ℕ)) (crash_state : CrashState) → g ≢ f → KeepsFile gone at g file crash_state → KeepsFile (log_of f log ++ gone) at g file crash_state
among_more gone f g at log (Some bytes) crash_state apart keeps = keeps
among_more gone f g at log None crash_state apart (inl away) = inl away
among_more gone f g at log None crash_state apart (inr was) = inr (record { below = was.below; entries = was.entries; among = lookup_other f g log gone apart ∙ was.among; are_entries = was.are_entries; whole = was.whole })

removed_file : (gone before log : Log) (f at : ℕ) (old new : CrashState) → f < at → AllByRecursion (λ file. (file.0 < 2 ^ 32) × AreFileEntries file.1) log → lookup (λ n. n == f) log ≡ lookup (λ n. n == f) before → HasCrashState old new
    → KeepsFile gone at f (files_of_log before f) old → KeepsFile (log_of f log ++ gone) at f None new
removed_file gone before log f at old new below all same so keeps = by_file (lookup (λ n. n == f) before) refl keeps where
  was : KeepsFile gone at f None old → lookup (λ n. n == f) before ≡ None → KeepsFile (log_of f log ++ gone) at f None new
  was (inl away) none = inl (so.may_exist ∙ away)
  was (inr w) none = inr (record {
    below = w.below;
    entries = w.entries;
    among = ap (λ (l : Log). lookup (λ n. n == f) (l ++ gone)) (none_of f log (same ∙ none)) ∙ w.among;
    are_entries = w.are_entries;
    whole = still_whole (file_bytes f w.entries) old new so w.whole;
  })

  by_file : (o : Option (List Entry)) → lookup (λ n. n == f) before ≡ o → KeepsFile gone at f (option_map (file_bytes f) o) old → KeepsFile (log_of f log ++ gone) at f None new
  by_file None none kept = was kept none
  by_file (Some es) some kept = inr (record {
    below = below;
    entries = es;
    among = lookup_of f log gone es (same ∙ some);
    are_entries = (log_file_at log f es all (same ∙ some)).1;
    whole = still_whole (file_bytes f es) old new so kept.whole;
  })

-- the log without a file, whose crash state says no more that it is there in any case
kept_removed : (log gone : Log) (least first f : ℕ) (reads after : Files) (crash_states new : ℕ → CrashState) → IsLog log → length (entries_of (log_upto f log)) < least → ((g : ℕ) → g ≢ f → new g ≡ crash_states g) → HasCrashState (crash_states f) (new f)
    → AreFileImages new after → KeepsFrom log gone least first reads crash_states → KeepsFrom (log_without f log) (log_of f log ++ gone) (least - length (entries_of (log_of f log))) first after new
kept_removed log gone least first f reads after crash_states new is less same so images k = record {
  keeps = record {
    before = log_without f k.keeps.before;
    at = k.keeps.at;
    kept = k.keeps.kept;
    more = k.keeps.more;
    after = log_without f k.keeps.after;
    log_is = ap (log_without f) k.keeps.log_is ∙ keep_append (λ file. not (file.0 == f)) k.keeps.before ((k.keeps.at, k.keeps.kept ++ k.keeps.more) ∷ k.keeps.after)
        ∙ ap (λ (t : Bool). log_without f k.keeps.before ++ cond (not t) ((k.keeps.at, k.keeps.kept ++ k.keeps.more) ∷ log_without f k.keeps.after) (log_without f k.keeps.after)) (let t : (k.keeps.at == f) ≡ false = grind (arith, nat_tests, below) in t);
    front = front k.keeps.front;
    others = λ g apart. other g apart (cases_order g f);
    at_least =
        let enough = k.keeps.at_least in
        let b = count_without f k.keeps.before in
        let all = ap (λ (l : Log). length (entries_of l)) (ap (log_of f) k.keeps.log_is ∙ keep_append (λ file. file.0 == f) k.keeps.before ((k.keeps.at, k.keeps.kept ++ k.keeps.more) ∷ k.keeps.after)) in
        let parts = ap length (entries-append (log_of f k.keeps.before) (log_of f ((k.keeps.at, k.keeps.kept ++ k.keeps.more) ∷ k.keeps.after))) in
        let two = length-append (entries_of (log_of f k.keeps.before)) (entries_of (log_of f ((k.keeps.at, k.keeps.kept ++ k.keeps.more) ∷ k.keeps.after))) in
        omega (arith, enough, b, all, parts, two);
  };
  first_is = k.first_is;
  read = images;
} where
  below : f < k.keeps.at
  below = is_below log gone least f crash_states k.keeps is less

  is_parts : IsLog (k.keeps.before ++ (k.keeps.at, k.keeps.kept ++ k.keeps.more) ∷ k.keeps.after)
  is_parts = subst IsLog k.keeps.log_is is

  front : (k.keeps.kept ≡ []) ⊎ KeepsFront (file_bytes k.keeps.at k.keeps.kept) (crash_states k.keeps.at) → (k.keeps.kept ≡ []) ⊎ KeepsFront (file_bytes k.keeps.at k.keeps.kept) (new k.keeps.at)
  front (inl none) = inl none
  front (inr there) = inr (subst (KeepsFront (file_bytes k.keeps.at k.keeps.kept)) (sym (same k.keeps.at (λ is. absurd (omega (arith, below, is))))) there)

  here : KeepsFile (log_of f log ++ gone) k.keeps.at f (files_of_log (log_without f k.keeps.before) f) (new f)
  here = subst (λ (o : Option (List ℕ)). KeepsFile (log_of f log ++ gone) k.keeps.at f o (new f)) (sym (ap (option_map (file_bytes f)) (lookup_gone f k.keeps.before)))
      (removed_file gone k.keeps.before log f k.keeps.at (crash_states f) (new f) below is.each
      (ap (λ (l : Log). lookup (λ n. n == f) l) k.keeps.log_is ∙ lookup_under k.keeps.before (k.keeps.at, k.keeps.kept ++ k.keeps.more) k.keeps.after f is_parts below)
      so (k.keeps.others f (λ is. absurd (omega (arith, below, is)))))

  elsewhere : (g : ℕ) → g ≢ k.keeps.at → g ≢ f → KeepsFile (log_of f log ++ gone) k.keeps.at g (files_of_log (log_without f k.keeps.before) g) (new g)
  elsewhere g apart differs =
      subst (λ (o : Option (List ℕ)). KeepsFile (log_of f log ++ gone) k.keeps.at g o (new g)) (sym (ap (option_map (file_bytes g)) (lookup_stays f g k.keeps.before differs)))
      (subst (KeepsFile (log_of f log ++ gone) k.keeps.at g (files_of_log k.keeps.before g)) (sym (same g differs))
      (among_more gone f g k.keeps.at log (files_of_log k.keeps.before g) (crash_states g) differs (k.keeps.others g apart)))

  other : (g : ℕ) → g ≢ k.keeps.at → (g ≡ f) ⊎ ((g < f) ⊎ (f < g)) → KeepsFile (log_of f log ++ gone) k.keeps.at g (files_of_log (log_without f k.keeps.before) g) (new g)
  other g apart (inl is) = subst (λ (n : ℕ). KeepsFile (log_of f log ++ gone) k.keeps.at n (files_of_log (log_without f k.keeps.before) n) (new n)) (sym is) here
  other g apart (inr (inl lt)) = elsewhere g apart (λ is. absurd (omega (arith, is)))
  other g apart (inr (inr gt)) = elsewhere g apart (λ is. absurd (omega (arith, is)))

kept_dropped : (log gone : Log) (least first f : ℕ) (reads : Files) (crash_states : ℕ → CrashState) → IsLog log → length (entries_of (log_upto f log)) < least → KeepsFrom log gone least first reads crash_states
    → KeepsFrom (log_without f log) (log_of f log ++ gone) (least - length (entries_of (log_of f log))) first (put_at reads f None) (with_crash_state f dropped crash_states)
kept_dropped log gone least first f reads crash_states is less k =
    kept_removed log gone least first f reads (put_at reads f None) crash_states (with_crash_state f dropped crash_states) is less (crash_state_other crash_states dropped f)
    (subst (HasCrashState (crash_states f)) (sym (crash_state_same crash_states dropped f f refl)) (record { stable = refl; max_len = refl; may_exist = refl }))
    (image_put crash_states reads f None dropped k.read refl) k

kept_still : (log gone : Log) (least first f : ℕ) (reads : Files) (crash_states : ℕ → CrashState) → IsLog log → length (entries_of (log_upto f log)) < least → KeepsFrom log gone least first reads crash_states
    → KeepsFrom (log_without f log) (log_of f log ++ gone) (least - length (entries_of (log_of f log))) first reads crash_states
kept_still log gone least first f reads crash_states is less k =
    kept_removed log gone least first f reads reads crash_states crash_states is less (λ g apart. refl) (record { stable = refl; max_len = refl; may_exist = refl }) k.read k

pub holds_removed : (log gone : Log) (least f : ℕ) (begun : Option ℕ) (old_first first : ℕ) (s : State) → IsLog log → length (entries_of (log_upto f log)) < least → first ≡ old_first → Holds log gone least begun old_first s
    → Holds (log_without f log) (log_of f log ++ gone) (least - length (entries_of (log_of f log))) (mapped (λ n. n - length (entries_of (log_of f log))) begun) first (removed f s)
holds_removed log gone least f begun old_first first s is less same h = subst (λ (n : ℕ). Holds (log_without f log) (log_of f log ++ gone) (least - taken) (mapped (λ m. m - taken) begun) n (removed f s)) (sym same) (by_file (s.reads f)) where
  taken : ℕ
  taken = length (entries_of (log_of f log))

  job_still : (b : Option ℕ) → KeepsJob log gone least old_first s b → KeepsJob (log_without f log) (log_of f log ++ gone) (least - length (entries_of (log_of f log))) old_first s (mapped (λ n. n - length (entries_of (log_of f log))) b)
  job_still None job = tt
  job_still (Some n) job = record {
    crash_states = job.crash_states;
    job_is = job.job_is;
    no_less = let le = job.no_less in omega (arith, le);
    kept = kept_still log gone n old_first f s.reads job.crash_states is (let le = job.no_less in omega (arith, le)) job.kept;
  }

  job_dropped : (b : Option ℕ) → KeepsJob log gone least old_first s b → KeepsJob (log_without f log) (log_of f log ++ gone) (least - length (entries_of (log_of f log))) old_first (removed_by (Some []) f s) (mapped (λ n. n - length (entries_of (log_of f log))) b)
  job_dropped None job = tt
  job_dropped (Some n) job = record {
    crash_states = with_crash_state f dropped job.crash_states;
    job_is = ap (mapped (with_crash_state f dropped)) job.job_is;
    no_less = let le = job.no_less in omega (arith, le);
    kept = kept_dropped log gone n old_first f s.reads job.crash_states is (let le = job.no_less in omega (arith, le)) job.kept;
  }

  by_file : (there : Option (List ℕ)) → Holds (log_without f log) (log_of f log ++ gone) (least - length (entries_of (log_of f log))) (mapped (λ n. n - length (entries_of (log_of f log))) begun) old_first (removed_by there f s)
  by_file None = record { kept = kept_still log gone least old_first f s.reads s.crash_states is less h.kept; job = job_still begun h.job }
  by_file (Some there) = record { kept = kept_dropped log gone least old_first f s.reads s.crash_states is less h.kept; job = job_dropped begun h.job }

removed_keeps : (log gone : Log) (least f : ℕ) (begun : Option ℕ) (first : ℕ) (before s : State) → IsLog log → length (entries_of (log_upto f log)) < least → Holds log gone least begun first before → IsEither before (removed f before) s
    → KeepsLog (log_without f log) (log_of f log ++ gone) (least - length (entries_of (log_of f log))) s.crash_states
removed_keeps log gone least f begun first before s is less h (inl same) =
    subst (λ (t : State). KeepsLog (log_without f log) (log_of f log ++ gone) (least - length (entries_of (log_of f log))) t.crash_states) (sym same) (kept_still log gone least first f before.reads before.crash_states is less h.kept).keeps
removed_keeps log gone least f begun first before s is less h (inr same) =
    subst (λ (t : State). KeepsLog (log_without f log) (log_of f log ++ gone) (least - length (entries_of (log_of f log))) t.crash_states) (sym same) (holds_removed log gone least f begun first first before is less refl h).kept.keeps

pub removed_through : (log gone : Log) (least f : ℕ) (begun : Option ℕ) (first : ℕ) (old new : History) → IsLog log → length (entries_of (log_upto f log)) < least → Holds log gone least begun first (now old)
    → Passes old new (IsEither (now old) (removed f (now old))) → Passes old new (λ s. KeepsLog (log_without f log) (log_of f log ++ gone) (least - length (entries_of (log_of f log))) s.crash_states)
removed_through log gone least f begun first old new is less h passes =
    passes_weaken old new (IsEither (now old) (removed f (now old))) (λ s. KeepsLog (log_without f log) (log_of f log ++ gone) (least - length (entries_of (log_of f log))) s.crash_states)
    (λ s either. removed_keeps log gone least f begun first (now old) s is less h either) passes
