-- What a crash keeps of a log while the disk is written.
use Rattle.std.proofs.Common.{◌≡◌, ◌≢◌, ℕ, ◌+◌, ◌<◌, ◌≤◌, ◌==◌, Bool, true, false, cond, List, [], ◌∷◌, ◌++◌, Option, Some, None, length, refl, sym, ap, subst, ◌∙◌, arith, option_map, ◌⊎◌, inl, inr}
use Rattle.std.proofs.lemmas.Bool.Decides.{nat_tests}
use Rattle.std.proofs.lemmas.Bool.{cases_order}
use Rattle.std.specs.Map.{lookup}
use Rattle.std.specs.Option.{option_map as mapped}
use Rattle.je_disk.specs.States.{State, Files, CrashState, put_at, put_file, with_crash_state, begun, grown, created, created_by, appended, partly_appended, partly_appended_by, synced, synced_crash_state, synced_crash_states}
use Rattle.je_disk.specs.Images.{IsFileImage, AreFileImages}
use Rattle.je_disk.proofs.ImageLaws.{image_put, image_grown, image_begun, image_made, image_synced, stable_is}
use Rattle.log_entry.specs.declared.entry.Entry.{Entry}
use Rattle.log_file.specs.Log.{Log, IsLog, entries_of, file_bytes, files_of_log}
use Rattle.log_buffer.specs.Crash.{KeepsFront, KeepsWhole, KeepsFile, KeepsLog, KeepsFrom, KeepsJob, Holds}
use Rattle.log_buffer.proofs.LogChanges.{AreBelow, below_more, lookup_none}
use Rattle.log_buffer.proofs.LogSplits.{below_at, lookup_under, lookup_at, IsParted, parted, parts_ordered, parts_same, count_part}

-- ---- crash states

pub crash_state_same : (crash_states : ℕ → CrashState) (change : CrashState → CrashState) (f g : ℕ) → g ≡ f → with_crash_state f change crash_states g ≡ change (crash_states f)
crash_state_same crash_states change f g is = ap (λ (b : Bool). cond b (change (crash_states f)) (crash_states g)) (let t : (g == f) ≡ true = grind (arith, nat_tests) in t)

pub crash_state_other : (crash_states : ℕ → CrashState) (change : CrashState → CrashState) (f g : ℕ) → g ≢ f → with_crash_state f change crash_states g ≡ crash_states g
crash_state_other crash_states change f g apart = ap (λ (b : Bool). cond b (change (crash_states f)) (crash_states g)) (let t : (g == f) ≡ false = grind (arith, nat_tests) in t)

none_kept : (crash_state : CrashState) (bytes : List ℕ) → crash_state.exists_always ≡ false → KeepsFront bytes crash_state → ⊥
none_kept crash_state bytes gone front = let t = front.there in cc

none_whole : (crash_state : CrashState) (bytes : List ℕ) → crash_state.exists_always ≡ false → KeepsWhole bytes crash_state → ⊥
none_whole crash_state bytes gone whole = let t = whole.there in cc

-- a file that is kept whole reads so
pub read_whole : (crash_states : ℕ → CrashState) (reads : Files) (f : ℕ) (bytes : List ℕ) → AreFileImages crash_states reads → KeepsWhole bytes (crash_states f) → reads f ≡ Some bytes
read_whole crash_states reads f bytes are whole = by_file (reads f) refl (are f) where
  by_file : (file : Option (List ℕ)) → reads f ≡ file → IsFileImage (crash_states f) file → reads f ≡ Some bytes
  by_file None is gone = absurd (none_whole (crash_states f) bytes gone whole)
  by_file (Some there) is leaves =
      is ∙ ap (λ (x : List ℕ). Some x) (stable_is (crash_states f) there leaves (whole.whole.max_len ∙ sym (ap length whole.whole.stable)) ∙ whole.whole.stable)

pub keeps_less : (log removed : Log) (m n : ℕ) (crash_states : ℕ → CrashState) → m ≤ n → KeepsLog log removed n crash_states → KeepsLog log removed m crash_states
keeps_less log removed m n crash_states less k = record {
  before = k.before;
  at = k.at;
  kept = k.kept;
  more = k.more;
  after = k.after;
  log_is = k.log_is;
  front = k.front;
  others = k.others;
  at_least = let l = k.at_least in omega (arith, l);
}

-- ---- the file that is being written

whole_before : (log removed : Log) (least f : ℕ) (crash_states : ℕ → CrashState) (es : List Entry) (k : KeepsLog log removed least crash_states) → IsLog log → f < k.at → lookup (λ n. n == f) log ≡ Some es → KeepsWhole (file_bytes f es) (crash_states f)
whole_before log removed least f crash_states es k is less found =
    let there : files_of_log k.before f ≡ Some (file_bytes f es) =
    ap (option_map (file_bytes f)) (sym (lookup_under k.before (k.at, k.kept ++ k.more) k.after f (subst IsLog k.log_is is) less) ∙ ap (λ (l : Log). lookup (λ n. n == f) l) (sym k.log_is) ∙ found) in
    subst (λ (o : Option (List ℕ)). KeepsFile removed k.at f o (crash_states f)) there (k.others f (λ same. absurd (omega (arith, same))))

-- the first file that may be written is the one, where it does not read whole
pub at_first : (log removed : Log) (least first : ℕ) (reads : Files) (crash_states : ℕ → CrashState) (es : List Entry) (k : KeepsFrom log removed least first reads crash_states) → IsLog log → lookup (λ n. n == first) log ≡ Some es
    → (reads first ≡ Some (file_bytes first es) → ⊥) → k.keeps.at ≡ first
at_first log removed least first reads crash_states es k is found part = by_order (cases_order k.keeps.at first) where
  by_order : (k.keeps.at ≡ first) ⊎ ((k.keeps.at < first) ⊎ (first < k.keeps.at)) → k.keeps.at ≡ first
  by_order (inl same) = same
  by_order (inr (inl lt)) = absurd (let le = k.first_is in omega (arith, le))
  by_order (inr (inr gt)) = absurd (part (read_whole crash_states reads first (file_bytes first es) k.read (whole_before log removed least first crash_states es k.keeps is gt found)))

-- that file and its crash state were changed
kept_put : (log removed : Log) (least first f : ℕ) (reads : Files) (crash_states : ℕ → CrashState) (file : Option (List ℕ)) (change : CrashState → CrashState) (k : KeepsFrom log removed least first reads crash_states) → k.keeps.at ≡ f
    → ((bytes : List ℕ) → KeepsFront bytes (crash_states f) → KeepsFront bytes (change (crash_states f))) → IsFileImage (change (crash_states f)) file
    → KeepsFrom log removed least first (put_at reads f file) (with_crash_state f change crash_states)
kept_put log removed least first f reads crash_states file change k at_is stays here = record {
  keeps = record {
    before = k.keeps.before;
    at = k.keeps.at;
    kept = k.keeps.kept;
    more = k.keeps.more;
    after = k.keeps.after;
    log_is = k.keeps.log_is;
    front = front k.keeps.front;
    others = λ g apart. subst (KeepsFile removed k.keeps.at g (files_of_log k.keeps.before g)) (sym (crash_state_other crash_states change f g (λ same. apart (same ∙ sym at_is)))) (k.keeps.others g apart);
    at_least = k.keeps.at_least;
  };
  first_is = k.first_is;
  read = image_put crash_states reads f file change k.read here;
} where
  front : (k.keeps.kept ≡ []) ⊎ KeepsFront (file_bytes k.keeps.at k.keeps.kept) (crash_states k.keeps.at) → (k.keeps.kept ≡ []) ⊎ KeepsFront (file_bytes k.keeps.at k.keeps.kept) (with_crash_state f change crash_states k.keeps.at)
  front (inl none) = inl none
  front (inr there) = inr (subst (KeepsFront (file_bytes k.keeps.at k.keeps.kept)) (sym (crash_state_same crash_states change f k.keeps.at at_is))
      (stays (file_bytes k.keeps.at k.keeps.kept) (subst (λ (n : ℕ). KeepsFront (file_bytes k.keeps.at k.keeps.kept) (crash_states n)) at_is there)))

job_put : (log removed : Log) (least first f : ℕ) (s : State) (file : Option (List ℕ)) (change : CrashState → CrashState)
    → ((n : ℕ) (crash_states : ℕ → CrashState) → KeepsFrom log removed n first s.reads crash_states → KeepsFrom log removed n first (put_at s.reads f file) (with_crash_state f change crash_states))
    → (begun_at : Option ℕ) → KeepsJob log removed least first s begun_at → KeepsJob log removed least first (put_file f file change s) begun_at
job_put log removed least first f s file change goes None job = tt
job_put log removed least first f s file change goes (Some n) job = record {
  crash_states = with_crash_state f change job.crash_states;
  job_is = ap (mapped (with_crash_state f change)) job.job_is;
  no_less = job.no_less;
  kept = goes n job.crash_states job.kept;
}

holds_put : (log removed : Log) (least first f : ℕ) (begun_at : Option ℕ) (s : State) (file : Option (List ℕ)) (change : CrashState → CrashState)
    → ((n : ℕ) (crash_states : ℕ → CrashState) → KeepsFrom log removed n first s.reads crash_states → KeepsFrom log removed n first (put_at s.reads f file) (with_crash_state f change crash_states))
    → Holds log removed least begun_at first s → Holds log removed least begun_at first (put_file f file change s)
holds_put log removed least first f begun_at s file change goes h = record { kept = goes least s.crash_states h.kept; job = job_put log removed least first f s file change goes begun_at h.job }

-- a file of the log that does not read whole yet
pub record IsUnfinished (log : Log) (reads : Files) (f : ℕ) : Type 0 where
  pub is_log : IsLog log
  pub entries : List Entry
  pub found : lookup (λ n. n == f) log ≡ Some entries
  pub part : reads f ≡ Some (file_bytes f entries) → ⊥

first_at : (log removed : Log) (least f : ℕ) (reads : Files) (crash_states : ℕ → CrashState) (k : KeepsFrom log removed least f reads crash_states) → IsUnfinished log reads f → k.keeps.at ≡ f
first_at log removed least f reads crash_states k un = at_first log removed least f reads crash_states un.entries k un.is_log un.found un.part

-- some of the bytes that are being put behind it stand there
pub holds_partly : (log removed : Log) (least f : ℕ) (begun_at : Option ℕ) (s : State) (part bytes : List ℕ) → length part ≤ length bytes → IsUnfinished log s.reads f → Holds log removed least begun_at f s
    → Holds log removed least begun_at f (partly_appended f part bytes s)
holds_partly log removed least f begun_at s part bytes less un h = by_file (s.reads f) refl where
  by_file : (there : Option (List ℕ)) → s.reads f ≡ there → Holds log removed least begun_at f (partly_appended_by there f part bytes s)
  by_file None is = holds_put log removed least f f begun_at s (Some part) (λ crash_state. grown (length bytes) (begun crash_state))
      (λ n crash_states k. kept_put log removed n f f s.reads crash_states (Some part) (λ crash_state. grown (length bytes) (begun crash_state)) k (first_at log removed n f s.reads crash_states k un)
      (λ x front. absurd (none_kept (crash_states f) x (subst (IsFileImage (crash_states f)) is (k.read f)) front)) (image_begun (crash_states f) part bytes less)) h
  by_file (Some there) is = holds_put log removed least f f begun_at s (Some (there ++ part)) (grown (length (there ++ bytes)))
      (λ n crash_states k. kept_put log removed n f f s.reads crash_states (Some (there ++ part)) (grown (length (there ++ bytes))) k (first_at log removed n f s.reads crash_states k un)
      (λ x front. record { there = front.there; rest = front.rest; stable = front.stable }) (image_grown (crash_states f) there part bytes less (subst (IsFileImage (crash_states f)) is (k.read f)))) h

pub holds_appended : (log removed : Log) (least f : ℕ) (begun_at : Option ℕ) (s : State) (bytes : List ℕ) → IsUnfinished log s.reads f → Holds log removed least begun_at f s → Holds log removed least begun_at f (appended f bytes s)
holds_appended log removed least f begun_at s bytes un h = holds_partly log removed least f begun_at s bytes bytes (omega arith) un h

pub holds_created : (log removed : Log) (least f : ℕ) (begun_at : Option ℕ) (s : State) → IsUnfinished log s.reads f → Holds log removed least begun_at f s → Holds log removed least begun_at f (created f s)
holds_created log removed least f begun_at s un h = by_file (s.reads f) refl where
  by_file : (there : Option (List ℕ)) → s.reads f ≡ there → Holds log removed least begun_at f (created_by there f s)
  by_file None is = holds_put log removed least f f begun_at s (Some []) begun
      (λ n crash_states k. kept_put log removed n f f s.reads crash_states (Some []) begun k (first_at log removed n f s.reads crash_states k un)
      (λ bytes front. absurd (none_kept (crash_states f) bytes (subst (IsFileImage (crash_states f)) is (k.read f)) front)) (image_made (crash_states f))) h
  by_file (Some there) is = h

-- ---- a sync

-- what is stable is kept
pub stable_file : (removed : Log) (at f : ℕ) (file : Option (List ℕ)) → KeepsFile removed at f file (synced_crash_state file)
stable_file removed at f None = inl refl
stable_file removed at f (Some bytes) = record { there = refl; whole = record { stable = refl; max_len = refl } }

pub keeps_stable : (log removed : Log) (least : ℕ) (crash_states : ℕ → CrashState) (before : Log) (at : ℕ) (kept more : List Entry) (after : Log) → log ≡ before ++ (at, kept ++ more) ∷ after
    → (kept ≡ []) ⊎ KeepsFront (file_bytes at kept) (crash_states at) → ((g : ℕ) → g ≢ at → crash_states g ≡ synced_crash_state (files_of_log before g)) → least ≤ length (entries_of before) + length kept → KeepsLog log removed least crash_states
keeps_stable log removed least crash_states before at kept more after is front stable enough = record {
  before = before;
  at = at;
  kept = kept;
  more = more;
  after = after;
  log_is = is;
  front = front;
  others = λ g apart. subst (KeepsFile removed at g (files_of_log before g)) (sym (stable g apart)) (stable_file removed at g (files_of_log before g));
  at_least = enough;
}

pub kept_stable : (log removed : Log) (least first : ℕ) (reads : Files) (crash_states : ℕ → CrashState) (before : Log) (at : ℕ) (kept more : List Entry) (after : Log) → log ≡ before ++ (at, kept ++ more) ∷ after
    → (kept ≡ []) ⊎ KeepsFront (file_bytes at kept) (crash_states at) → ((g : ℕ) → g ≢ at → crash_states g ≡ synced_crash_state (files_of_log before g)) → least ≤ length (entries_of before) + length kept → first ≤ at → AreFileImages crash_states reads
    → KeepsFrom log removed least first reads crash_states
kept_stable log removed least first reads crash_states before at kept more after is front stable enough le images = record {
  keeps = record {
    before = before;
    at = at;
    kept = kept;
    more = more;
    after = after;
    log_is = is;
    front = front;
    others = λ g apart. subst (KeepsFile removed at g (files_of_log before g)) (sym (stable g apart)) (stable_file removed at g (files_of_log before g));
    at_least = enough;
  };
  first_is = le;
  read = images;
}

-- the log's files up to this one read whole, and no later one is there
pub record ReadUpTo (log : Log) (n : ℕ) (reads : Files) : Type 0 where
  pub upto : (g : ℕ) → g ≤ n → reads g ≡ files_of_log log g
  pub beyond : (g : ℕ) → n < g → reads g ≡ None

-- what was kept was read
count_read : (log removed : Log) (least first next : ℕ) (reads : Files) (crash_states : ℕ → CrashState) (before after : Log) (es : List Entry) → KeepsFrom log removed least first reads crash_states → IsLog log → log ≡ before ++ (next, es) ∷ after
    → reads next ≡ None → ((g : ℕ) → next < g → reads g ≡ None) → least ≤ length (entries_of before)
count_read log removed least first next reads crash_states before after es k is parts none beyond = by_order (cases_order k.keeps.at next) where
  below_k : AreBelow k.keeps.at k.keeps.before
  below_k = below_at k.keeps.before (k.keeps.at, k.keeps.kept ++ k.keeps.more) k.keeps.after (subst IsLog k.keeps.log_is is)

  below_n : AreBelow next before
  below_n = below_at before (next, es) after (subst IsLog parts is)

  both : k.keeps.before ++ (k.keeps.at, k.keeps.kept ++ k.keeps.more) ∷ k.keeps.after ≡ before ++ (next, es) ∷ after
  both = sym k.keeps.log_is ∙ parts

  nothing_at : k.keeps.at ≡ next → (k.keeps.kept ≡ []) ⊎ KeepsFront (file_bytes k.keeps.at k.keeps.kept) (crash_states k.keeps.at) → least ≤ length (entries_of before)
  nothing_at same (inl empty) =
      let b = ap (λ (l : Log). length (entries_of l)) (parts_same k.keeps.before before k.keeps.after after (k.keeps.at, k.keeps.kept ++ k.keeps.more) (next, es) both below_k below_n same).0 in
      let e = ap length empty in let l = k.keeps.at_least in omega (arith, b, e, l)
  nothing_at same (inr front) =
      absurd (none_kept (crash_states k.keeps.at) (file_bytes k.keeps.at k.keeps.kept) (subst (IsFileImage (crash_states k.keeps.at)) (ap reads same ∙ none) (k.read k.keeps.at)) front)

  by_order : (k.keeps.at ≡ next) ⊎ ((k.keeps.at < next) ⊎ (next < k.keeps.at)) → least ≤ length (entries_of before)
  by_order (inl same) = nothing_at same k.keeps.front
  by_order (inr (inl lt)) =
      let more = parts_ordered k.keeps.before before k.keeps.after after (k.keeps.at, k.keeps.kept ++ k.keeps.more) (next, es) both below_k below_n lt in
      let c = count_part k.keeps.before k.keeps.at k.keeps.kept k.keeps.more more.0 before more.1 in let l = k.keeps.at_least in omega (arith, c, l)
  by_order (inr (inr gt)) =
      absurd (none_whole (crash_states next) (file_bytes next es) (subst (IsFileImage (crash_states next)) none (k.read next))
      (whole_before log removed least next crash_states es k.keeps is gt (ap (λ (l : Log). lookup (λ n. n == next) l) parts ∙ lookup_at before (next, es) after (subst IsLog parts is))))

-- all that is there was synced, and a next file may be begun
next_synced : (log removed : Log) (least first n next : ℕ) (reads : Files) (crash_states : ℕ → CrashState) (es : List Entry) → IsLog log → next ≡ n + 1 → ReadUpTo log n reads → lookup (λ k. k == next) log ≡ Some es
    → KeepsFrom log removed least first reads crash_states → KeepsFrom log removed least next reads (synced_crash_states reads)
next_synced log removed least first n next reads crash_states es is step read found k = by_parts (parted log next es found) where
  by_parts : IsParted log next es → KeepsFrom log removed least next reads (synced_crash_states reads)
  by_parts parts =
      kept_stable log removed least next reads (synced_crash_states reads) parts.before next [] es parts.after parts.log_is (inl refl)
      (λ g apart. ap synced_crash_state (reads_are g apart (cases_order g next)))
      (let c = count_read log removed least first next reads crash_states parts.before parts.after es k is parts.log_is (read.beyond next (omega arith)) (λ g past. read.beyond g (omega arith)) in omega (arith, c))
      (omega arith) (λ g. image_synced (reads g)) where
        is_log : IsLog (parts.before ++ (next, es) ∷ parts.after)
        is_log = subst IsLog parts.log_is is

        reads_are : (g : ℕ) → g ≢ next → (g ≡ next) ⊎ ((g < next) ⊎ (next < g)) → reads g ≡ files_of_log parts.before g
        reads_are g apart (inl same) = absurd (apart same)
        reads_are g apart (inr (inl lt)) =
            read.upto g (omega arith) ∙ ap (λ (l : Log). files_of_log l g) parts.log_is ∙ ap (option_map (file_bytes g)) (lookup_under parts.before (next, es) parts.after g is_log lt)
        reads_are g apart (inr (inr gt)) =
            read.beyond g (omega arith) ∙ sym (ap (option_map (file_bytes g)) (lookup_none parts.before g (below_more next g parts.before (omega arith) (below_at parts.before (next, es) parts.after is_log))))

pub holds_next : (log removed : Log) (least first n next : ℕ) (begun_at : Option ℕ) (s : State) (es : List Entry) → IsLog log → next ≡ n + 1 → ReadUpTo log n s.reads → lookup (λ k. k == next) log ≡ Some es
    → Holds log removed least begun_at first s → Holds log removed least begun_at next (synced s)
holds_next log removed least first n next begun_at s es is step read found h = record {
  kept = next_synced log removed least first n next s.reads s.crash_states es is step read found h.kept;
  job = by_job begun_at h.job;
} where
  by_job : (b : Option ℕ) → KeepsJob log removed least first s b → KeepsJob log removed least next (synced s) b
  by_job None job = tt
  by_job (Some m) job = record {
    crash_states = synced_crash_states s.reads;
    job_is = ap (mapped (λ _. synced_crash_states s.reads)) job.job_is;
    no_less = job.no_less;
    kept = next_synced log removed m first n next s.reads job.crash_states es is step read found job.kept;
  }
