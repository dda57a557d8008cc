-- What a crash keeps of a log that was written whole, and as a sync begins and ends.
use Rattle.std.proofs.Common.{◌≡◌, ◌≢◌, ◌⊎◌, ℕ, ◌+◌, ◌≤◌, ◌<◌, Bool, true, false, List, [], ◌∷◌, ◌++◌, Option, Some, None, length, refl, sym, ap, subst, ◌∙◌, arith, option_map, length-append, inl, inr}
use Rattle.std.specs.Prelude.{unwrap_or, Result, Ok, Err, OnOk}
use Rattle.std.specs.Result.{is_err}
use Rattle.std.proofs.lemmas.Bool.{cases_order}
use Rattle.std.proofs.lemmas.List.{append-nil}
use Rattle.je_disk.specs.States.{State, Files, CrashState, synced, synced_crash_state, synced_crash_states, job_crash_state, job_crash_states, job_begun, job_ended, IsEither}
use Rattle.je_disk.specs.Moments.{History, Passes, now}
use Rattle.je_disk.specs.Images.{IsFileImage, AreFileImages}
use Rattle.je_disk.proofs.ImageLaws.{image_job, image_synced}
use Rattle.je_disk.proofs.MomentLaws.{passes_weaken}
use Rattle.log_entry.specs.declared.entry.Entry.{Entry}
use Rattle.log_file.specs.Log.{Log, IsLog, entries_of, file_bytes, files_of_log}
use Rattle.log_buffer.specs.Log.{EndsAt, HasLog, ReadAs}
use Rattle.log_buffer.specs.declared.buffer.LogBuffer.{LogBuffer}
use Rattle.log_buffer.specs.Buffer.{file_of, offset_of, last_of, first_of}
use Rattle.log_buffer.specs.Crash.{FilesStay, KeepsFront, KeepsFile, KeepsLog, KeepsFrom, WillKeep, Holds, HoldPrefixes, IsKeptSince, KeepsRead, KeptThrough}
use Rattle.log_buffer.proofs.LogChanges.{AreBelow, below_last, below_more, lookup_last, lookup_none, lookup_push}
use Rattle.log_buffer.proofs.CrashWrites.{keeps_less, kept_stable}
use Rattle.log_buffer.proofs.Prefixes.{read_prefixes}
use Rattle.log_buffer.proofs.Staying.{kept_then, stay_same}
use Rattle.log_buffer.proofs.LogSplits.{below_at, count_part, entries-append, parts_ordered, parts_same}

-- the count of a log's entries, by its last file
pub count_last : (before : Log) (f : ℕ) (es : List Entry) → length (entries_of (before ++ (f, es) ∷ [])) ≤ length (entries_of before) + length es
count_last before f es =
    let all = ap length (entries-append before ((f, es) ∷ [])) in
    let parts = length-append (entries_of before) (es ++ []) in
    let last = ap length (append-nil es) in
    omega (arith, all, parts, last)

-- files that read as a log, all stable, keep all of it
pub whole_kept : (log removed : Log) (file offset last first : ℕ) (reads : Files) → IsLog log → EndsAt log file offset last → first ≤ file → ((g : ℕ) → reads g ≡ files_of_log log g)
    → KeepsFrom log removed (length (entries_of log)) first reads (synced_crash_states reads)
whole_kept log removed file offset last first reads is ends le read =
    kept_stable log removed (length (entries_of log)) first reads (synced_crash_states reads) ends.before file ends.entries [] []
    (ends.log_is ∙ ap (λ (x : List Entry). ends.before ++ (file, x) ∷ []) (sym (append-nil ends.entries)))
    (inr front)
    (λ g apart. ap synced_crash_state (read g ∙ ap (λ (l : Log). files_of_log l g) ends.log_is ∙ ap (option_map (file_bytes g)) (lookup_push ends.before file g ends.entries apart)))
    (let c = count_last ends.before file ends.entries in let l = ap (λ (x : Log). length (entries_of x)) ends.log_is in omega (arith, c, l))
    le (λ g. image_synced (reads g)) where
      there : reads file ≡ Some (file_bytes file ends.entries)
      there = read file ∙ ap (λ (l : Log). files_of_log l file) ends.log_is ∙ ap (option_map (file_bytes file)) (lookup_last ends.before file ends.entries (below_last ends.before (file, ends.entries) (subst IsLog ends.log_is is)))

      front : KeepsFront (file_bytes file ends.entries) (synced_crash_states reads file)
      front = subst (λ (o : Option (List ℕ)). KeepsFront (file_bytes file ends.entries) (synced_crash_state o)) (sym there) (record { there = refl; rest = []; stable = sym (append-nil (file_bytes file ends.entries)) })

pub count_kept : (log removed : Log) (least : ℕ) (crash_states : ℕ → CrashState) → KeepsLog log removed least crash_states → least ≤ length (entries_of log)
count_kept log removed least crash_states k = let c = count_part k.before k.at k.kept k.more k.after log k.log_is in let l = k.at_least in omega (arith, c, l)

-- ---- the beginning of a sync

-- what is kept of a file is kept by a sync job that ends
job_file : (removed : Log) (at f : ℕ) (file : Option (List ℕ)) (crash_state : CrashState) → KeepsFile removed at f file crash_state → KeepsFile removed at f file (job_crash_state file crash_state)
job_file removed at f None crash_state keeps = inl refl
job_file removed at f (Some bytes) crash_state keeps = record { there = refl; whole = record { stable = refl; max_len = keeps.whole.max_len } }

-- a file that may not be there is not there
not_there : (crash_state : CrashState) (bytes : List ℕ) → crash_state.may_exist ≡ false → IsFileImage crash_state (Some bytes) → ⊥
not_there crash_state bytes away leaves = let t = leaves.allowed in cc

-- a log whose last file is on the disk
module _ (log removed : Log) (least file : ℕ) (reads : Files) (crash_states : ℕ → CrashState) (before : Log) (entries : List Entry) (k : KeepsLog log removed least crash_states) (is : IsLog log) (last : log ≡ before ++ (file, entries) ∷ [])
    (images : AreFileImages crash_states reads) (there : reads file ≡ Some (file_bytes file entries)) where
  both : k.before ++ (k.at, k.kept ++ k.more) ∷ k.after ≡ before ++ (file, entries) ∷ []
  both = sym k.log_is ∙ last

  below_here : AreBelow k.at k.before
  below_here = below_at k.before (k.at, k.kept ++ k.more) k.after (subst IsLog k.log_is is)

  below_file : AreBelow file before
  below_file = below_at before (file, entries) [] (subst IsLog last is)

  -- no file before it is being written
  not_before : k.at < file → ⊥
  not_before less = by_kept (subst (λ (o : Option (List ℕ)). KeepsFile removed k.at file o (crash_states file)) none (k.others file (λ same. absurd (omega (arith, same))))) where
    none : files_of_log k.before file ≡ None
    none = ap (option_map (file_bytes file)) (lookup_none k.before file (below_more k.at file k.before (omega arith) below_here))

    by_kept : KeepsFile removed k.at file None (crash_states file) → ⊥
    by_kept (inl away) = not_there (crash_states file) (file_bytes file entries) away (subst (IsFileImage (crash_states file)) there (images file))
    by_kept (inr was) = absurd (let b = was.below in omega (arith, b))

  not_behind : file < k.at → ⊥
  not_behind less =
      let more = parts_ordered before k.before [] k.after (file, entries) (k.at, k.kept ++ k.more) (sym both) below_file below_here less in
      let whole = ap length both in
      let one = length-append k.before ((k.at, k.kept ++ k.more) ∷ k.after) in
      let two = length-append before ((file, entries) ∷ []) in
      let parts = ap length more.1 in
      let three = length-append before ((file, entries) ∷ more.0) in
      absurd (omega (arith, whole, one, two, parts, three))

  -- the last file is the one that is being written
  at_last : k.at ≡ file
  at_last = by_order (cases_order k.at file) where
    by_order : (k.at ≡ file) ⊎ ((k.at < file) ⊎ (file < k.at)) → k.at ≡ file
    by_order (inl same) = same
    by_order (inr (inl less)) = absurd (not_before less)
    by_order (inr (inr more)) = absurd (not_behind more)

  -- and the others are kept
  others_kept : (g : ℕ) → g ≢ file → KeepsFile removed file g (files_of_log before g) (crash_states g)
  others_kept g apart =
      subst (λ (l : Log). KeepsFile removed file g (files_of_log l g) (crash_states g)) (parts_same k.before before k.after [] (k.at, k.kept ++ k.more) (file, entries) both below_here below_file at_last).0
      (subst (λ (n : ℕ). KeepsFile removed n g (files_of_log k.before g) (crash_states g)) at_last (k.others g (λ same. apart (same ∙ at_last))))

-- files that read as a log keep all of it once the sync has ended that begins now
job_kept : (log removed : Log) (least file offset last first : ℕ) (s : State) → IsLog log → EndsAt log file offset last → first ≤ file → ((g : ℕ) → s.reads g ≡ files_of_log log g) → KeepsFrom log removed least first s.reads s.crash_states
    → KeepsFrom log removed (length (entries_of log)) first s.reads (job_crash_states s.reads s.crash_states)
job_kept log removed least file offset last first s is ends le read k = record {
  keeps = record {
    before = ends.before;
    at = file;
    kept = ends.entries;
    more = [];
    after = [];
    log_is = ends.log_is ∙ ap (λ (x : List Entry). ends.before ++ (file, x) ∷ []) (sym (append-nil ends.entries));
    front = inr (subst (λ (o : Option (List ℕ)). KeepsFront (file_bytes file ends.entries) (job_crash_state o (s.crash_states file))) (sym there) (record { there = refl; rest = []; stable = sym (append-nil (file_bytes file ends.entries)) }));
    others = λ g apart. subst (λ (o : Option (List ℕ)). KeepsFile removed file g (files_of_log ends.before g) (job_crash_state o (s.crash_states g))) (sym (reads_are g apart))
        (job_file removed file g (files_of_log ends.before g) (s.crash_states g) (others_kept log removed least file s.reads s.crash_states ends.before ends.entries k.keeps is ends.log_is k.read there g apart));
    at_least = let c = count_last ends.before file ends.entries in let l = ap (λ (x : Log). length (entries_of x)) ends.log_is in omega (arith, c, l);
  };
  first_is = le;
  read = λ g. image_job (s.reads g) (s.crash_states g) (k.read g);
} where
  there : s.reads file ≡ Some (file_bytes file ends.entries)
  there = read file ∙ ap (λ (l : Log). files_of_log l file) ends.log_is ∙ ap (option_map (file_bytes file)) (lookup_last ends.before file ends.entries (below_last ends.before (file, ends.entries) (subst IsLog ends.log_is is)))

  reads_are : (g : ℕ) → g ≢ file → s.reads g ≡ files_of_log ends.before g
  reads_are g apart = read g ∙ ap (λ (l : Log). files_of_log l g) ends.log_is ∙ ap (option_map (file_bytes g)) (lookup_push ends.before file g ends.entries apart)

-- a log that was written whole is kept by the sync that begins
pub holds_begun : (log removed : Log) (least file offset last first : ℕ) (begun : Option ℕ) (s : State) → IsLog log → EndsAt log file offset last → first ≤ file → ((g : ℕ) → s.reads g ≡ files_of_log log g)
    → Holds log removed least begun first s → Holds log removed least (Some (length (entries_of log))) first (job_begun s)
holds_begun log removed least file offset last first begun s is ends le read h = record {
  kept = h.kept;
  job = record {
    crash_states = job_crash_states s.reads s.crash_states;
    job_is = refl;
    no_less = count_kept log removed least s.crash_states h.kept.keeps;
    kept = job_kept log removed least file offset last first s is ends le read h.kept;
  };
}

-- files stay where they read as before
stay_either : (before after s : State) → after.reads ≡ before.reads → IsEither before after s → FilesStay before.reads s.reads
stay_either before after s same (inl is) = stay_same before.reads s.reads (ap (λ (t : State). t.reads) is)
stay_either before after s same (inr is) = stay_same before.reads s.reads (ap (λ (t : State). t.reads) is ∙ same)

-- a disk that keeps a log and can go on
kept_read : (log removed : Log) (least first : ℕ) (begun : Option ℕ) (s : State) → HoldPrefixes log s.reads → Holds log removed least begun first s → KeepsRead log removed least s
kept_read log removed least first begun s prefixes h = record { keeps = h.kept.keeps; read = h.kept.read; prefixes = prefixes }

begun_keeps : (log removed : Log) (least : ℕ) (before s : State) → IsEither before (job_begun before) s → KeepsRead log removed least before → KeepsRead log removed least s
begun_keeps log removed least before s (inl is) k = subst (KeepsRead log removed least) (sym is) k
begun_keeps log removed least before s (inr is) k = subst (KeepsRead log removed least) (sym is) (record { keeps = k.keeps; read = k.read; prefixes = k.prefixes })

pub begun_through : (log removed : Log) (least first : ℕ) (begun : Option ℕ) (h old new : History) → KeptThrough h old log removed least → HoldPrefixes log (now old).reads → Holds log removed least begun first (now old)
    → Passes old new (IsEither (now old) (job_begun (now old))) → KeptThrough h new log removed least
begun_through log removed least first begun h old new through prefixes holds passes =
    kept_then log removed least h old new through
    (passes_weaken old new (IsEither (now old) (job_begun (now old))) (IsKeptSince log removed least (now old).reads)
    (λ s either. record {
      kept = begun_keeps log removed least (now old) s either (kept_read log removed least first begun (now old) prefixes holds);
      stay = stay_either (now old) (job_begun (now old)) s refl either;
    }) passes)

-- ---- the end of a sync

ended_crash_states : (log removed : Log) (least first n : ℕ) (s : State) (job : WillKeep log removed least first s.reads s.job n) → (job_ended s).crash_states ≡ job.crash_states
ended_crash_states log removed least first n s job = ap (λ (o : Option (ℕ → CrashState)). unwrap_or o s.crash_states) job.job_is

pub holds_ended : (log removed : Log) (least first n : ℕ) (s : State) → Holds log removed least (Some n) first s → Holds log removed n None first (job_ended s)
holds_ended log removed least first n s h = record {
  kept = subst (λ (m : ℕ → CrashState). KeepsFrom log removed n first s.reads m) (sym (ended_crash_states log removed least first n s h.job)) h.job.kept;
  job = tt;
}

ended_keeps : (log removed : Log) (least first n : ℕ) (before s : State) → HoldPrefixes log before.reads → Holds log removed least (Some n) first before → IsEither before (job_ended before) s → KeepsRead log removed least s
ended_keeps log removed least first n before s prefixes h (inl is) = subst (KeepsRead log removed least) (sym is) (kept_read log removed least first (Some n) before prefixes h)
ended_keeps log removed least first n before s prefixes h (inr is) =
    let ended = holds_ended log removed least first n before h in
    subst (KeepsRead log removed least) (sym is) (record { keeps = keeps_less log removed least n (job_ended before).crash_states h.job.no_less ended.kept.keeps; read = ended.kept.read; prefixes = prefixes })

pub ended_through : (log removed : Log) (least first n : ℕ) (old new : History) → HoldPrefixes log (now old).reads → Holds log removed least (Some n) first (now old) → Passes old new (IsEither (now old) (job_ended (now old))) → KeptThrough old new log removed least
ended_through log removed least first n old new prefixes h passes =
    passes_weaken old new (IsEither (now old) (job_ended (now old))) (IsKeptSince log removed least (now old).reads)
    (λ s either. record { kept = ended_keeps log removed least first n (now old) s prefixes h either; stay = stay_either (now old) (job_ended (now old)) s refl either }) passes

-- ---- a sync at the end

-- a log that was written whole, all stable
whole_read : (log removed : Log) (file offset last first : ℕ) (s : State) → IsLog log → EndsAt log file offset last → first ≤ file → ((g : ℕ) → s.reads g ≡ files_of_log log g) → KeepsRead log removed (length (entries_of log)) (synced s)
whole_read log removed file offset last first s is ends le read =
    let whole = whole_kept log removed file offset last first s.reads is ends le read in
    record { keeps = whole.keeps; read = whole.read; prefixes = read_prefixes log s.reads is read }

synced_keeps : (log removed : Log) (least file offset last first : ℕ) (begun : Option ℕ) (before s : State) → IsLog log → EndsAt log file offset last → first ≤ file → ((g : ℕ) → before.reads g ≡ files_of_log log g)
    → Holds log removed least begun first before → IsEither before (synced before) s → KeepsRead log removed least s
synced_keeps log removed least file offset last first begun before s is ends le read h (inl same) =
    subst (KeepsRead log removed least) (sym same) (kept_read log removed least first begun before (read_prefixes log before.reads is read) h)
synced_keeps log removed least file offset last first begun before s is ends le read h (inr same) =
    let whole = whole_read log removed file offset last first before is ends le read in
    subst (KeepsRead log removed least) (sym same)
    (record { keeps = keeps_less log removed least (length (entries_of log)) (synced_crash_states before.reads) (count_kept log removed least before.crash_states h.kept.keeps) whole.keeps; read = whole.read; prefixes = whole.prefixes })

pub synced_through : (log removed : Log) (least file offset last first : ℕ) (begun : Option ℕ) (h old new : History) → IsLog log → EndsAt log file offset last → first ≤ file → ((g : ℕ) → (now old).reads g ≡ files_of_log log g)
    → KeptThrough h old log removed least → Holds log removed least begun first (now old) → Passes old new (IsEither (now old) (synced (now old))) → KeptThrough h new log removed least
synced_through log removed least file offset last first begun h old new is ends le read through holds passes =
    kept_then log removed least h old new through
    (passes_weaken old new (IsEither (now old) (synced (now old))) (IsKeptSince log removed least (now old).reads)
    (λ s either. record { kept = synced_keeps log removed least file offset last first begun (now old) s is ends le read holds either; stay = stay_either (now old) (synced (now old)) s refl either }) passes)

-- ---- calls that change nothing

pub same_through : (log removed : Log) (least first : ℕ) (begun : Option ℕ) (old new : History) → Passes old new (λ s. s ≡ now old) → HoldPrefixes log (now old).reads → Holds log removed least begun first (now old) → KeptThrough old new log removed least
same_through log removed least first begun old new passes prefixes h =
    passes_weaken old new (λ s. s ≡ now old) (IsKeptSince log removed least (now old).reads)
    (λ s is. record { kept = subst (KeepsRead log removed least) (sym is) (kept_read log removed least first begun (now old) prefixes h); stay = stay_same (now old).reads s.reads (ap (λ (t : State). t.reads) is) }) passes

-- ---- a log that is closed

-- a sync of a log that was written whole
pub closed_through : {T E D : Type 0} (r : Result T E) (observable : Bool) (log removed : Log) (least : ℕ) (begun : Option ℕ) (h old new : History) (buffer : LogBuffer D) → is_err r ≡ false → observable ≡ true → OnOk r (HasLog observable (now old) buffer log)
    → OnOk r (Holds log removed least begun (first_of buffer) (now old)) → OnOk r (ReadAs observable (now old).reads log) → KeptThrough h old log removed least → Passes old new (IsEither (now old) (synced (now old))) → KeptThrough h new log removed least
closed_through (Ok v) observable log removed least begun h old new buffer ok observed has holds read through passes =
    synced_through log removed least (file_of buffer) (offset_of buffer) (last_of buffer) (first_of buffer) begun h old new has.is_log has.ends (omega arith) (read observed) through holds passes
closed_through (Err e) observable log removed least begun h old new buffer ok observed has holds read through passes = absurd cc

pub closed_keeps : {T E D : Type 0} (r : Result T E) (observable : Bool) (log : Log) (old new : History) (buffer : LogBuffer D) → is_err r ≡ false → observable ≡ true → OnOk r (HasLog observable (now old) buffer log) → OnOk r (ReadAs observable (now old).reads log)
    → now new ≡ synced (now old) → KeepsRead log [] (length (entries_of log)) (now new)
closed_keeps (Ok v) observable log old new buffer ok observed has read done =
    subst (KeepsRead log [] (length (entries_of log))) (sym done)
    (whole_read log [] (file_of buffer) (offset_of buffer) (last_of buffer) (file_of buffer) (now old) has.is_log has.ends (omega arith) (read observed))
closed_keeps (Err e) observable log old new buffer ok observed has read done = absurd cc

pub closed_whole : {T E U F : Type 0} (r : Result T E) (r' : Result U F) (observable : Bool) (log : Log) (s t : State) → is_err r ≡ false → OnOk r (ReadAs observable s.reads log) → (observable ≡ true → OnOk r' (t ≡ synced s)) → OnOk r' (ReadAs observable t.reads log)
closed_whole (Ok v) (Ok w) observable log s t ok read done = λ observed f. ap (λ (u : State). u.reads f) (done observed) ∙ read observed f
closed_whole (Ok v) (Err e) observable log s t ok read done = tt
closed_whole (Err e) r' observable log s t ok read done = absurd cc

pub closed_stable : {T E : Type 0} (r : Result T E) (s t : State) → OnOk r (t ≡ synced s) → OnOk r (t.crash_states ≡ synced_crash_states t.reads)
closed_stable (Ok v) s t done = subst (λ (u : State). u.crash_states ≡ synced_crash_states u.reads) (sym done) refl
closed_stable (Err e) s t done = tt
