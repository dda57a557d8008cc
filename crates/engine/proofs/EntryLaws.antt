-- What a crash leaves of an environment while it is opened.
use Rattle.std.proofs.Common.{◌≡◌, ◌≢◌, ℕ, ◌<◌, ◌≤◌, ◌^◌, ◌==◌, nat_lt, cond, Bool, true, false, List, [], ◌∷◌, ◌++◌, Option, Some, None, Ok, option_map, refl, ap, sym, ◌∙◌, subst, ◌⊎◌, inl, inr, arith, length, take, drop}
use Rattle.std.specs.Prelude.{unwrap_or}
use Rattle.std.specs.List.{AllByRecursion}
use Rattle.std.specs.List.Sorted.{IsStrictlyIncreasing}
use Rattle.std.specs.Map.{lookup}
use Rattle.std.proofs.lemmas.Bool.{cases_lt, cases_order, eqb-true}
use Rattle.std.proofs.lemmas.Bool.Decides.{nat_tests}
use Rattle.std.proofs.lemmas.List.{append-nil, length-take, length-take-le, take-append-drop, take_all}
use Rattle.je_bytes.specs.Reading.{AreBytes}
use Rattle.je_disk.specs.States.{Files, IsEither, CrashState, State, content, cut, cut_by, put_at, put_file, shortened, synced, synced_crash_state}
use Rattle.je_disk.specs.Images.{AreFileImages, IsFileImage, Leaves}
use Rattle.je_disk.specs.Moments.{History, Passes, now}
use Rattle.je_disk.proofs.ImageLaws.{image_put, image_synced}
use Rattle.je_disk.proofs.MomentLaws.{passes_none, passes_then, passes_weaken}
use Rattle.store_model.specs.declared.store.Store.{Store}
use Rattle.log_entry.specs.declared.entry.Entry.{Entry}
use Rattle.log_file.specs.declared.valid_prefix.ValidPrefix.{ValidPrefix}
use Rattle.log_file.specs.declared.file_scan.FileScan.{FileScan}
use Rattle.log_file.specs.declared.file_scan.FileScan.TheVariants.{Prefix, VersionUnknown as OtherVersion, Damaged as NoHeader}
use Rattle.log_file.specs.Laws.{AreEncodedBack}
use Rattle.log_file.specs.Log.{AreFiles, Log, entries_scanned, entries_of, file_bytes, files_of_log, log_in}
use Rattle.log_file.specs.Scan.{scan_of}
use Rattle.log_file.proofs.FilesLaws.{are_one_list}
use Rattle.log_file.proofs.FileScanLaws.{are_encoded_back}
use Rattle.log_buffer.specs.Chance.{HasPrefix, IsKeptByCut, LastIsKept, ReadSince}
use Rattle.log_buffer.specs.Crash.{KeepsLog, HoldsPrefix, HoldPrefixes, entries_at}
use Rattle.log_buffer.proofs.ChanceMatches.{chance_more, past_is_held}
use Rattle.log_buffer.proofs.CrashOpen.{cuts_keep}
use Rattle.log_buffer.proofs.Prefixes.{cut_prefixes, empty_prefix}
use Rattle.log_replay.specs.declared.last_file.LastFile.{LastFile}
use Rattle.log_replay.specs.UnderWay.{IsLastOf, IsTailOf}
use Rattle.je_lsn.specs.declared.file_no.TheConstants.{LAST_FILE}
use Rattle.engine.specs.Crash.{ImagesMean, IsTailCut, KeepsEntry, NothingPending, ReadAsAtEntry}
use Rattle.engine.proofs.FileLaws.{front_reads, headless, log_is, lookup-last}
use Rattle.log_replay.specs.Reading.{corruption_at, corruption_in}
use Rattle.store_model.specs.Store.{store_after}
use Rattle.log_trees.specs.Placed.{placed}
use Rattle.log_meaning.specs.Meaning.{Meaning}
use Rattle.log_meaning.specs.Reading.{reading_of}
use Rattle.log_meaning.specs.Recovery.{commits_in}
use Rattle.crash_recovery.specs.Opening.{IsOpenedLog, first_of_found, found_log}
use Rattle.crash_recovery.specs.Recovery.{IsImageRecovered, RecoversLog}
use Rattle.crash_recovery.proofs.Commits.{all_are_committed}
use Rattle.crash_recovery.proofs.FoundLogs.{found_logs_recover}
use Rattle.crash_recovery.proofs.ImageStores.{kept_images_recover}
use Rattle.engine.specs.Files.{MeanStore}
use Rattle.engine.specs.Opening.{HasTornTailCut, IsSettling, cut_off, log_start_of}
use Rattle.engine.proofs.OpeningLaws.{AreLogFiles, File, all_last, are_files, below_last, found_ends, found_last, found_named, found_none, full_front, none_is, numbers, or_parts, settled_last, settled_other, small_tail}

-- ---- the rest that is cut off

-- files with the rest of the last one cut off are settled
pub settles : (tail : Option LastFile) (s : State) → HasTornTailCut s.reads (cut_off tail s).reads tail
settles None s = λ g. refl
settles (Some last) s = λ g. by_test (nat_lt last.end last.len) g
  where
    at : ℕ
    at = last.file.0

    by_length : (there : List ℕ) (b : Bool) → nat_lt last.end (length there) ≡ b → s.reads at ≡ Some there → (g : ℕ) →
        (cond b (put_file at (Some (take last.end there)) (shortened last.end) s) s).reads g ≡ put_at s.reads at (Some (take last.end there)) g
    by_length there true test is g = refl
    by_length there false test is g = by_file (g == at) refl
      where
        by_file : (b : Bool) → (g == at) ≡ b → s.reads g ≡ cond b (Some (take last.end there)) (s.reads g)
        by_file true e =
            let short : length there ≤ last.end = grind (arith, nat_tests) in
            ap (λ n. s.reads n) (eqb-true g at e) ∙ is ∙ ap (λ (x : List ℕ). Some x) (sym (take_all last.end there short))
        by_file false e = refl

    by_there : (file : Option (List ℕ)) → s.reads at ≡ file → (g : ℕ) → (cut_by file at last.end s).reads g ≡ put_at s.reads at (option_map (take last.end) file) g
    by_there None is g = by_file (g == at) refl
      where
        by_file : (b : Bool) → (g == at) ≡ b → s.reads g ≡ cond b None (s.reads g)
        by_file true e = ap (λ n. s.reads n) (eqb-true g at e) ∙ is
        by_file false e = refl
    by_there (Some there) is g = by_length there (nat_lt last.end (length there)) refl is g

    by_test : (b : Bool) → (g : ℕ) → (cond b (cut at last.end s) s).reads g ≡ cond b (put_at s.reads at (option_map (take last.end) (s.reads at)) g) (s.reads g)
    by_test true g = by_there (s.reads at) refl g
    by_test false g = refl

-- a sync behind the cut
pub settling_synced : (tail : Option LastFile) (before mid s : State) → mid ≡ cut_off tail before → IsEither mid (synced mid) s → IsSettling tail before s
settling_synced tail before mid s done (inl same) = inl (inr (same ∙ done))
settling_synced tail before mid s done (inr same) = inr (same ∙ ap synced done)

-- ---- the log that is opened, in the files at entry

-- a log's last file has a rest behind its valid prefix, and the files before it are the log's
pub record HasRest (reads : Files) (last : LastFile) (log : Log) : Type 0 where
  pub before : Log
  pub entries : List Entry
  pub log_is : log ≡ before ++ (last.file.0, entries) ∷ []
  pub others : (g : ℕ) → g ≢ last.file.0 → reads g ≡ files_of_log before g
  pub bytes : List ℕ
  pub there : reads last.file.0 ≡ Some bytes
  pub len : last.len ≡ length bytes
  pub within : last.end ≤ length bytes
  pub front : (entries ≡ []) ⊎ (take last.end bytes ≡ file_bytes last.file.0 entries)

rest_parts : (reads : Files) (front : List File) (bytes : List ℕ) (last : LastFile) (run : ValidPrefix) → run.end ≡ last.end →
    AllByRecursion (λ (file : File). AreBytes file.1) (front ++ (last.file.0, bytes) ∷ []) → IsStrictlyIncreasing (numbers (front ++ (last.file.0, bytes) ∷ [])) → last.file.0 < 2 ^ 32 →
    corruption_in (front ++ (last.file.0, bytes) ∷ []) ≡ None → scan_of last.file.0 bytes ≡ Prefix run → last.len ≡ length bytes →
    AreFiles reads (front ++ (last.file.0, bytes) ∷ []) → HasRest reads last (log_in (front ++ (last.file.0, bytes) ∷ []))
rest_parts reads front bytes last run end_is all rising small none found len observed = record {
  before = log_in front;
  entries = run.entries;
  log_is = log_is front f bytes run found;
  others = λ g other. front_reads front f bytes reads back (are_files front (f, bytes) all below small) (full_front front (f, bytes) none) observed.each g other;
  bytes = bytes;
  there = sym (observed.each f) ∙ lookup-last front f bytes (none_is front (f, bytes) below);
  len = len;
  within = end_parts.0;
  front = end_parts.1;
} where
  f : ℕ
  f = last.file.0

  back : AreEncodedBack
  back = are_encoded_back

  below : AllByRecursion (λ (file : File). file.0 < f) front
  below = below_last front (f, bytes) rising

  by_end : (0 < run.end) ⊎ (run.end ≤ 0) → (last.end ≤ length bytes) × ((run.entries ≡ []) ⊎ (take last.end bytes ≡ file_bytes f run.entries))
  by_end (inl some) =
      let encoded = back f bytes run (all_last (λ (file : File). AreBytes file.1) front (f, bytes) all) found some in
      (subst (λ n. n ≤ length bytes) end_is encoded.within, inr (subst (λ n. take n bytes ≡ file_bytes f run.entries) end_is encoded.parts))
  by_end (inr low) = (omega (arith, low, end_is), inl (headless f bytes run found (omega (arith, low))).0)

  end_parts : (last.end ≤ length bytes) × ((run.entries ≡ []) ⊎ (take last.end bytes ≡ file_bytes f run.entries))
  end_parts = by_end (cases_lt 0 run.end)

rest_last : (reads : Files) (held : List File) (last : LastFile) → AllByRecursion (λ (file : File). AreBytes file.1) held → IsStrictlyIncreasing (numbers held) → last.file.0 < 2 ^ 32 →
    corruption_in held ≡ None → IsLastOf held last → AreFiles reads held → HasRest reads last (log_in held)
rest_last reads held last all rising small none is observed =
    let whole : held ≡ is.before ++ (last.file.0, is.bytes) ∷ [] = is.parts in
    subst (λ (h : List File). HasRest reads last (log_in h)) (sym whole)
    (rest_parts reads is.before is.bytes last (record { entries = entries_scanned (scan_of last.file.0 is.bytes); last = last.last; end = last.end }) refl
    (subst (λ (h : List File). AllByRecursion (λ (file : File). AreBytes file.1) h) whole all) (subst (λ (h : List File). IsStrictlyIncreasing (numbers h)) whole rising) small
    (subst (λ (h : List File). corruption_in h ≡ None) whole none) is.found is.len (subst (λ (h : List File). AreFiles reads h) whole observed))

-- ---- what a crash keeps of it

kept_by : (before : Log) (f : ℕ) (entries : List Entry) (s : State) → NothingPending s → ((g : ℕ) → g ≢ f → s.reads g ≡ files_of_log before g) →
    (entries ≡ []) ⊎ ((rest : List ℕ) × (s.reads f ≡ Some (file_bytes f entries ++ rest))) → IsKeptByCut before f entries s
kept_by before f entries s pending others front = cuts_keep before f entries s (λ g other. pending g ∙ ap synced_crash_state (others g other)) (last_kept front)
  where
    last_kept : (entries ≡ []) ⊎ ((rest : List ℕ) × (s.reads f ≡ Some (file_bytes f entries ++ rest))) → LastIsKept f entries s.crash_states
    last_kept (inl none) = inl none
    last_kept (inr is) =
        let crash_state : s.crash_states f ≡ synced_crash_state (Some (file_bytes f entries ++ is.0)) = pending f ∙ ap synced_crash_state is.1 in
        inr (record { there = ap (λ (m : CrashState). m.exists_always) crash_state; rest = is.0; stable = ap (λ (m : CrashState). m.stable) crash_state })

-- the last file as it was at entry, and as it is with its rest cut off
rest_at_entry : (last : LastFile) (log : Log) (s : State) (rest : HasRest s.reads last log) (reads : Files) → reads last.file.0 ≡ s.reads last.file.0 →
    (rest.entries ≡ []) ⊎ ((more : List ℕ) × (reads last.file.0 ≡ Some (file_bytes last.file.0 rest.entries ++ more)))
rest_at_entry last log s rest reads same = by_front rest.front
  where
    by_front : (rest.entries ≡ []) ⊎ (take last.end rest.bytes ≡ file_bytes last.file.0 rest.entries) →
        (rest.entries ≡ []) ⊎ ((more : List ℕ) × (reads last.file.0 ≡ Some (file_bytes last.file.0 rest.entries ++ more)))
    by_front (inl none) = inl none
    by_front (inr front) = inr (
      drop last.end rest.bytes,
      same ∙ rest.there ∙ ap (λ (x : List ℕ). Some x) (sym (take-append-drop last.end rest.bytes) ∙ ap (λ (x : List ℕ). x ++ drop last.end rest.bytes) front),
    )

rest_behind : (last : LastFile) (log : Log) (s : State) (rest : HasRest s.reads last log) (reads : Files) → reads last.file.0 ≡ (cut_off (Some last) s).reads last.file.0 →
    (rest.entries ≡ []) ⊎ ((more : List ℕ) × (reads last.file.0 ≡ Some (file_bytes last.file.0 rest.entries ++ more)))
rest_behind last log s rest reads same = by_front rest.front
  where
    here : (cut_off (Some last) s).reads last.file.0 ≡ Some (take last.end rest.bytes)
    here = settled_last s.reads (cut_off (Some last) s).reads last rest.bytes (settles (Some last) s) rest.there rest.len rest.within

    by_front : (rest.entries ≡ []) ⊎ (take last.end rest.bytes ≡ file_bytes last.file.0 rest.entries) →
        (rest.entries ≡ []) ⊎ ((more : List ℕ) × (reads last.file.0 ≡ Some (file_bytes last.file.0 rest.entries ++ more)))
    by_front (inl none) = inl none
    by_front (inr front) = inr ([], same ∙ here ∙ ap (λ (x : List ℕ). Some x) (front ∙ sym (append-nil (file_bytes last.file.0 rest.entries))))

-- a log whose last file has a rest, at each moment at which that is settled
kept_last : (last : LastFile) (log : Log) (s x : State) → NothingPending s → HasRest s.reads last log → IsSettling (Some last) s x → KeepsLog log [] (length (entries_of log)) x.crash_states
kept_last last log s x pending rest is = subst (λ (l : Log). KeepsLog l [] (length (entries_of l)) x.crash_states) (sym rest.log_is) (by_settling is)
  where
    f : ℕ
    f = last.file.0

    whole : Log
    whole = rest.before ++ (f, rest.entries) ∷ []

    after : State
    after = cut_off (Some last) s

    at : (rest.entries ≡ []) ⊎ (take last.end rest.bytes ≡ file_bytes f rest.entries) → (last.end ≡ length (file_bytes f rest.entries)) ⊎ (rest.entries ≡ [])
    at (inl none) = inr none
    at (inr front) = inl (sym (length-take-le last.end rest.bytes rest.within) ∙ ap length front)

    entry : IsKeptByCut rest.before f rest.entries s
    entry = kept_by rest.before f rest.entries s pending rest.others (rest_at_entry last log s rest s.reads refl)

    by_test : (b : Bool) → KeepsLog whole [] (length (entries_of whole)) (cond b (cut f last.end s) s).crash_states
    by_test true = entry.behind last.end (at rest.front)
    by_test false = entry.found

    settled : IsKeptByCut rest.before f rest.entries (synced after)
    settled = kept_by rest.before f rest.entries (synced after) (λ g. refl) (λ g other. settled_other s.reads after.reads last g (settles (Some last) s) other ∙ rest.others g other) (rest_behind last log s rest after.reads refl)

    by_settling : IsSettling (Some last) s x → KeepsLog whole [] (length (entries_of whole)) x.crash_states
    by_settling (inl (inl same)) = subst (λ (y : State). KeepsLog whole [] (length (entries_of whole)) y.crash_states) (sym same) entry.found
    by_settling (inl (inr same)) = subst (λ (y : State). KeepsLog whole [] (length (entries_of whole)) y.crash_states) (sym same) (by_test (nat_lt last.end last.len))
    by_settling (inr same) = subst (λ (y : State). KeepsLog whole [] (length (entries_of whole)) y.crash_states) (sym same) settled.found

-- the same at a moment where nothing is pending, whatever was pending before
kept_now_last : (last : LastFile) (log : Log) (s x : State) → NothingPending x → HasRest s.reads last log → IsSettling (Some last) s x → KeepsLog log [] (length (entries_of log)) x.crash_states
kept_now_last last log s x pending rest is = subst (λ (l : Log). KeepsLog l [] (length (entries_of l)) x.crash_states) (sym rest.log_is) (by_settling is)
  where
    whole : Log
    whole = rest.before ++ (last.file.0, rest.entries) ∷ []

    after : State
    after = cut_off (Some last) s

    behind : x.reads ≡ after.reads → KeepsLog whole [] (length (entries_of whole)) x.crash_states
    behind same =
        (kept_by rest.before last.file.0 rest.entries x pending
        (λ g other. ap (λ (reads : Files). reads g) same ∙ settled_other s.reads after.reads last g (settles (Some last) s) other ∙ rest.others g other)
        (rest_behind last log s rest x.reads (ap (λ (reads : Files). reads last.file.0) same))).found

    by_settling : IsSettling (Some last) s x → KeepsLog whole [] (length (entries_of whole)) x.crash_states
    by_settling (inl (inl same)) =
        (kept_by rest.before last.file.0 rest.entries x pending (λ g other. ap (λ (y : State). y.reads g) same ∙ rest.others g other)
        (rest_at_entry last log s rest x.reads (ap (λ (y : State). y.reads last.file.0) same))).found
    by_settling (inl (inr same)) = behind (ap (λ (y : State). y.reads) same)
    by_settling (inr same) = behind (ap (λ (y : State). y.reads) same)

-- a log of which no file is there yet
kept_none : (s x : State) → NothingPending s → ((g : ℕ) → s.reads g ≡ None) → IsSettling None s x → KeepsLog ((0, []) ∷ []) [] 0 x.crash_states
kept_none s x pending none is = by_settling is
  where
    entry : IsKeptByCut [] 0 [] s
    entry = kept_by [] 0 [] s pending (λ g other. none g) (inl refl)

    settled : IsKeptByCut [] 0 [] (synced s)
    settled = kept_by [] 0 [] (synced s) (λ g. refl) (λ g other. none g) (inl refl)

    by_settling : IsSettling None s x → KeepsLog ((0, []) ∷ []) [] 0 x.crash_states
    by_settling (inl (inl same)) = subst (λ (y : State). KeepsLog ((0, []) ∷ []) [] 0 y.crash_states) (sym same) entry.found
    by_settling (inl (inr same)) = subst (λ (y : State). KeepsLog ((0, []) ∷ []) [] 0 y.crash_states) (sym same) entry.found
    by_settling (inr same) = subst (λ (y : State). KeepsLog ((0, []) ∷ []) [] 0 y.crash_states) (sym same) settled.found

kept_now_none : (s x : State) → NothingPending x → ((g : ℕ) → s.reads g ≡ None) → IsSettling None s x → KeepsLog ((0, []) ∷ []) [] 0 x.crash_states
kept_now_none s x pending none is = (kept_by [] 0 [] x pending (λ g other. same is g ∙ none g) (inl refl)).found
  where
    same : IsSettling None s x → (g : ℕ) → x.reads g ≡ s.reads g
    same (inl (inl is)) g = ap (λ (y : State). y.reads g) is
    same (inl (inr is)) g = ap (λ (y : State). y.reads g) is
    same (inr is) g = ap (λ (y : State). y.reads g) is

-- the last file of a log that was read
rest_read : (reads : Files) (held : List File) (last : LastFile) → AreLogFiles held (Some last) → AreFiles reads held → HasRest reads last (log_in held)
rest_read reads held last files observed =
    let low : last.file.0 ≤ LAST_FILE = small_tail held (Some last) files in
    rest_last reads held last files.bytes files.rising (omega (arith, low)) files.none files.last observed

-- the log that was read, at each moment at which it is settled: where nothing was pending before, or nothing is now
kept_settling : (s x : State) (held : List File) (tail : Option LastFile) → AreLogFiles held tail → AreFiles s.reads held → NothingPending s ⊎ NothingPending x → IsSettling tail s x →
    KeepsLog (found_log 0 held) [] (length (entries_of (found_log 0 held))) x.crash_states
kept_settling s x held None files observed pending is =
    subst (λ (l : Log). KeepsLog l [] (length (entries_of l)) x.crash_states) (sym (found_none held files.last)) (by_pending pending)
  where
    none : (g : ℕ) → s.reads g ≡ None
    none g = sym (observed.each g) ∙ ap (λ (h : List File). lookup (λ n. n == g) h) files.last

    by_pending : NothingPending s ⊎ NothingPending x → KeepsLog ((0, []) ∷ []) [] 0 x.crash_states
    by_pending (inl before) = kept_none s x before none is
    by_pending (inr here) = kept_now_none s x here none is
kept_settling s x held (Some last) files observed pending is =
    subst (λ (l : Log). KeepsLog l [] (length (entries_of l)) x.crash_states) (sym (found_last held last files.last)) (by_pending pending)
  where
    by_pending : NothingPending s ⊎ NothingPending x → KeepsLog (log_in held) [] (length (entries_of (log_in held))) x.crash_states
    by_pending (inl before) = kept_last last (log_in held) s x before (rest_read s.reads held last files observed) is
    by_pending (inr here) = kept_now_last last (log_in held) s x here (rest_read s.reads held last files observed) is

-- ---- what its files read as

-- files that were read without a corruption have runs
all_runs : (held : List File) → corruption_in held ≡ None → AllByRecursion HasPrefix held
all_runs [] none = tt
all_runs (file ∷ held) none =
    let parts = or_parts (corruption_at (length held == 0) file.0 (length file.1) (scan_of file.0 file.1)) (corruption_in held) none in
    (by_found (scan_of file.0 file.1) refl parts.0, all_runs held parts.1)
  where
    by_found : (found : FileScan) → scan_of file.0 file.1 ≡ found → corruption_at (length held == 0) file.0 (length file.1) found ≡ None → HasPrefix file
    by_found (Prefix run) is h = record { prefix = run; found = is }
    by_found (OtherVersion version) is h = cc
    by_found NoHeader is h = cc

-- such files hold what their log has in them
prefixes_in : (held : List File) (f : ℕ) → AllByRecursion HasPrefix held → HoldsPrefix f (entries_at (log_in held) f) (unwrap_or (lookup (λ n. n == f) held) [])
prefixes_in [] f all = empty_prefix f []
prefixes_in (file ∷ held) f all = by_file (file.0 == f) refl (prefixes_in held f all.1)
  where
    here : HasPrefix file → HoldsPrefix file.0 (entries_scanned (scan_of file.0 file.1)) file.1
    here is = record { prefix = is.prefix; found = is.found; more = []; is = ap entries_scanned is.found ∙ sym (append-nil is.prefix.entries) }

    by_file : (b : Bool) → (file.0 == f) ≡ b → HoldsPrefix f (unwrap_or (lookup (λ n. n == f) (log_in held)) []) (unwrap_or (lookup (λ n. n == f) held) []) →
        HoldsPrefix f (unwrap_or (cond b (Some (entries_scanned (scan_of file.0 file.1))) (lookup (λ n. n == f) (log_in held))) []) (unwrap_or (cond b (Some file.1) (lookup (λ n. n == f) held)) [])
    by_file true same rest = subst (λ (n : ℕ). HoldsPrefix n (entries_scanned (scan_of file.0 file.1)) file.1) (eqb-true _ _ same) (here all.0)
    by_file false other rest = rest

-- the log that was read, at each moment at which it is settled
by_states : (tail : Option LastFile) (log : Log) (s x : State) → HoldPrefixes log s.reads → HoldPrefixes log (cut_off tail s).reads → IsSettling tail s x → HoldPrefixes log x.reads
by_states tail log s x before behind (inl (inl same)) = subst (λ (y : State). HoldPrefixes log y.reads) (sym same) before
by_states tail log s x before behind (inl (inr same)) = subst (λ (y : State). HoldPrefixes log y.reads) (sym same) behind
by_states tail log s x before behind (inr same) = subst (λ (y : State). HoldPrefixes log y.reads) (sym same) behind

prefixes_settling : (s x : State) (held : List File) (tail : Option LastFile) → AreLogFiles held tail → AreFiles s.reads held → IsSettling tail s x → HoldPrefixes (found_log 0 held) x.reads
prefixes_settling s x held None files observed is =
    let first : HoldPrefixes ((0, []) ∷ []) s.reads =
    λ f. subst (λ (o : Option (List ℕ)). HoldsPrefix f (entries_at ((0, []) ∷ []) f) (unwrap_or o [])) (ap (λ (h : List File). lookup (λ n. n == f) h) (sym files.last) ∙ observed.each f) (empty_prefix f (entries_at ((0, []) ∷ []) f)) in
    subst (λ (l : Log). HoldPrefixes l x.reads) (sym (found_none held files.last)) (by_states None ((0, []) ∷ []) s x first first is)
prefixes_settling s x held (Some last) files observed is =
    subst (λ (l : Log). HoldPrefixes l x.reads) (sym (found_last held last files.last)) (by_states (Some last) (log_in held) s x entry (by_test (nat_lt last.end last.len)) is)
  where
    entry : HoldPrefixes (log_in held) s.reads
    entry f = subst (λ (o : Option (List ℕ)). HoldsPrefix f (entries_at (log_in held) f) (unwrap_or o [])) (observed.each f) (prefixes_in held f (all_runs held files.none))

    by_test : (b : Bool) → HoldPrefixes (log_in held) (cond b (cut last.file.0 last.end s) s).reads
    by_test true = cut_prefixes (log_in held) last.file.0 last.end s entry
    by_test false = entry

lookup_above : (front : List File) (f g : ℕ) (bytes : List ℕ) → AllByRecursion (λ (file : File). file.0 < f) front → f < g → lookup (λ n. n == g) (front ++ (f, bytes) ∷ []) ≡ None
lookup_above [] f g bytes below above = ap (λ (b : Bool). cond b (Some bytes) None) (let t : (f == g) ≡ false = grind (arith, nat_tests) in t)
lookup_above (file ∷ front) f g bytes below above =
    ap (λ (b : Bool). cond b (Some file.1) (lookup (λ n. n == g) (front ++ (f, bytes) ∷ []))) (let under : file.0 < f = below.0 in let t : (file.0 == g) ≡ false = grind (arith, nat_tests) in t)
    ∙ lookup_above front f g bytes below.1 above

-- the last file that was read, cut off behind its valid prefix
tail_cut : (reads : Files) (held : List File) (last : LastFile) → AreFiles reads held → IsLastOf held last → IsTailCut reads last.file.0 (option_map (take last.end) (reads last.file.0))
tail_cut reads held last observed is = record {
  run = record { entries = entries_scanned (scan_of last.file.0 is.bytes); last = last.last; end = last.end };
  found = ap (λ (o : Option (List ℕ)). scan_of last.file.0 (unwrap_or o [])) there ∙ is.found;
  last = λ g above. sym (observed.each g) ∙ ap (λ (h : List File). lookup (λ n. n == g) h) is.parts ∙ lookup_above is.before last.file.0 g is.bytes below above;
  cut = refl;
} where
  below : AllByRecursion (λ (file : File). file.0 < last.file.0) is.before
  below = below_last is.before (last.file.0, is.bytes) (subst (λ (h : List File). IsStrictlyIncreasing (numbers h)) is.parts observed.rising)

  there : reads last.file.0 ≡ Some is.bytes
  there = sym (observed.each last.file.0) ∙ ap (λ (h : List File). lookup (λ n. n == last.file.0) h) is.parts ∙ lookup-last is.before last.file.0 is.bytes (none_is is.before (last.file.0, is.bytes) below)

-- at each moment at which it is settled, the files read as at entry, but for a torn tail
reads_by : (tail : Option LastFile) (s x : State) (f : ℕ) → (((cut_off tail s).reads f ≡ s.reads f) ⊎ IsTailCut s.reads f ((cut_off tail s).reads f)) → IsSettling tail s x →
    (x.reads f ≡ s.reads f) ⊎ IsTailCut s.reads f (x.reads f)
reads_by tail s x f behind (inl (inl same)) = inl (ap (λ (y : State). y.reads f) same)
reads_by tail s x f behind (inl (inr same)) = subst (λ (y : State). (y.reads f ≡ s.reads f) ⊎ IsTailCut s.reads f (y.reads f)) (sym same) behind
reads_by tail s x f behind (inr same) = subst (λ (y : State). (y.reads f ≡ s.reads f) ⊎ IsTailCut s.reads f (y.reads f)) (sym same) behind

read_settling : (s x : State) (held : List File) (tail : Option LastFile) → IsTailOf held tail → AreFiles s.reads held → IsSettling tail s x → ReadAsAtEntry s.reads x.reads
read_settling s x held None tail observed is f = reads_by None s x f (inl refl) is
read_settling s x held (Some last) tail observed is f =
    reads_by (Some last) s x f (subst (λ (o : Option (List ℕ)). (o ≡ s.reads f) ⊎ IsTailCut s.reads f o) (sym (settles (Some last) s f)) (by_test (nat_lt last.end last.len))) is
  where
    by_file : (b : Bool) → (f == last.file.0) ≡ b → (cond b (option_map (take last.end) (s.reads last.file.0)) (s.reads f) ≡ s.reads f) ⊎ IsTailCut s.reads f (cond b (option_map (take last.end) (s.reads last.file.0)) (s.reads f))
    by_file true same = inr (subst (λ (n : ℕ). IsTailCut s.reads n (option_map (take last.end) (s.reads last.file.0))) (sym (eqb-true _ _ same)) (tail_cut s.reads held last observed tail))
    by_file false other = inl refl

    by_test : (b : Bool) → (cond b (put_at s.reads last.file.0 (option_map (take last.end) (s.reads last.file.0)) f) (s.reads f) ≡ s.reads f)
        ⊎ IsTailCut s.reads f (cond b (put_at s.reads last.file.0 (option_map (take last.end) (s.reads last.file.0)) f) (s.reads f))
    by_test true = by_file (f == last.file.0) refl
    by_test false = inl refl

-- ---- what its files read as is one of the images

pending_is_image : (s : State) → NothingPending s → AreFileImages s.crash_states s.reads
pending_is_image s pending f = subst (λ (c : CrashState). IsFileImage c (s.reads f)) (sym (pending f)) (image_synced (s.reads f))

cut_is_image : (f len : ℕ) (s : State) → NothingPending s → AreFileImages (cut f len s).crash_states (cut f len s).reads
cut_is_image f len s pending = by_file (s.reads f) refl
  where
    shorter : (there : List ℕ) → Leaves (shortened len (synced_crash_state (Some there))) (take len there)
    shorter there = record {
      allowed = refl;
      front = take_all (length (take len there)) (take len there) (omega arith);
      within = let len_is = length-take len there in omega (arith, len_is);
    }

    by_test : (there : List ℕ) → s.reads f ≡ Some there → (b : Bool) → AreFileImages (cond b (put_file f (Some (take len there)) (shortened len) s) s).crash_states (cond b (put_file f (Some (take len there)) (shortened len) s) s).reads
    by_test there is true = image_put s.crash_states s.reads f (Some (take len there)) (shortened len) (pending_is_image s pending)
        (subst (λ (c : CrashState). IsFileImage (shortened len c) (Some (take len there))) (sym (pending f ∙ ap synced_crash_state is)) (shorter there))
    by_test there is false = pending_is_image s pending

    by_file : (file : Option (List ℕ)) → s.reads f ≡ file → AreFileImages (cut_by file f len s).crash_states (cut_by file f len s).reads
    by_file None is = pending_is_image s pending
    by_file (Some there) is = by_test there is (nat_lt len (length there))

-- where nothing was pending before, or nothing is now
read_is_image : (tail : Option LastFile) (s x : State) → NothingPending s ⊎ NothingPending x → IsSettling tail s x → AreFileImages x.crash_states x.reads
read_is_image tail s x (inr here) is = pending_is_image x here
read_is_image tail s x (inl before) is = by_settling tail is
  where
    Is : State → Type 0
    Is y = AreFileImages y.crash_states y.reads

    by_test : (last : LastFile) (b : Bool) → Is (cond b (cut last.file.0 last.end s) s)
    by_test last true = cut_is_image last.file.0 last.end s before
    by_test last false = pending_is_image s before

    by_tail : (tail : Option LastFile) → Is (cut_off tail s)
    by_tail None = pending_is_image s before
    by_tail (Some last) = by_test last (nat_lt last.end last.len)

    by_settling : (tail : Option LastFile) → IsSettling tail s x → Is x
    by_settling tail (inl (inl same)) = subst (λ (y : State). Is y) (sym same) (pending_is_image s before)
    by_settling tail (inl (inr same)) = subst (λ (y : State). Is y) (sym same) (by_tail tail)
    by_settling tail (inr same) = subst (λ (y : State). Is y) (sym same) (λ f. image_synced ((cut_off tail s).reads f))

-- ---- what its images mean

-- an image that means a store changed by no transactions means the store
unchanged : (store : Store) (least : ℕ) (image : Files) → IsImageRecovered store least [] image → MeanStore image store
unchanged store least image is = (
  is.recovered.meaning,
  record { held = is.held; are = is.are; reads = is.recovered.reads },
  is.recovered.store ∙ ap (store_after store) (take_all is.recovered.count [] (omega arith)),
)

-- images of a disk that keeps a whole log, prefixes of which it read so far, mean the store that it recovers
images_mean : (first : ℕ) (store : Store) (base : ℕ) (log : Log) (since : ℕ) (history : History) (k : ℕ) → RecoversLog first store base [] log → KeepsLog log [] (length (entries_of log)) (history.state_at k).crash_states →
    AreFileImages (history.state_at k).crash_states (history.state_at k).reads → ((j : ℕ) → since ≤ j → j ≤ k → HoldPrefixes log (history.state_at j).reads) → ImagesMean since history k store
images_mean first store base log since history k recovers keeps read past = λ image left.
    let all : ℕ = length (entries_of log) in
    unchanged store (commits_in base all (placed log)) image
    (kept_images_recover first store base all [] log (history.state_at k) recovers (all_are_committed first store base [] log recovers).0 keeps read image left.is.files (past_is_held log since history k image past left))

-- files that were read mean their store while their log is settled
read_means : (s : State) (new : History) (since k : ℕ) (held : List File) (tail : Option LastFile) (meaning : Meaning) → AreLogFiles held tail → AreFiles s.reads held → reading_of held ≡ Ok meaning →
    NothingPending s ⊎ NothingPending (new.state_at k) → since ≤ k → ((j : ℕ) → since ≤ j → j ≤ k → IsSettling tail s (new.state_at j)) → ImagesMean since new k meaning.store
read_means s new since k held tail meaning files observed reads pending from settled =
    let ends = found_ends held tail files in
    let found : IsOpenedLog 0 held (log_start_of tail) meaning = found_logs_recover 0 held (log_start_of tail) ends.0 meaning (found_named held tail files) ends.1 reads in
    let here : IsSettling tail s (new.state_at k) = settled k from (omega arith) in
    images_mean (first_of_found 0 held) meaning.store (length (placed (found_log 0 held))) (found_log 0 held) since new k found.recovers (kept_settling s (new.state_at k) held tail files observed pending here)
    (read_is_image tail s (new.state_at k) pending here) (λ j lo hi. prefixes_settling s (new.state_at j) held tail files observed (settled j lo hi))

-- ---- moments

-- a log that was read is settled
pub entry_settled : (old new : History) (reads : Files) (held : List File) (tail : Option LastFile) → AreLogFiles held tail → AreFiles reads held → (now old).reads ≡ reads →
    Passes old new (IsSettling tail (now old)) → KeepsEntry old new
entry_settled old new reads held tail files observed same passes = record {
  since = passes_weaken old new (IsSettling tail (now old)) (λ (s : State). Unit {0}) (λ s p. tt) passes;
  reads = λ k lo hi. read_settling (now old) (new.state_at k) held tail files.last at_entry (settled k lo hi);
  images = λ pending other meaning are is k lo hi. at_moment other meaning are is k (inl pending) lo hi;
  at_end = λ pending other meaning are is. at_moment other meaning are is new.moment (inr pending) passes.later (omega arith);
} where
  at_entry : AreFiles (now old).reads held
  at_entry = subst (λ (f : Files). AreFiles f held) (sym same) observed

  by_order : (k : ℕ) → old.moment ≤ k → k ≤ new.moment → (k ≡ old.moment) ⊎ ((k < old.moment) ⊎ (old.moment < k)) → IsSettling tail (now old) (new.state_at k)
  by_order k lo hi (inl at) = inl (inl (ap (λ n. new.state_at n) at ∙ passes.keeps old.moment (omega arith)))
  by_order k lo hi (inr (inl before)) = absurd (omega (arith, lo, before))
  by_order k lo hi (inr (inr behind)) = passes.each k behind hi

  settled : (k : ℕ) → old.moment ≤ k → k ≤ new.moment → IsSettling tail (now old) (new.state_at k)
  settled k lo hi = by_order k lo hi (cases_order k old.moment)

  at_moment : (other : List File) (meaning : Meaning) → AreFiles (now old).reads other → reading_of other ≡ Ok meaning → (k : ℕ) → NothingPending (now old) ⊎ NothingPending (new.state_at k) →
      old.moment ≤ k → k ≤ new.moment → ImagesMean old.moment new k meaning.store
  at_moment other meaning are is k pending lo hi =
      read_means (now old) new old.moment k held tail meaning files at_entry (subst (λ (h : List File). reading_of h ≡ Ok meaning) (sym (are_one_list (now old).reads held other at_entry are)) is) pending lo
      (λ j from upto. settled j from (omega (arith, upto, hi)))

-- an image of a disk where nothing is pending is what the files read as
image_reads : (file image : Option (List ℕ)) → IsFileImage (synced_crash_state file) image → file ≡ image
image_reads None None is = refl
image_reads None (Some bytes) is = let allowed = is.allowed in cc
image_reads (Some there) None is = cc
image_reads (Some there) (Some bytes) is = ap (λ (x : List ℕ). Some x) (sym is.front ∙ take_all (length there) bytes is.within)

pub still_means : (since : ℕ) (history : History) (k : ℕ) (s : State) (held : List File) (meaning : Meaning) → history.state_at k ≡ s → NothingPending s → AreFiles s.reads held → reading_of held ≡ Ok meaning →
    ImagesMean since history k meaning.store
still_means since history k s held meaning same pending are reads = λ image left.
    let files : AreFileImages s.crash_states image = subst (λ (x : State). AreFileImages x.crash_states image) same left.is.files in (
      meaning,
      record {
        held = held;
        are = record { rising = are.rising; each = λ f. are.each f ∙ image_reads (s.reads f) (image f) (subst (λ (m : CrashState). IsFileImage m (image f)) (pending f) (files f)) };
        reads = reads;
      },
      refl,
    )

-- what reads so at entry reads so
read_entry : (entry reads : Files) → reads ≡ entry → ReadAsAtEntry entry reads
read_entry entry reads same f = inl (ap (λ (files : Files). files f) same)

-- what is read from a moment on is also read from a later one on, where nothing was done between them
images_since : (a b c : History) (k : ℕ) (store : Store) → ((j : ℕ) → a.moment ≤ j → j < b.moment → c.state_at j ≡ now b) → c.state_at b.moment ≡ now b → b.moment ≤ k → ImagesMean b.moment c k store → ImagesMean a.moment c k store
images_since a b c k store still here from means = λ image left. means image (record { is = left.is; chance = chance_more (ReadSince a.moment c k) (ReadSince b.moment c k) (c.state_at k).reads image later left.chance })
  where
    later : (f : ℕ) (read : List ℕ) → ReadSince a.moment c k f read → ReadSince b.moment c k f read
    later f read was = by_order (cases_lt was.0 b.moment)
      where
        by_order : (was.0 < b.moment) ⊎ (b.moment ≤ was.0) → ReadSince b.moment c k f read
        by_order (inl early) = (b.moment, omega arith, from, ap (λ (s : State). content s.reads f) (here ∙ sym (still was.0 was.1 early)) ∙ was.3)
        by_order (inr late) = (was.0, late, was.2, was.3)

-- time went on, and nothing was done before
pub entry_later : (a b c : History) → Passes a b (λ (s : State). s ≡ now a) → now b ≡ now a → KeepsEntry b c → KeepsEntry a c
entry_later a b c passes same later = record {
  since = passes_then a b c (λ (s : State). Unit {0}) (passes_weaken a b (λ (s : State). s ≡ now a) (λ (s : State). Unit {0}) (λ s p. tt) passes) later.since;
  reads = λ k lo hi. reads_at k lo hi (cases_lt k b.moment);
  images = λ pending held meaning are is k lo hi. by_order pending held meaning are is k lo hi (cases_lt k b.moment);
  at_end = λ pending held meaning are is. since c.moment meaning.store later.since.later (later.at_end pending held meaning (subst (λ (s : State). AreFiles s.reads held) (sym same) are) is);
} where
  by_moment : (k : ℕ) → a.moment ≤ k → k < b.moment → (k ≡ a.moment) ⊎ ((k < a.moment) ⊎ (a.moment < k)) → c.state_at k ≡ now a
  by_moment k lo hi (inl at) = later.since.keeps k (omega (arith, hi)) ∙ ap (λ n. b.state_at n) at ∙ passes.keeps a.moment (omega arith)
  by_moment k lo hi (inr (inl before)) = absurd (omega (arith, lo, before))
  by_moment k lo hi (inr (inr behind)) = later.since.keeps k (omega (arith, hi)) ∙ passes.each k behind (omega (arith, hi))

  still : (k : ℕ) → a.moment ≤ k → k < b.moment → c.state_at k ≡ now a
  still k lo hi = by_moment k lo hi (cases_order k a.moment)

  since : (k : ℕ) (store : Store) → b.moment ≤ k → ImagesMean b.moment c k store → ImagesMean a.moment c k store
  since k store from means = images_since a b c k store (λ j lo hi. still j lo hi ∙ sym same) (later.since.keeps b.moment (omega arith)) from means

  reads_at : (k : ℕ) → a.moment ≤ k → k ≤ c.moment → (k < b.moment) ⊎ (b.moment ≤ k) → ReadAsAtEntry (now a).reads (c.state_at k).reads
  reads_at k lo hi (inl early) = read_entry (now a).reads (c.state_at k).reads (ap (λ (s : State). s.reads) (still k lo early))
  reads_at k lo hi (inr late) = subst (λ (s : State). ReadAsAtEntry s.reads (c.state_at k).reads) same (later.reads k late hi)

  by_order : NothingPending (now a) → (held : List (ℕ × List ℕ)) (meaning : Meaning) → AreFiles (now a).reads held → reading_of held ≡ Ok meaning → (k : ℕ) → a.moment ≤ k → k ≤ c.moment →
      (k < b.moment) ⊎ (b.moment ≤ k) → ImagesMean a.moment c k meaning.store
  by_order pending held meaning are is k lo hi (inl early) = still_means a.moment c k (now a) held meaning (still k lo early) pending are is
  by_order pending held meaning are is k lo hi (inr late) =
      since k meaning.store late (later.images (subst NothingPending (sym same) pending) held meaning (subst (λ (s : State). AreFiles s.reads held) (sym same) are) is k late hi)

-- no time went by
pub entry_none : (h : History) → KeepsEntry h h
entry_none h = record {
  since = passes_none h (λ (s : State). Unit {0});
  reads = λ k lo hi. let at : k ≡ h.moment = omega (arith, lo, hi) in read_entry (now h).reads (h.state_at k).reads (ap (λ n. (h.state_at n).reads) at);
  images = λ pending held meaning are is k lo hi. let at : k ≡ h.moment = omega (arith, lo, hi) in still_means h.moment h k (now h) held meaning (ap (λ n. h.state_at n) at) pending are is;
  at_end = λ pending held meaning are is. still_means h.moment h h.moment (now h) held meaning refl pending are is;
}

-- time went on, and nothing was done
pub entry_still : (old new : History) → Passes old new (λ (s : State). s ≡ now old) → now new ≡ now old → KeepsEntry old new
entry_still old new passes same = entry_later old new new passes same (entry_none new)
