-- Opening an environment: the files that were read, and the log that is gone on from.
use Rattle.std.proofs.Common.{◌≡◌, ◌≢◌, ℕ, ◌+◌, ◌*◌, ◌/◌, ◌%◌, ◌<◌, ◌≤◌, ◌^◌, ◌==◌, ◌&&◌, nat_lt, cond, Bool, true, false, List, [], ◌∷◌, ◌++◌, Option, Some, None, IfSome, IfErr, Result, Ok, Err, option_map, refl, ap, sym, ◌∙◌, subst, ⊎_elim, arith, map, length, take, nat_cmp}
use Rattle.std.specs.List.{AllByRecursion}
use Rattle.std.specs.List.Sorted.{IsStrictlyIncreasing, IsStrictlySortedBy}
use Rattle.std.specs.Map.{lookup}
use Rattle.std.specs.declared.cmp.Ordering.TheVariants.{Less}
use Rattle.std.proofs.lemmas.Bool.{and_parts, cond-true, cond-false, eqb-true, eq-eqb, ne_eqb, cases_lt}
use Rattle.std.proofs.lemmas.Bool.Decides.{nat_tests}
use Rattle.std.proofs.lemmas.List.{take_all}
use Rattle.std.proofs.lemmas.Map.Keys.{IsStrictlyIncreasing-from_sorted, sorted_from_strictly_increasing}
use Rattle.je_bytes.specs.Reading.{AreBytes}
use Rattle.je_disk.specs.States.{Files, content, put_at}
use Rattle.log_entry.specs.declared.entry.Entry.{Entry}
use Rattle.log_entry.specs.Prefix.{last_from}
use Rattle.je_lsn.specs.Naming.{last_file}
use Rattle.je_lsn.specs.declared.file_no.TheConstants.{LAST_FILE}
use Rattle.log_file.specs.declared.valid_prefix.ValidPrefix.{ValidPrefix}
use Rattle.log_file.specs.declared.file_scan.FileScan.{FileScan}
use Rattle.log_file.specs.declared.file_scan.FileScan.TheVariants.{Prefix, VersionUnknown as OtherVersion, Damaged as NoHeader}
use Rattle.log_file.specs.Laws.{AreEncodedBack}
use Rattle.log_file.specs.Log.{Log, IsLog, AreFiles, entries_scanned, files_of_log, log_in}
use Rattle.log_file.specs.Scan.{scan_of, sizes_of}
use Rattle.log_file.proofs.FileScanLaws.{are_encoded_back}
use Rattle.log_buffer.specs.Flip.{header_size}
use Rattle.log_buffer.specs.Log.{EndsAt}
use Rattle.log_replay.specs.declared.corruption.Corruption.{Corruption}
use Rattle.log_replay.specs.declared.corruption.Corruption.TheVariants.{Damaged}
use Rattle.log_replay.specs.declared.last_file.LastFile.{LastFile}
use Rattle.log_replay.specs.Reading.{corruption_at, corruption_behind, corruption_in, lsn_at}
use Rattle.log_replay.specs.UnderWay.{IsLastOf, IsTailOf}
use Rattle.log_replay.specs.Wrong.{or_else}
use Rattle.log_meaning.specs.Meaning.{Meaning}
use Rattle.log_meaning.specs.Reading.{reading_of, unless}
use Rattle.crash_recovery.specs.Opening.{found_log}
use Rattle.crash_recovery.specs.Reading.{IsNamedLog}
use Rattle.engine.specs.declared.open_err.OpenErr.{OpenErr}
use Rattle.engine.specs.declared.open_err.OpenErr.TheVariants.{Disk, Unreadable, WrongIndex, Memory, IdsEnded}
use Rattle.engine.specs.Files.{end_file_in}
use Rattle.engine.specs.Opening.{HasTornTailCut, StartsLog, StopsBy, log_start_of}
use Rattle.engine.proofs.Counts.{rose_earlier}
use Rattle.engine.proofs.FileLaws.{AreFull, IsFile, IsFull, NoneIs, front_reads, headless, is_log, log_is, lookup-last, reads_as}

-- a file that was read: its number and its bytes
abbrev pub File : Type 0
File = ℕ × List ℕ

abbrev pub numbers : List File → List ℕ
numbers held = map (λ (file : File). file.0) held

-- ---- no corruption

pub or_parts : {A : Type 0} (a b : Option A) → or_else a b ≡ None → (a ≡ None) × (b ≡ None)
or_parts None b h = (refl, h)
or_parts (Some x) b h = cc

-- files that mean something have no corruption
pub no_corruption : (held : List File) (m : Meaning) → reading_of held ≡ Ok m → corruption_in held ≡ None
no_corruption held m h = by_corruption (corruption_in held) _ h
  where
    by_corruption : (o : Option Corruption) (r : Result Meaning Corruption) → unless o r ≡ Ok m → o ≡ None
    by_corruption None r is = refl
    by_corruption (Some corruption) r is = cc

-- a file without a corruption that is not the last is full
full_by : (file : File) (found : FileScan) (last : Bool) → scan_of file.0 file.1 ≡ found → last ≡ false → corruption_at last file.0 (length file.1) found ≡ None → IsFull file
full_by file (OtherVersion version) last is e h = cc
full_by file NoHeader last is e h = cc
full_by file (Prefix run) true is e h = cc
full_by file (Prefix run) false is e h =
    let behind = behind_small (nat_lt last_file file.0) h in
    let whole : (nat_lt 0 run.end && (run.end == length file.1)) ≡ true = tested (nat_lt 0 run.end && (run.end == length file.1)) behind in
    let parts = and_parts (nat_lt 0 run.end) (run.end == length file.1) whole in
    let some = parts.0 in
    record { run = run; found = is; has_header = grind (arith, nat_tests); to_end = eqb-true run.end (length file.1) parts.1 }
  where
    behind_small : (b : Bool) → cond b (Some (Damaged (lsn_at file.0 0))) (corruption_behind false file.0 (length file.1) run.end) ≡ None → corruption_behind false file.0 (length file.1) run.end ≡ None
    behind_small true h = cc
    behind_small false h = h

    tested : (b : Bool) → cond b None (Some (Damaged (lsn_at file.0 run.end))) ≡ None → b ≡ true
    tested true h = refl
    tested false h = cc

-- all files but the last are full
pub full_front : (front : List File) (last : File) → corruption_in (front ++ last ∷ []) ≡ None → AreFull front
full_front [] last h = tt
full_front (file ∷ front) last h =
    let parts = or_parts (corruption_at (length (front ++ last ∷ []) == 0) file.0 (length file.1) (scan_of file.0 file.1)) (corruption_in (front ++ last ∷ [])) h in
    (full_by file (scan_of file.0 file.1) (length (front ++ last ∷ []) == 0) refl (some_left front) parts.0, full_front front last parts.1)
  where
    some_left : (front : List File) → (length (front ++ last ∷ []) == 0) ≡ false
    some_left [] = refl
    some_left (x ∷ front) = grind (arith, nat_tests)

-- ---- numbers that rise

last_above : (n : ℕ) (front : List File) (last : File) → AllByRecursion (λ m. nat_cmp n m ≡ Less) (numbers (front ++ last ∷ [])) → n < last.0
last_above n [] last all = grind (arith, nat_tests, all.0)
last_above n (file ∷ front) last all = last_above n front last all.1

below_from : (front : List File) (last : File) → IsStrictlySortedBy nat_cmp (numbers (front ++ last ∷ [])) → AllByRecursion (λ (file : File). file.0 < last.0) front
unfolding IsStrictlySortedBy
below_from [] last sorted = tt
below_from (file ∷ front) last sorted = (last_above file.0 front last sorted.0, below_from front last sorted.1)

pub below_last : (front : List File) (last : File) → IsStrictlyIncreasing (numbers (front ++ last ∷ [])) → AllByRecursion (λ (file : File). file.0 < last.0) front
below_last front last rising = below_from front last (sorted_from_strictly_increasing _ rising)

pub none_is : (front : List File) (last : File) → AllByRecursion (λ (file : File). file.0 < last.0) front → NoneIs last.0 front
none_is [] last all = tt
none_is (file ∷ front) last all = ((λ e. let below : file.0 < last.0 = all.0 in absurd (omega (arith, e, below))), none_is front last all.1)

pub are_files : (front : List File) (last : File) → AllByRecursion (λ (file : File). AreBytes file.1) (front ++ last ∷ []) → AllByRecursion (λ (file : File). file.0 < last.0) front → last.0 < 2 ^ 32 →
    AllByRecursion IsFile (front ++ last ∷ [])
are_files [] last bytes below small = (record { bytes = bytes.0; number = small }, tt)
are_files (file ∷ front) last bytes below small =
    (record { bytes = bytes.0; number = (let first = below.0 in omega (arith, first, small)) }, are_files front last bytes.1 below.1 small)

pub all_last : {A : Type 0} (P : A → Type 0) (xs : List A) (x : A) → AllByRecursion P (xs ++ x ∷ []) → P x
all_last P [] x all = all.0
all_last P (y ∷ xs) x all = all_last P xs x all.1

-- ---- files that were read

-- files that were read as a log: bytes, under rising numbers and with no corruption; the last of them is this one
pub record AreLogFiles (held : List File) (tail : Option LastFile) : Type 0 where
  pub bytes : AllByRecursion (λ (file : File). AreBytes file.1) held
  pub rising : IsStrictlyIncreasing (numbers held)
  pub none : corruption_in held ≡ None
  pub last : IsTailOf held tail

small_by : (last : Bool) (f len : ℕ) (found : FileScan) → corruption_at last f len found ≡ None → f ≤ LAST_FILE
small_by last f len (OtherVersion version) none = cc
small_by last f len NoHeader none = cc
small_by last f len (Prefix run) none = by_test (nat_lt last_file f) refl none
  where
    by_test : (b : Bool) → nat_lt last_file f ≡ b → cond b (Some (Damaged (lsn_at f 0))) (corruption_behind last f len run.end) ≡ None → f ≤ LAST_FILE
    by_test true test h = cc
    by_test false test h = grind (arith, nat_tests)

-- each has a log file's number
all_small : (held : List File) → corruption_in held ≡ None → AllByRecursion (λ (file : File). file.0 ≤ LAST_FILE) held
all_small [] none = tt
all_small (file ∷ held) none =
    let parts = or_parts (corruption_at (length held == 0) file.0 (length file.1) (scan_of file.0 file.1)) (corruption_in held) none in
    (small_by (length held == 0) file.0 (length file.1) (scan_of file.0 file.1) parts.0, all_small held parts.1)

small_in_log : (held : List File) → AllByRecursion (λ (file : File). file.0 ≤ LAST_FILE) held → AllByRecursion (λ (file : ℕ × List Entry). file.0 ≤ last_file) (log_in held)
small_in_log [] all = tt
small_in_log (file ∷ held) all = (all.0, small_in_log held all.1)

pub small_tail : (held : List File) (tail : Option LastFile) → AreLogFiles held tail → IfSome tail (λ last. last.file.0 ≤ LAST_FILE)
small_tail held None files = tt
small_tail held (Some last) files =
    all_last (λ (file : File). file.0 ≤ LAST_FILE) files.last.before (last.file.0, files.last.bytes)
    (subst (λ (h : List File). AllByRecursion (λ (file : File). file.0 ≤ LAST_FILE) h) files.last.parts (all_small held files.none))

-- ---- the log that is gone on from

-- where there is a last file, it is the log in the files
pub found_last : (held : List File) (last : LastFile) → IsLastOf held last → found_log 0 held ≡ log_in held
found_last [] last is = by_parts is.before is.parts
  where
    by_parts : (before : List File) → [] ≡ before ++ (last.file.0, is.bytes) ∷ [] → found_log 0 [] ≡ log_in []
    by_parts [] h = cc
    by_parts (file ∷ before) h = cc
found_last (file ∷ held) last is = refl

-- where there is none, it is begun
pub found_none : (held : List File) → held ≡ [] → found_log 0 held ≡ (0, []) ∷ []
found_none held empty = ap (λ (h : List File). found_log 0 h) empty

-- the settled last file
pub settled_last : (before after : Files) (last : LastFile) (bytes : List ℕ) → HasTornTailCut before after (Some last) → before last.file.0 ≡ Some bytes → last.len ≡ length bytes → last.end ≤ length bytes →
    after last.file.0 ≡ Some (take last.end bytes)
settled_last before after last bytes settled there len within = by_case (nat_lt last.end last.len) refl
  where
    at : after last.file.0 ≡ cond (nat_lt last.end last.len) (put_at before last.file.0 (option_map (take last.end) (before last.file.0)) last.file.0) (before last.file.0)
    at = settled last.file.0

    by_case : (b : Bool) → nat_lt last.end last.len ≡ b → after last.file.0 ≡ Some (take last.end bytes)
    by_case true e =
        at ∙ cond-true (nat_lt last.end last.len) _ _ e
        ∙ cond-true (last.file.0 == last.file.0) (option_map (take last.end) (before last.file.0)) (before last.file.0) (eq-eqb last.file.0 last.file.0 refl)
        ∙ ap (option_map (take last.end)) there
    by_case false e =
        let long : last.len ≤ last.end = grind (arith, nat_tests) in
        at ∙ cond-false (nat_lt last.end last.len) _ _ e ∙ there ∙ ap (λ (x : List ℕ). Some x) (sym (take_all last.end bytes (omega (arith, long, len))))

pub settled_other : (before after : Files) (last : LastFile) (g : ℕ) → HasTornTailCut before after (Some last) → g ≢ last.file.0 → after g ≡ before g
settled_other before after last g settled other = by_case (nat_lt last.end last.len) refl
  where
    at : after g ≡ cond (nat_lt last.end last.len) (put_at before last.file.0 (option_map (take last.end) (before last.file.0)) g) (before g)
    at = settled g

    by_case : (b : Bool) → nat_lt last.end last.len ≡ b → after g ≡ before g
    by_case true e =
        at ∙ cond-true (nat_lt last.end last.len) _ _ e
        ∙ cond-false (g == last.file.0) (option_map (take last.end) (before last.file.0)) (before g) (ne_eqb g last.file.0 other)
    by_case false e = at ∙ cond-false (nat_lt last.end last.len) _ _ e

-- where the log of files ends, of which the last one is this
ends_at : (front : List File) (bytes : List ℕ) (last : LastFile) (run : ValidPrefix) → run ≡ record { entries = run.entries; last = last.last; end = last.end } → AreBytes bytes →
    scan_of last.file.0 bytes ≡ Prefix run → EndsAt (log_in (front ++ (last.file.0, bytes) ∷ [])) last.file.0 (log_start_of (Some last)).offset last.last
ends_at front bytes last run is are found = record {
  before = log_in front;
  entries = run.entries;
  log_is = log_is front last.file.0 bytes run found;
  offset_is = by_end (last.end == 0) refl;
  last_is = by_last (last.end == 0) refl;
} where
  end_is : run.end ≡ last.end
  end_is = ap (λ (r : ValidPrefix). r.end) is

  offset : run.last ≡ last.last
  offset = ap (λ (r : ValidPrefix). r.last) is

  by_end : (b : Bool) → (last.end == 0) ≡ b → cond (last.end == 0) header_size last.end ≡ header_size + sizes_of run.entries
  by_end true e =
      let none = headless last.file.0 bytes run found (end_is ∙ eqb-true last.end 0 e) in
      let sizes : sizes_of run.entries ≡ 0 = ap sizes_of none.0 in
      cond-true (last.end == 0) header_size last.end e ∙ (let r : header_size ≡ header_size + sizes_of run.entries = omega (arith, sizes) in r)
  by_end false e =
      let some : 0 < run.end = (let is_end = end_is in grind (arith, nat_tests)) in
      let encoded = are_encoded_back last.file.0 bytes run are found some in
      cond-false (last.end == 0) header_size last.end e ∙ sym end_is ∙ ap (λ (r : ValidPrefix). r.end) encoded.prefix_is

  by_last : (b : Bool) → (last.end == 0) ≡ b → last.last ≡ last_from 0 header_size run.entries
  by_last true e =
      let none = headless last.file.0 bytes run found (end_is ∙ eqb-true last.end 0 e) in
      sym offset ∙ none.1 ∙ ap (λ (es : List Entry). last_from 0 header_size es) (sym none.0)
  by_last false e =
      let some : 0 < run.end = (let is_end = end_is in grind (arith, nat_tests)) in
      let encoded = are_encoded_back last.file.0 bytes run are found some in
      sym offset ∙ ap (λ (r : ValidPrefix). r.last) encoded.prefix_is

-- the log that is gone on from, where there is a last file
starts_parts : (observable : Bool) (reads after : Files) (front : List File) (bytes : List ℕ) (last : LastFile) (run : ValidPrefix) → run ≡ record { entries = run.entries; last = last.last; end = last.end } →
    AllByRecursion (λ (file : File). AreBytes file.1) (front ++ (last.file.0, bytes) ∷ []) → IsStrictlyIncreasing (numbers (front ++ (last.file.0, bytes) ∷ [])) → last.file.0 < 2 ^ 32 →
    corruption_in (front ++ (last.file.0, bytes) ∷ []) ≡ None → scan_of last.file.0 bytes ≡ Prefix run → last.len ≡ length bytes →
    (observable ≡ true → AreFiles reads (front ++ (last.file.0, bytes) ∷ [])) → (observable ≡ true → HasTornTailCut reads after (Some last)) →
    StartsLog observable after (Some last) (log_in (front ++ (last.file.0, bytes) ∷ []))
starts_parts observable reads after front bytes last run run_is all rising small none found len observed settled =
    let f : ℕ = last.file.0 in
    let back : AreEncodedBack = are_encoded_back in
    let below = below_last front (f, bytes) rising in
    let is = are_files front (f, bytes) all below small in
    let full = full_front front (f, bytes) none in
    let apart : NoneIs f front = none_is front (f, bytes) below in
    let are : AreBytes bytes = all_last (λ (file : File). AreBytes file.1) front (f, bytes) all in
    let log : log_in (front ++ (f, bytes) ∷ []) ≡ log_in front ++ (f, run.entries) ∷ [] = log_is front f bytes run found in
    let end_is : run.end ≡ last.end = ap (λ (r : ValidPrefix). r.end) run_is in
    let there : observable ≡ true → reads f ≡ Some bytes = λ t. sym ((observed t).each f) ∙ lookup-last front f bytes apart in (
      subst (λ (l : Log). IsLog l) (sym log) (is_log front f bytes run back is full found rising),
      ends_at front bytes last run run_is are found,
      λ has t g.
          let some : 0 < run.end = subst (λ n. 0 < n) (sym end_is) has in
          let encoded = back f bytes run are found some in
          let here : after f ≡ Some (take run.end bytes) =
          settled_last reads after last bytes (settled t) (there t) len (subst (λ n. n ≤ length bytes) end_is encoded.within) ∙ ap (λ n. Some (take n bytes)) (sym end_is) in
          reads_as front f bytes run reads after back is full found apart (observed t).each some here (λ h other. settled_other reads after last h (settled t) other) g
          ∙ ap (λ (l : Log). files_of_log l g) (sym log),
      λ no.
          let nothing = headless f bytes run found (end_is ∙ no) in (
            log_in front,
            log ∙ ap (λ (es : List Entry). log_in front ++ (f, es) ∷ []) nothing.0,
            λ t.
                let here : after f ≡ Some (take last.end bytes) = settled_last reads after last bytes (settled t) (there t) len (omega (arith, no)) in (
                  ap (λ (o : Option (List ℕ)). content (λ _. o) f) here ∙ ap (λ n. take n bytes) no,
                  λ g other. settled_other reads after last g (settled t) other ∙ front_reads front f bytes reads back is full (observed t).each g other,
                ),
          ),
    )

starts_last : (observable : Bool) (reads after : Files) (held : List File) (last : LastFile) → AllByRecursion (λ (file : File). AreBytes file.1) held → IsStrictlyIncreasing (numbers held) → last.file.0 < 2 ^ 32 →
    corruption_in held ≡ None → IsLastOf held last → (observable ≡ true → AreFiles reads held) → (observable ≡ true → HasTornTailCut reads after (Some last)) → StartsLog observable after (Some last) (log_in held)
starts_last observable reads after held last all rising small none is observed settled =
    let whole : held ≡ is.before ++ (last.file.0, is.bytes) ∷ [] = is.parts in
    subst (λ (h : List File). StartsLog observable after (Some last) (log_in h)) (sym whole)
    (starts_parts observable reads after is.before is.bytes last (record { entries = entries_scanned (scan_of last.file.0 is.bytes); last = last.last; end = last.end }) refl
    (subst (λ (h : List File). AllByRecursion (λ (file : File). AreBytes file.1) h) whole all) (subst (λ (h : List File). IsStrictlyIncreasing (numbers h)) whole rising) small
    (subst (λ (h : List File). corruption_in h ≡ None) whole none) is.found is.len (λ t. subst (λ (h : List File). AreFiles reads h) whole (observed t)) settled)

-- a disk without files
starts_none : (observable : Bool) (reads after : Files) (held : List File) → held ≡ [] → (observable ≡ true → AreFiles reads held) → (observable ≡ true → HasTornTailCut reads after None) →
    StartsLog observable after None (found_log 0 held)
starts_none observable reads after held empty observed settled = (
  found_none held empty,
  λ t.
      let none : (g : ℕ) → after g ≡ None = λ g. settled t g ∙ sym ((observed t).each g) ∙ ap (λ (h : List File). lookup (λ n. n == g) h) empty in
      (ap (λ (o : Option (List ℕ)). content (λ _. o) 0) (none 0), λ g other. none g),
)

pub starts_log : (observable : Bool) (reads after : Files) (held : List File) (tail : Option LastFile) → AreLogFiles held tail → (observable ≡ true → AreFiles reads held) →
    (observable ≡ true → HasTornTailCut reads after tail) → StartsLog observable after tail (found_log 0 held)
starts_log observable reads after held None files observed settled = starts_none observable reads after held files.last observed settled
starts_log observable reads after held (Some last) files observed settled =
    let low : last.file.0 ≤ LAST_FILE = small_tail held (Some last) files in
    subst (λ (l : Log). StartsLog observable after (Some last) l) (sym (found_last held last files.last))
    (starts_last observable reads after held last files.bytes files.rising (omega (arith, low)) files.none files.last observed settled)

-- the log of a disk without files
pub first_log : IsLog ((0, []) ∷ [])
unfolding IsStrictlySortedBy
first_log = record {
  rising = IsStrictlyIncreasing-from_sorted (0 ∷ []) (tt, tt);
  each = ((omega arith, record { entries = tt; follow = tt; ends = omega arith }), tt);
}

-- where the log ends that is gone on from
pub found_ends : (held : List File) (tail : Option LastFile) → AreLogFiles held tail → (last : ℕ) × EndsAt (found_log 0 held) (log_start_of tail).file (log_start_of tail).offset last
found_ends held None files =
    (0, subst (λ (l : Log). EndsAt l 0 header_size 0) (sym (found_none held files.last)) (record { before = []; entries = []; log_is = refl; offset_is = refl; last_is = refl }))
found_ends held (Some last) files = (
  last.last,
  subst (λ (l : Log). EndsAt l last.file.0 (log_start_of (Some last)).offset last.last) (sym (found_last held last files.last))
      (subst (λ (h : List File). EndsAt (log_in h) last.file.0 (log_start_of (Some last)).offset last.last) (sym files.last.parts)
      (ends_at files.last.before files.last.bytes last (record { entries = entries_scanned (scan_of last.file.0 files.last.bytes); last = last.last; end = last.end }) refl
      (all_last (λ (file : File). AreBytes file.1) files.last.before (last.file.0, files.last.bytes) (subst (λ (h : List File). AllByRecursion (λ (file : File). AreBytes file.1) h) files.last.parts files.bytes))
      files.last.found)),
)

-- each of its numbers names a file
pub found_named : (held : List File) (tail : Option LastFile) → AreLogFiles held tail → IsNamedLog (found_log 0 held)
found_named held None files = subst IsNamedLog (sym (found_none held files.last)) (record { is_log = first_log; small = (omega arith, tt) })
found_named held (Some last) files =
    let starts = starts_log false (λ g. None) (λ g. None) held (Some last) files (λ t. cc) (λ t. cc) in
    record {
      is_log = starts.0;
      small = subst (λ (l : Log). AllByRecursion (λ (file : ℕ × List Entry). file.0 ≤ last_file) l) (sym (found_last held last files.last)) (small_in_log held (all_small held files.none));
    }

-- the file in which the log of files ends, of which the last one is this
end_file-last : (front : List File) (file : File) → end_file_in (front ++ file ∷ []) ≡ file.0
end_file-last [] file = refl
end_file-last (a ∷ []) file = refl
end_file-last (a ∷ b ∷ front) file = end_file-last (b ∷ front) file

-- the log goes on there
pub starts_in : (held : List File) (tail : Option LastFile) → IsTailOf held tail → (log_start_of tail).file ≡ end_file_in held
starts_in held None is = sym (ap end_file_in is)
starts_in held (Some last) is = sym (ap end_file_in is.parts ∙ end_file-last is.before (last.file.0, is.bytes))

pub some_end : (end : ℕ) → (end ≡ 0 → ⊥) → 0 < end
some_end end some = ⊎_elim (λ (e : 0 < end). e) (λ (e : end ≤ 0). absurd (some (omega arith))) (cases_lt 0 end)

-- a log ends at the LSN of its last file's end
pub resumes_at : (log : Log) (last : LastFile) (at : ℕ) → at ≡ last.file.0 * 2 ^ 32 + last.end → last.end < 2 ^ 32 → 0 < last.end →
    EndsAt log last.file.0 (log_start_of (Some last)).offset last.last → EndsAt log (at / 2 ^ 32) (at % 2 ^ 32) last.last
resumes_at log last at is small some ends =
    let file : at / 2 ^ 32 ≡ last.file.0 = omega (arith, is, small) in
    let offset : at % 2 ^ 32 ≡ last.end = omega (arith, is, small) in
    let no : (last.end == 0) ≡ false = grind (arith, nat_tests) in
    subst (λ (f : ℕ). EndsAt log f (at % 2 ^ 32) last.last) (sym file)
    (subst (λ (o : ℕ). EndsAt log last.file.0 o last.last) (cond-false (last.end == 0) header_size last.end no ∙ sym offset) ends)

-- ---- why opening stopped

pub if_err_both : {T E : Type 0} (r : Result T E) (P Q R : E → Type 0) → ((e : E) → P e → Q e → R e) → IfErr r P → IfErr r Q → IfErr r R
if_err_both (Ok x) P Q R both p q = tt
if_err_both (Err e) P Q R both p q = both e p q

pub stops_earlier : (observable : Bool) (files : Files) (before mid after : ℕ) (error : OpenErr) → before ≤ mid → mid ≤ after → StopsBy observable files mid after error → StopsBy observable files before after error
stops_earlier observable files before mid after Disk earlier later stops = rose_earlier before mid after earlier stops later
stops_earlier observable files before mid after (Unreadable corruption) earlier later stops = stops
stops_earlier observable files before mid after (WrongIndex name) earlier later stops = stops
stops_earlier observable files before mid after IdsEnded earlier later stops = stops
stops_earlier observable files before mid after Memory earlier later stops = tt
