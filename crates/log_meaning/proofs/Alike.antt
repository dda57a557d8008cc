-- Files of a log of puts, deletes and commits alone are read as a replay of the whole log reads them.
use Rattle.std.proofs.Common.{◌≡◌, ℕ, ◌+◌, ◌^◌, ◌<◌, ◌≤◌, ◌==◌, max, nat_lt, Bool, true, false, not, cond, List, [], ◌∷◌, ◌++◌, Option, None, Some, option_map, unwrap_or, Result, Ok, Err, map, length, drop, refl, sym, ap, ap₂, subst, ◌∙◌, arith}
use Rattle.std.specs.Prelude.{◌&&◌}
use Rattle.std.specs.Int.{w64, to_be_bytes}
use Rattle.std.proofs.lemmas.Bool.{true≢false, ltb-false, ltb-true, and_parts}
use Rattle.std.proofs.lemmas.List.{append-nil, map-append}
use Rattle.std.specs.List.{AllByRecursion}
use Rattle.je_bytes.specs.Reading.{number_in as bytes_number_in}
use Rattle.store_model.specs.declared.store.Store.{Store}
use Rattle.je_order.specs.declared.name.Name.{Name}
use Rattle.je_lsn.specs.Naming.{last_file}
use Rattle.log_entry.specs.declared.entry.Entry.{Entry}
use Rattle.log_entry.specs.declared.entry.Entry.TheVariants.{FileHeader, Put, Delete, Commit}
use Rattle.log_entry.specs.declared.decoder.Decoded.{Decoded}
use Rattle.log_entry.specs.declared.decoder.Decoded.TheVariants.{Whole, Torn as NotWhole}
use Rattle.log_entry.specs.Encoding.{size_of}
use Rattle.log_entry.specs.Reading.{decoded}
use Rattle.log_entry.specs.Prefix.{prefix_on}
use Rattle.log_entry.proofs.FieldLaws.{eight}
use Rattle.log_file.specs.declared.file_scan.FileScan.{FileScan}
use Rattle.log_file.specs.declared.file_scan.FileScan.TheVariants.{Prefix, VersionUnknown as OtherVersion, Damaged as NoHeader}
use Rattle.log_file.specs.Scan.{may_follow, front, entries_behind, prefix_with, scan_first, scan_by, scan_of}
use Rattle.log_file.specs.Log.{Log, entries_of, entries_scanned, log_in}
use Rattle.log_replay.specs.declared.corruption.Corruption.{Corruption}
use Rattle.log_replay.specs.declared.corruption.Corruption.TheVariants.{Damaged, Missing, Tree}
use Rattle.log_replay.specs.Rows.{Rows, RowChange, no_rows, data_at, store_of}
use Rattle.log_replay.specs.Replay.{nothing_replayed, replayed, changes_of, txn_in, db_in, greatest}
use Rattle.log_replay.specs.Wrong.{or_else, wrong_record}
use Rattle.log_replay.specs.Meaning.{Meaning as ReplayMeaning, meaning_of as replay_meaning_of}
use Rattle.log_replay.specs.Reading.{lsn_at, corruption_at, corruption_behind, corruption_in, gap_in, marked_entry, marked, marked_log, marked_lsn, validated_by as replay_judged_by, validated as replay_judged, reading_by as replay_reading_by}
use Rattle.log_replay.proofs.ListLaws.{all_of_map}
use Rattle.je_order.proofs.Lists.{all_append}
use Rattle.log_trees.specs.Placed.{Placed, placed_from, placed}
use Rattle.log_trees.specs.Changes.{Written, unwritten, LoggedChange, rows_after}
use Rattle.log_trees.specs.Walk.{and_then, read_roots}
use Rattle.log_file.proofs.PlacedLaws.{placed_are_entries}
use Rattle.log_meaning.specs.Redo.{from, redone, record_at}
use Rattle.log_meaning.specs.Checkpoint.{Checkpoint, no_checkpoint, checkpoint_in, last_end}
use Rattle.log_meaning.specs.Meaning.{Meaning, rows_of, db_number, most, meaning_of, lsn_there}
use Rattle.log_meaning.specs.Reading.{missing, redo_corruption, unless, validated_by, validated, meaning_in}
use Rattle.log_meaning.specs.Plain.{is_plain, row_change, ReplayedAlike, without_nodes, ReadAlike}
use Rattle.log_meaning.proofs.Listing.{listed_by_name}
use Rattle.log_meaning.proofs.Lasts.{last-holds}
use Rattle.log_meaning.proofs.Replays.{Mark, mark_entry, mark_change, row_of, alike, all_from_0, last-marked, done_below}

-- ---- entries with their LSNs

plain_placed : (log : Log) → AllByRecursion (λ e. is_plain e ≡ true) (entries_of log) → AllByRecursion (λ (p : Placed). is_plain p.1 ≡ true) (placed log)
plain_placed log plain = all_of_map (λ (p : Placed). p.1) (λ e. is_plain e ≡ true) (placed log) (subst (AllByRecursion (λ e. is_plain e ≡ true)) (sym (placed_are_entries log)) plain)

-- the data as it stands
abbrev as_it_is : Mark
as_it_is lsn value = value

marked_as_it_is : (lsn : ℕ) (entry : Entry) → mark_entry as_it_is lsn entry ≡ entry
marked_as_it_is lsn (Put txn db name value) = refl
marked_as_it_is lsn entry = refl

all_as_it_is : (es : List Placed) → map (λ (p : Placed). mark_entry as_it_is p.0 p.1) es ≡ map (λ (p : Placed). p.1) es
all_as_it_is [] = refl
all_as_it_is (p ∷ es) = ap₂ (λ (e : Entry) (l : List Entry). e ∷ l) (marked_as_it_is p.0 p.1) (all_as_it_is es)

option_as_it_is : (o : Option (List ℕ)) → option_map (λ (v : List ℕ). v) o ≡ o
option_as_it_is None = refl
option_as_it_is (Some v) = refl

changes_as_they_are : (cs : List LoggedChange) → map (mark_change as_it_is) cs ≡ cs
changes_as_they_are [] = refl
changes_as_they_are (c ∷ cs) =
    let make : Option (List ℕ) → LoggedChange = λ v. record { db = c.db; name = c.name; written = record { at = c.written.at; value = v } } in
    ap₂ (λ (e : LoggedChange) (l : List LoggedChange). e ∷ l) (ap make (option_as_it_is c.written.value)) (changes_as_they_are cs)

rows_as_they_are : (t : ℕ) (cs : List LoggedChange) → map (row_of as_it_is t) cs ≡ map (row_change t) cs
rows_as_they_are t [] = refl
rows_as_they_are t (c ∷ cs) =
    let make : Option (List ℕ) → RowChange = λ v. record { txn = t; db = c.db; name = c.name; value = v } in
    ap₂ (λ (e : RowChange) (l : List RowChange). e ∷ l) (ap make (option_as_it_is c.written.value)) (rows_as_they_are t cs)

pub replayed_alike : ReplayedAlike
replayed_alike log plain =
    let entries : map (λ (p : Placed). mark_entry as_it_is p.0 p.1) (placed log) ≡ entries_of log = all_as_it_is (placed log) ∙ placed_are_entries log in
    let is = alike as_it_is (placed log) (plain_placed log plain) in (
      ap (λ (l : List Entry). (replayed l nothing_replayed).rows) (sym entries) ∙ is.rows ∙ ap (λ (l : List LoggedChange). rows_after l no_rows) (changes_as_they_are (redone 0 (placed log)).done),
      λ t. ap (λ (l : List Entry). changes_of t (replayed l nothing_replayed).pending) (sym entries) ∙ is.pending t ∙ rows_as_they_are t ((redone 0 (placed log)).pending t),
    )

-- ---- the LSN of a record

abbrev with_lsn : Mark
with_lsn lsn value = to_be_bytes w64 lsn

marked_is : (lsn : ℕ) (entry : Entry) → mark_entry with_lsn lsn entry ≡ marked_entry lsn entry
marked_is lsn (Put txn db name value) = refl
marked_is lsn entry = refl

marked_from : (f at : ℕ) (entries : List Entry) → map (λ (p : Placed). mark_entry with_lsn p.0 p.1) (placed_from f at entries) ≡ marked f at entries
marked_from f at [] = refl
marked_from f at (entry ∷ entries) = ap₂ (λ (e : Entry) (l : List Entry). e ∷ l) (marked_is (lsn_at f at) entry) (marked_from f (at + size_of entry) entries)

marked_all : (log : Log) → map (λ (p : Placed). mark_entry with_lsn p.0 p.1) (placed log) ≡ marked_log log
marked_all [] = refl
marked_all (file ∷ log) =
    map-append (λ (p : Placed). mark_entry with_lsn p.0 p.1) (placed_from file.0 26 file.1) (placed log)
    ∙ ap₂ (λ (a b : List Entry). a ++ b) (marked_from file.0 26 file.1) (marked_all log)

lsn_read : (w : Written) → w.at < 2 ^ 64 → marked_lsn (option_map (with_lsn w.at) w.value) ≡ lsn_there w
lsn_read w lt = by_value w.value
  where
    number : bytes_number_in w64 (to_be_bytes w64 w.at) ≡ Some (w.at, [])
    number = ap (bytes_number_in w64) (sym (append-nil (to_be_bytes w64 w.at))) ∙ eight.again w.at [] lt

    by_value : (v : Option (List ℕ)) → marked_lsn (option_map (with_lsn w.at) v) ≡ unwrap_or (option_map (λ (x : List ℕ). w.at) v) 0
    by_value None = refl
    by_value (Some v) = ap (λ (o : Option (ℕ × List ℕ)). unwrap_or (option_map (λ (n : ℕ × List ℕ). n.0) o) 0) number

lsn_is : (log : Log) (d : ℕ) (x : Name) → AllByRecursion (λ e. is_plain e ≡ true) (entries_of log) → AllByRecursion (λ (p : Placed). p.0 < 2 ^ 64) (placed log) →
    marked_lsn (data_at x ((replayed (marked_log log) nothing_replayed).rows d)) ≡ lsn_there (record_at (redone 0 (placed log)) d x)
lsn_is log d x plain low =
    let es : List Placed = placed log in
    let is = alike with_lsn es (plain_placed log plain) in
    let done : List LoggedChange = (redone 0 es).done in
    ap (λ (l : List Entry). marked_lsn (data_at x ((replayed l nothing_replayed).rows d))) (sym (marked_all log))
    ∙ ap (λ (rows : Rows). marked_lsn (data_at x (rows d))) is.rows
    ∙ ap marked_lsn (listed_by_name (map (mark_change with_lsn) done) d x)
    ∙ ap (λ (w : Written). marked_lsn w.value) (last-marked with_lsn d x done unwritten)
    ∙ lsn_read (record_at (redone 0 es) d x)
    (last-holds (λ (w : Written). w.at < 2 ^ 64) d x done unwritten (omega arith) (done_below (2 ^ 64) es (plain_placed log plain) low))

-- ---- LSNs fit in eight bytes

front_low : (f at : ℕ) (es : List Entry) → f ≤ last_file → AllByRecursion (λ (p : Placed). p.0 < 2 ^ 64) (placed_from f at (front at es))
front_low f at [] small = tt
front_low f at (e ∷ es) small = by_test (may_follow e && nat_lt (at + size_of e) (2 ^ 32)) refl (front_low f (at + size_of e) es small)
  where
    by_test : (b : Bool) → (may_follow e && nat_lt (at + size_of e) (2 ^ 32)) ≡ b → AllByRecursion (λ (p : Placed). p.0 < 2 ^ 64) (placed_from f (at + size_of e) (front (at + size_of e) es)) →
        AllByRecursion (λ (p : Placed). p.0 < 2 ^ 64) (placed_from f at (cond b (e ∷ front (at + size_of e) es) []))
    by_test true is rest =
        let ends : at + size_of e < 2 ^ 32 = ltb-true (at + size_of e) (2 ^ 32) (and_parts (may_follow e) (nat_lt (at + size_of e) (2 ^ 32)) is).1 in
        (omega (arith, ends, small), rest)
    by_test false is rest = tt

found_low : (f : ℕ) (bytes : List ℕ) → f ≤ last_file → AllByRecursion (λ (p : Placed). p.0 < 2 ^ 64) (placed_from f 26 (entries_scanned (scan_of f bytes)))
found_low f bytes small = by_decoded (decoded bytes)
  where
    behind_low : AllByRecursion (λ (p : Placed). p.0 < 2 ^ 64) (placed_from f 26 (entries_behind bytes))
    behind_low = front_low f 26 (prefix_on 0 26 (drop 26 bytes)).entries small

    by_tests : (a b c : Bool) (version : ℕ) → AllByRecursion (λ (p : Placed). p.0 < 2 ^ 64)
        (placed_from f 26 (entries_scanned (cond a NoHeader (cond b (OtherVersion version) (cond c (Prefix (prefix_with (entries_behind bytes))) NoHeader)))))
    by_tests true b c version = tt
    by_tests false true c version = tt
    by_tests false false true version = behind_low
    by_tests false false false version = tt

    by_first : (prev : ℕ) (entry : Entry) → AllByRecursion (λ (p : Placed). p.0 < 2 ^ 64) (placed_from f 26 (entries_scanned (scan_first f bytes prev entry)))
    by_first prev (FileHeader version file) = by_tests (not (prev == 0)) (not (version == 1)) (file == f) version
    by_first prev entry = tt

    by_decoded : (d : Decoded) → AllByRecursion (λ (p : Placed). p.0 < 2 ^ 64) (placed_from f 26 (entries_scanned (scan_by f bytes d)))
    by_decoded (NotWhole torn) = tt
    by_decoded (Whole entry prev len) = by_first prev entry

neither : {A : Type 0} (a b : Option A) → or_else a b ≡ None → (a ≡ None) × (b ≡ None)
neither None b h = (refl, h)
neither (Some x) b h = absurd cc

small_file : (last : Bool) (f len : ℕ) (found : FileScan) → corruption_at last f len found ≡ None → f ≤ last_file
small_file last f len (OtherVersion version) none = absurd cc
small_file last f len NoHeader none = absurd cc
small_file last f len (Prefix prefix) none = by_test (nat_lt last_file f) refl none
  where
    by_test : (b : Bool) → nat_lt last_file f ≡ b → cond b (Some (Damaged (lsn_at f 0))) (corruption_behind last f len prefix.end) ≡ None → f ≤ last_file
    by_test true is h = absurd cc
    by_test false is h = ltb-false last_file f is

files_low : (held : List (ℕ × List ℕ)) → corruption_in held ≡ None → AllByRecursion (λ (p : Placed). p.0 < 2 ^ 64) (placed (log_in held))
files_low [] none = tt
files_low (file ∷ held) none =
    let parts = neither (corruption_at (length held == 0) file.0 (length file.1) (scan_of file.0 file.1)) (corruption_in held) none in
    all_append (λ (p : Placed). p.0 < 2 ^ 64) (placed_from file.0 26 (entries_scanned (scan_of file.0 file.1))) (placed (log_in held))
    (found_low file.0 file.1 (small_file (length held == 0) file.0 (length file.1) (scan_of file.0 file.1) parts.0)) (files_low held parts.1)

-- ---- numbers

plain_end : (at : ℕ) (entry : Entry) → is_plain entry ≡ true → checkpoint_in at entry ≡ None
plain_end at (Put txn db name value) h = refl
plain_end at (Delete txn db name) h = refl
plain_end at (Commit txn) h = refl
plain_end at entry h = absurd (true≢false (sym h))

no_end : (es : List Placed) → AllByRecursion (λ p. is_plain p.1 ≡ true) es → last_end es ≡ None
no_end [] plain = refl
no_end (p ∷ es) plain = ap (λ (o : Option Checkpoint). or_else o (checkpoint_in p.0 p.1)) (no_end es plain.1) ∙ plain_end p.0 p.1 plain.0

most-entries : (number : Entry → ℕ) (es : List Placed) → most (λ (p : Placed). number p.1) es ≡ greatest number (map (λ (p : Placed). p.1) es)
most-entries number [] = refl
most-entries number (p ∷ es) = ap (λ (n : ℕ). max (number p.1) n) (most-entries number es)

plain_db : (entry : Entry) → is_plain entry ≡ true → db_number entry ≡ db_in entry
plain_db (Put txn db name value) h = refl
plain_db (Delete txn db name) h = refl
plain_db (Commit txn) h = refl
plain_db entry h = absurd (true≢false (sym h))

most-plain : (es : List Placed) → AllByRecursion (λ p. is_plain p.1 ≡ true) es → most (λ (p : Placed). db_number p.1) es ≡ most (λ (p : Placed). db_in p.1) es
most-plain [] plain = refl
most-plain (p ∷ es) plain = ap₂ (λ (a b : ℕ). max a b) (plain_db p.1 plain.0) (most-plain es plain.1)

greatest_is : (number : Entry → ℕ) (log : Log) → most (λ (p : Placed). number p.1) (from 0 (placed log)) ≡ greatest number (entries_of log)
greatest_is number log =
    ap (most (λ (p : Placed). number p.1)) (all_from_0 (placed log)) ∙ most-entries number (placed log) ∙ ap (greatest number) (placed_are_entries log)

db_is : (log : Log) → AllByRecursion (λ e. is_plain e ≡ true) (entries_of log) → most (λ (p : Placed). db_number p.1) (from 0 (placed log)) ≡ greatest db_in (entries_of log)
db_is log plain =
    ap (most (λ (p : Placed). db_number p.1)) (all_from_0 (placed log)) ∙ most-plain (placed log) (plain_placed log plain) ∙ most-entries db_in (placed log) ∙ ap (greatest db_in) (placed_are_entries log)

-- ---- the whole

by_option : {A : Type 0} (P : Option A → Type 0) → P None → ((x : A) → P (Some x)) → (o : Option A) → P o
by_option P none some None = none
by_option P none some (Some x) = some x

meaning_alike : (log : Log) → AllByRecursion (λ e. is_plain e ≡ true) (entries_of log) → without_nodes (Ok (meaning_of (placed log) no_checkpoint (record { seen = []; rows = [] }))) ≡ Ok (replay_meaning_of (entries_of log))
meaning_alike log plain =
    let make : Store → ℕ → ℕ → Result ReplayMeaning Corruption = λ store txn db. let m : ReplayMeaning = record { store = store; last_txn = txn; last_db = db } in Ok m in
    let txn : max 0 (most (λ (p : Placed). txn_in p.1) (from 0 (placed log))) ≡ greatest txn_in (entries_of log) = let e = greatest_is txn_in log in omega (arith, e) in
    let db : max 0 (max 0 (max 0 (most (λ (p : Placed). db_number p.1) (from 0 (placed log))))) ≡ greatest db_in (entries_of log) = let e = db_is log plain in omega (arith, e) in
    ap (λ (s : Store). make s (max 0 (most (λ (p : Placed). txn_in p.1) (from 0 (placed log)))) (max 0 (max 0 (max 0 (most (λ (p : Placed). db_number p.1) (from 0 (placed log))))))) (ap store_of (sym (replayed_alike log plain).0))
    ∙ ap₂ (λ (a b : ℕ). make (store_of (replayed (entries_of log) nothing_replayed).rows) a b) txn db

judged_alike : (log : Log) → AllByRecursion (λ e. is_plain e ≡ true) (entries_of log) → AllByRecursion (λ (p : Placed). p.0 < 2 ^ 64) (placed log) →
    without_nodes (validated (placed log) no_checkpoint (record { seen = []; rows = [] })) ≡ replay_judged log
judged_alike log plain low =
    by_option
    (λ o. without_nodes (validated_by (placed log) no_checkpoint (record { seen = []; rows = [] }) (option_map (λ place. lsn_there (record_at (redone 0 (placed log)) place.db place.name)) o)) ≡ replay_judged_by log o)
    (meaning_alike log plain)
    (λ place. ap (λ (n : ℕ). let r : Result ReplayMeaning Corruption = Err (Tree n) in r) (sym (lsn_is log place.db place.name plain low)))
    (wrong_record (rows_of (redone 0 (placed log))))
    ∙ ap (λ (rows : Rows). replay_judged_by log (wrong_record rows)) (sym (replayed_alike log plain).0)

pub read_alike : ReadAlike
read_alike held plain = by_corruption (corruption_in held) refl
  where
    by_end : Option Checkpoint → Result Meaning Corruption
    by_end o =
        and_then (read_roots (map (λ (file : ℕ × List ℕ). file.0) held) (placed (log_in held)) (unwrap_or o no_checkpoint).at (unwrap_or o no_checkpoint).roots)
        (λ walk. unless (redo_corruption (map (λ (file : ℕ × List ℕ). file.0) held) o) (validated (placed (log_in held)) (unwrap_or o no_checkpoint) walk))

    by_gap : (gap : Option ℕ) → AllByRecursion (λ (p : Placed). p.0 < 2 ^ 64) (placed (log_in held)) →
        without_nodes (unless (missing gap) (validated (placed (log_in held)) no_checkpoint (record { seen = []; rows = [] })))
        ≡ replay_reading_by (log_in held) (option_map (λ n. Missing (lsn_at n 0)) gap)
    by_gap None low = judged_alike (log_in held) plain low
    by_gap (Some n) low = refl

    by_corruption : (o : Option Corruption) → corruption_in held ≡ o →
        without_nodes (unless o (meaning_in (map (λ (file : ℕ × List ℕ). file.0) held) (placed (log_in held))))
        ≡ replay_reading_by (log_in held) (or_else o (option_map (λ n. Missing (lsn_at n 0)) (gap_in (map (λ (file : ℕ × List ℕ). file.0) held))))
    by_corruption None is =
        ap (λ (o : Option Checkpoint). without_nodes (by_end o)) (no_end (placed (log_in held)) (plain_placed (log_in held) plain))
        ∙ by_gap (gap_in (map (λ (file : ℕ × List ℕ). file.0) held)) (files_low held is)
    by_corruption (Some corruption) is = refl
