-- A log that was read: the bytes of its files, and where entries stand in them.
use Rattle.std.specs.Prelude.{◌≡◌, ◌≤◌, ◌<◌, ◌+◌, ◌*◌, ◌/◌, ◌^◌, ℕ, Bool, true, false, List, [], ◌∷◌, map, drop, Some, None}
use Rattle.std.specs.List.{AllByRecursion, flat_map}
use Rattle.std.specs.List.Sorted.{IsStrictlyIncreasing}
use Rattle.log_entry.specs.declared.entry.Entry.{Entry}
use Rattle.log_entry.specs.declared.decoder.Decoded.TheVariants.{Whole}
use Rattle.log_entry.specs.Encoding.{size_of}
use Rattle.log_entry.specs.Reading.{decoded}
use Rattle.log_file.specs.Scan.{scan_of}
use Rattle.log_file.specs.Log.{entries_scanned}
use Rattle.log_trees.specs.Placed.{Placed, placed_from, entry_at}
use Rattle.log_replay.specs.Reading.{lsn_at}

-- an entry stands whole at an offset of bytes
pub record HasEntryAt (bytes : List ℕ) (at : ℕ) (e : Entry) : Type 0 where
  pub prev : ℕ
  pub len : ℕ
  pub found : decoded (drop at bytes) ≡ Whole e prev len

-- the offsets of entries that stand one behind another, from one on
abbrev pub offsets_from : ℕ → List Entry → List ℕ
offsets_from at [] = []
offsets_from at (entry ∷ entries) = at ∷ offsets_from (at + size_of entry) entries

-- the entries of a file of these bytes, each with its LSN
abbrev pub entries_in : ℕ → List ℕ → List Placed
entries_in f bytes = placed_from f 26 (entries_scanned (scan_of f bytes))

-- entries stand at these offsets of a file's bytes
abbrev pub AreStanding : ℕ → List ℕ → List ℕ → List Placed → Type 0
AreStanding f bytes [] [] = Unit {0}
AreStanding f bytes [] (p ∷ es) = ⊥
AreStanding f bytes (at ∷ offsets) [] = ⊥
AreStanding f bytes (at ∷ offsets) (p ∷ es) = (p.0 ≡ lsn_at f at) × HasEntryAt bytes at p.1 × AreStanding f bytes offsets es

-- whether an entry of a file stands at an offset: where one does, its LSN names it
abbrev pub HasOffset : ℕ → List ℕ → List Placed → ℕ → Bool → Type 0
HasOffset f bytes es at true = (e : Entry) × HasEntryAt bytes at e × (entry_at es (lsn_at f at) ≡ Some e)
HasOffset f bytes es at false = entry_at es (lsn_at f at) ≡ None

-- the entries of files, in order
abbrev pub entries_of_files : List (ℕ × List Placed) → List Placed
entries_of_files files = flat_map (λ f. f.1) files

-- each entry's LSN names the file
abbrev pub AreInside : ℕ → List Placed → Type 0
AreInside f es = AllByRecursion (λ p. (f * 2 ^ 32 ≤ p.0) × (p.0 < f * 2 ^ 32 + 2 ^ 32)) es

-- files with these numbers, each with entries of its own
pub record AreFilesOf (numbers : List ℕ) (files : List (ℕ × List Placed)) : Type 0 where
  pub numbers_are : numbers ≡ map (λ f. f.0) files
  pub inside : AllByRecursion (λ f. AreInside f.0 f.1) files

-- and their numbers rise
pub record AreFilesRead (numbers : List ℕ) (files : List (ℕ × List Placed)) : Type 0 where
  pub files_are : AreFilesOf numbers files
  pub rising : IsStrictlyIncreasing numbers

-- the file that an LSN names, with the entry that it names
pub record IsFileWith (es : List Placed) (at : ℕ) (file : ℕ × List Placed) : Type 0 where
  pub number : file.0 ≡ at / 2 ^ 32
  pub found : entry_at file.1 at ≡ entry_at es at
