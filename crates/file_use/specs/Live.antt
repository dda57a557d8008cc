-- Which entries of a log are live.
use Rattle.std.specs.Prelude.{ℕ, ◌/◌, ◌^◌, ◌==◌, ◌&&◌, ◌||◌, if◌then◌else◌, Bool, false, List, Option, None, Some, filter, sum_by}
use Rattle.std.specs.List.{flat_map, list_any}
use Rattle.je_order.specs.declared.name.Name.{Name}
use Rattle.log_entry.specs.declared.entry.Entry.{Entry}
use Rattle.log_entry.specs.declared.entry.Entry.TheVariants.{Put, Migrated, In, Bin, BinDelta}
use Rattle.log_entry.specs.declared.root.Root.{Root}
use Rattle.log_entry.specs.Encoding.{size_of}
use Rattle.log_replay.specs.Rows.{numbers_of}
use Rattle.log_trees.specs.Placed.{Placed}
use Rattle.log_trees.specs.Changes.{Written}
use Rattle.log_meaning.specs.Redo.{Redo, record_at}
use Rattle.log_meaning.specs.Meaning.{rows_of}
use Rattle.file_use.specs.Images.{images_of_root}

-- whether a database is the catalog, or one that the catalog names
abbrev pub is_in_catalog : Redo → ℕ → Bool
is_in_catalog redo d = (d == 0) || list_any (λ n. n == d) (numbers_of (rows_of redo))

-- whether a record is there that was written at this LSN
abbrev pub is_value_at : ℕ → ℕ → Option (List ℕ) → Bool
is_value_at lsn at None = false
is_value_at lsn at (Some value) = at == lsn

-- whether what was written last stands at this LSN
abbrev pub is_written_at : ℕ → Written → Bool
is_written_at lsn written = is_value_at lsn written.at written.value

-- whether the record of a name was written at this LSN
abbrev pub is_record_from : Redo → ℕ → Name → ℕ → Bool
is_record_from redo d x lsn = is_in_catalog redo d && is_written_at lsn (record_at redo d x)

-- the images that the trees reach of those roots whose databases are kept
abbrev pub images_in_use : (ℕ → Bool) → List Placed → List Root → List ℕ
images_in_use is_kept es roots = flat_map (images_of_root es) (filter (λ r. is_kept r.db) roots)

-- whether a number is among these
abbrev pub is_one_of : List ℕ → ℕ → Bool
is_one_of numbers n = list_any (λ k. k == n) numbers

-- whether an entry is live, by which records are there and which images are needed: it wrote one of those records, or it is one of those images
abbrev pub is_live_entry : (ℕ → Name → ℕ → Bool) → (ℕ → Bool) → ℕ → Entry → Bool
is_live_entry has_record has_image at (Put txn db name value) = has_record db name at
is_live_entry has_record has_image at (Migrated db name value) = has_record db name at
is_live_entry has_record has_image at (In db node level slots) = has_image at
is_live_entry has_record has_image at (Bin db node slots) = has_image at
is_live_entry has_record has_image at (BinDelta db node full slots) = has_image at
is_live_entry has_record has_image at entry = false

-- the bytes of an entry, if it is live
abbrev pub live_size : (ℕ → Name → ℕ → Bool) → (ℕ → Bool) → Placed → ℕ
live_size has_record has_image p = if is_live_entry has_record has_image p.0 p.1 then size_of p.1 else 0

-- of entries those that stand in file f
abbrev pub entries_in_file : ℕ → List Placed → List Placed
entries_in_file f es = filter (λ p. p.0 / 2 ^ 32 == f) es

-- the bytes of the live entries among those that stand in file f
abbrev pub live_in : (ℕ → Name → ℕ → Bool) → (ℕ → Bool) → List Placed → ℕ → ℕ
live_in has_record has_image es f = sum_by (live_size has_record has_image) (entries_in_file f es)
