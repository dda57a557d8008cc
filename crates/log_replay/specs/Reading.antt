-- Reading the files of a log: what their entries mean together, or what is wrong, in the order of reading. The files come
-- first, in order; then the numbers between them; then the records that are left.
use Rattle.std.specs.Prelude.{ℕ, ◌+◌, ◌==◌, ◌&&◌, ◌||◌, nat_lt, ◌∷◌, [], List, Option, None, Some, Result, Ok, Err, Bool, map, option_map, unwrap_or, length, if◌then◌else◌}
use Rattle.std.specs.Int.{w64, to_be_bytes}
use Rattle.std.specs.List.{flat_map}
use Rattle.je_bytes.specs.Reading.{number_in}
use Rattle.je_disk.specs.States.{Files, content}
use Rattle.je_lsn.specs.declared.file_no.FileNo.{FileNo}
use Rattle.log_entry.specs.declared.entry.Entry.{Entry}
use Rattle.log_entry.specs.declared.entry.Entry.TheVariants.{Put}
use Rattle.je_lsn.specs.Naming.{last_file}
use Rattle.log_entry.specs.Encoding.{size_of}
use Rattle.log_file.specs.declared.file_scan.FileScan.{FileScan}
use Rattle.log_file.specs.declared.file_scan.FileScan.TheVariants.{Prefix, VersionUnknown as OtherVersion, Damaged as NoHeader}
use Rattle.log_file.specs.Scan.{scan_of}
use Rattle.log_file.specs.Log.{Log, entries_of, log_in}
pub use Rattle.log_file.specs.Placed.{lsn_at}
use Rattle.log_replay.specs.declared.corruption.Corruption.{Corruption}
use Rattle.log_replay.specs.declared.corruption.Corruption.TheVariants.{Damaged, Missing, Tree, VersionUnknown}
use Rattle.log_replay.specs.declared.place.Place.{Place}
use Rattle.log_replay.specs.Rows.{data_at}
use Rattle.log_replay.specs.Replay.{replayed, nothing_replayed}
use Rattle.log_replay.specs.Meaning.{Meaning, meaning_of}
use Rattle.log_replay.specs.Wrong.{or_else, wrong_record}

-- ---- the files

-- what is wrong with file f, which has so many bytes, where its valid prefix ends here: a valid prefix that is not the whole file may end
-- the last file alone
abbrev pub corruption_behind : Bool → ℕ → ℕ → ℕ → Option Corruption
corruption_behind last f len end = if last || (nat_lt 0 end && (end == len)) then None else Some (Damaged (lsn_at f end))

-- what is wrong with file f, which has so many bytes; a number above the last file's is no log file's
abbrev pub corruption_at : Bool → ℕ → ℕ → FileScan → Option Corruption
corruption_at last f len (OtherVersion version) = Some (VersionUnknown (record { 0 = f }) version)
corruption_at last f len NoHeader = Some (Damaged (lsn_at f 0))
corruption_at last f len (Prefix prefix) = if nat_lt last_file f then Some (Damaged (lsn_at f 0)) else corruption_behind last f len prefix.end

-- the first corruption in files
abbrev pub corruption_in : List (ℕ × List ℕ) → Option Corruption
corruption_in [] = None
corruption_in (file ∷ files) = or_else (corruption_at (length files == 0) file.0 (length file.1) (scan_of file.0 file.1)) (corruption_in files)

-- the first number behind this one that is not among numbers that rise from there
abbrev pub gap_behind : ℕ → List ℕ → Option ℕ
gap_behind n [] = None
gap_behind n (m ∷ ms) = if m == n + 1 then gap_behind m ms else Some (n + 1)

-- the first number between rising numbers that is not among them
abbrev pub gap_in : List ℕ → Option ℕ
gap_in [] = None
gap_in (n ∷ ns) = gap_behind n ns

-- ---- the records

-- an entry with its LSN for its data
abbrev pub marked_entry : ℕ → Entry → Entry
marked_entry lsn (Put txn db name value) = Put txn db name (to_be_bytes w64 lsn)
marked_entry lsn entry = entry

-- entries of file f from an offset on, each with its LSN for its data
abbrev pub marked : ℕ → ℕ → List Entry → List Entry
marked f at [] = []
marked f at (entry ∷ entries) = marked_entry (lsn_at f at) entry ∷ marked f (at + size_of entry) entries

abbrev pub marked_log : Log → List Entry
marked_log log = flat_map (λ file. marked file.0 26 file.1) log

-- the number that data begins with, 0 where there is none
abbrev pub marked_lsn : Option (List ℕ) → ℕ
marked_lsn data_ = unwrap_or (option_map (λ n. n.0) (number_in w64 (unwrap_or data_ []))) 0

-- the LSN of the put that gave the record of a place: the record's data, had each put its LSN for its data
abbrev pub lsn_of : Log → Place → ℕ
lsn_of log place = marked_lsn (data_at place.name ((replayed (marked_log log) nothing_replayed).rows place.db))

-- ---- the whole

abbrev pub validated_by : Log → Option Place → Result Meaning Corruption
validated_by log None = Ok (meaning_of (entries_of log))
validated_by log (Some place) = Err (Tree (lsn_of log place))

-- what a log means, if its records are those of an environment
abbrev pub validated : Log → Result Meaning Corruption
validated log = validated_by log (wrong_record (replayed (entries_of log) nothing_replayed).rows)

abbrev pub reading_by : Log → Option Corruption → Result Meaning Corruption
reading_by log None = validated log
reading_by log (Some corruption) = Err corruption

-- what files mean, or the first corruption in the order of reading
abbrev pub reading_of : List (ℕ × List ℕ) → Result Meaning Corruption
reading_of held = reading_by (log_in held) (or_else (corruption_in held) (option_map (λ n. Missing (lsn_at n 0)) (gap_in (map (λ file. file.0) held))))

-- the files of these numbers with their bytes, as a disk reads them
abbrev pub files_read : Files → List FileNo → List (ℕ × List ℕ)
files_read reads files = map (λ f. (f.0, content reads f.0)) files
