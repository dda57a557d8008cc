-- What holds of all logs that entries are appended to.
use Rattle.std.specs.Prelude.{◌≡◌, ℕ, ◌≤◌, ◌⊎◌, List, [], ◌∷◌, ◌++◌}
use Rattle.log_entry.specs.declared.entry.Entry.{Entry}
use Rattle.log_entry.specs.Encoding.{size_of}
use Rattle.log_file.specs.Log.{Log, IsLog, entries_of}
use Rattle.log_file.specs.Placed.{Placed, placed}
use Rattle.log_buffer.specs.declared.log_pos.LogPos.{LogPos}
use Rattle.log_buffer.specs.Flip.{header_size, placed_at, end_after, end_after_all, pos_lsn}
use Rattle.log_buffer.specs.Log.{EndsAt, StandsAt, log_with}
use Rattle.log_buffer.specs.Growth.{log_with_all}

-- an entry is the log's last one, and stands at this place
pub record IsLast (log : Log) (at : LogPos) (entry : Entry) : Type 0 where
  pub entries : entries_of (log_with at.file entry log) ≡ entries_of log ++ entry ∷ []
  pub stands : StandsAt (log_with at.file entry log) (pos_lsn at) entry

-- an entry that is appended is the log's last one, and stands where it was placed
abbrev pub AppendedIsLast : Type 0
AppendedIsLast = (log : Log) (end : LogPos) (last file_max size : ℕ) (entry : Entry) → IsLog log → EndsAt log end.file end.offset last → IsLast log (placed_at file_max end size) entry

-- an entry that is appended is the last of the log's entries with their LSNs, and has the LSN at which it was placed
abbrev pub AppendedIsPlaced : Type 0
AppendedIsPlaced = (log : Log) (end : LogPos) (last file_max size : ℕ) (entry : Entry) → IsLog log → EndsAt log end.file end.offset last
    → placed (log_with (placed_at file_max end size).file entry log) ≡ placed log ++ (pos_lsn (placed_at file_max end size), entry) ∷ []

-- entries with the LSNs at which they are placed, in a log that ends here
abbrev pub placed_by : ℕ → LogPos → List Entry → List Placed
placed_by file_max end [] = []
placed_by file_max end (entry ∷ entries) = (pos_lsn (placed_at file_max end (size_of entry)), entry) ∷ placed_by file_max (end_after file_max end (size_of entry)) entries

-- the same for several entries
abbrev pub AppendedArePlaced : Type 0
AppendedArePlaced = (log : Log) (end : LogPos) (last file_max : ℕ) (entries : List Entry) → IsLog log → EndsAt log end.file end.offset last
    → placed (log_with_all file_max end entries log) ≡ placed log ++ placed_by file_max end entries

-- a file is longer than the greatest size only where it holds one entry behind its header
abbrev pub AreBounded : Type 0
AreBounded = (file_max : ℕ) (end : LogPos) (size : ℕ) → ((end_after file_max end size).offset ≤ file_max) ⊎ ((placed_at file_max end size).offset ≡ header_size)

-- the last file's number never falls
abbrev pub NeverFalls : Type 0
NeverFalls = (file_max : ℕ) (end : LogPos) (sizes : List ℕ) → end.file ≤ (end_after_all file_max end sizes).file

-- appends of some entries and then of others are appends of all of them
abbrev pub AppendsJoin : Type 0
AppendsJoin = (file_max : ℕ) (end : LogPos) (a b : List ℕ) → end_after_all file_max end (a ++ b) ≡ end_after_all file_max (end_after_all file_max end a) b
