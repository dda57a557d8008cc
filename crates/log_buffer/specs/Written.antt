-- Entries that were written: the disk reads them, whatever is appended behind them.
use Rattle.std.specs.Prelude.{◌≡◌, ◌≤◌, ℕ, Some, List, ◌++◌, map, length}
use Rattle.je_disk.specs.States.{Files}
use Rattle.log_entry.specs.declared.entry.Entry.{Entry}
use Rattle.log_file.specs.Log.{Log, IsLog, AreFiles, entries_of, files_of_log}
use Rattle.log_buffer.specs.declared.log_pos.LogPos.{LogPos}
use Rattle.log_buffer.specs.Chance.{AreFirst}
use Rattle.log_buffer.specs.Crash.{FilesStay}
use Rattle.log_buffer.specs.Growth.{log_with_all}

-- The files once were those of a front of the log, with at least so many entries, and each of those files begins with the bytes that it had then.
pub record HoldsWritten (log : Log) (written : ℕ) (reads : Files) : Type 0 where
  pub front : Log
  pub is_log : IsLog front
  pub enough : written ≤ length (entries_of front)
  pub later : List ℕ
  pub numbers : map (λ file. file.0) log ≡ map (λ file. file.0) front ++ later
  pub begins : (f : ℕ) (bytes : List ℕ) → files_of_log front f ≡ Some bytes → (more : List ℕ) × (reads f ≡ Some (bytes ++ more))

-- where the files are the log's, all its entries are written
abbrev pub AllAreWritten : Type 0
AllAreWritten = (log : Log) (reads : Files) → IsLog log → ((f : ℕ) → reads f ≡ files_of_log log f) → HoldsWritten log (length (entries_of log)) reads

-- they stay so while files stay, and in a longer log
abbrev pub WrittenStay : Type 0
WrittenStay = (log : Log) (written : ℕ) (before after : Files) → HoldsWritten log written before → FilesStay before after → HoldsWritten log written after

abbrev pub WrittenGrow : Type 0
WrittenGrow = (log : Log) (most : ℕ) (end : LogPos) (entries : List Entry) (written : ℕ) (reads : Files) → HoldsWritten log written reads → HoldsWritten (log_with_all most end entries log) written reads

-- where what is read holds the log's first entries, it holds those that were written
abbrev pub WrittenAreFirst : Type 0
WrittenAreFirst = (log : Log) (least written : ℕ) (reads : Files) (held : List (ℕ × List ℕ)) → HoldsWritten log written reads → AreFiles reads held → AreFirst log least held → AreFirst log written held
