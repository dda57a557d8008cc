-- A log to which entries are appended.
use Rattle.std.specs.Prelude.{◌≡◌, ℕ, ◌-◌, ◌<◌, ◌≤◌, ◌^◌, true, List, ◌++◌, map}
use Rattle.std.specs.List.{AllByRecursion}
use Rattle.je_lsn.specs.Naming.{last_file}
use Rattle.store_model.specs.declared.change.Change.{Change}
use Rattle.store_model.specs.declared.store.Store.{Store}
use Rattle.log_entry.specs.declared.entry.Entry.{Entry}
use Rattle.log_entry.specs.Body.{IsEntry}
use Rattle.log_entry.specs.Encoding.{size_of}
use Rattle.log_file.specs.Scan.{may_follow}
use Rattle.log_file.specs.Log.{Log, IsLog}
use Rattle.log_buffer.specs.declared.log_pos.LogPos.{LogPos}
use Rattle.log_buffer.specs.Flip.{end_after_all, pos_lsn}
use Rattle.log_buffer.specs.Log.{EndsAt}
use Rattle.log_buffer.specs.Growth.{log_with_all}
use Rattle.log_buffer.specs.Laws.{placed_by}
use Rattle.log_trees.specs.Placed.{placed}
use Rattle.log_meaning.specs.Recovery.{Recovers}
use Rattle.log_meaning.specs.Transactions.{RiseBehind, last_lsn}
use Rattle.crash_recovery.specs.Reading.{IsNamedLog}
use Rattle.crash_recovery.specs.Recovery.{RecoversLog}

-- the LSNs of a log's entries are below one that is below its end
pub record LiesBelow (log : Log) (end : LogPos) : Type 0 where
  pub some : 0 < pos_lsn end - 1
  pub below : AllByRecursion (λ p. p.0 < pos_lsn end - 1) (placed log)

abbrev pub LogsLieBelow : Type 0
LogsLieBelow = (log : Log) (end : LogPos) (last : ℕ) → IsLog log → EndsAt log end.file end.offset last → LiesBelow log end

-- the LSNs of appended entries rise behind each LSN below the log's end, and lie below the new end
pub record AreAppendedBehind (file_max : ℕ) (end : LogPos) (entries : List Entry) (next : ℕ) : Type 0 where
  pub entries_are : map (λ p. p.1) (placed_by file_max end entries) ≡ entries
  pub rise : RiseBehind next (placed_by file_max end entries)
  pub below : last_lsn next (placed_by file_max end entries) < pos_lsn (end_after_all file_max end (map size_of entries))

abbrev pub AppendedRise : Type 0
AppendedRise = (log : Log) (end : LogPos) (last file_max : ℕ) (entries : List Entry) (next : ℕ) → IsLog log → EndsAt log end.file end.offset last
    → IsLog (log_with_all file_max end entries log) → next < pos_lsn end → AreAppendedBehind file_max end entries next

-- entries that files up to the last number have room for
pub record HaveRoom (file_max : ℕ) (end : LogPos) (entries : List Entry) : Type 0 where
  pub max : file_max ≤ 2 ^ 30
  pub entries_are : AllByRecursion (λ e. IsEntry e × (may_follow e ≡ true)) entries
  pub room : (end_after_all file_max end (map size_of entries)).file ≤ last_file

-- where they are appended each number names a file still, and the log ends where they end
pub record IsLongerLog (file_max : ℕ) (end : LogPos) (entries : List Entry) (log : Log) : Type 0 where
  pub named : IsNamedLog (log_with_all file_max end entries log)
  pub last : ℕ
  pub ends : EndsAt (log_with_all file_max end entries log) (end_after_all file_max end (map size_of entries)).file (end_after_all file_max end (map size_of entries)).offset last

abbrev pub LongerIsNamed : Type 0
LongerIsNamed = (log : Log) (end : LogPos) (last file_max : ℕ) (entries : List Entry) → IsNamedLog log → EndsAt log end.file end.offset last → HaveRoom file_max end entries
    → IsLongerLog file_max end entries log

-- and the log recovers what its entries recover
abbrev pub LongerRecovers : Type 0
LongerRecovers = (first : ℕ) (opening : Store) (base : ℕ) (transactions longer : List (List Change)) (log : Log) (end : LogPos) (last file_max : ℕ) (entries : List Entry)
    → RecoversLog first opening base transactions log → EndsAt log end.file end.offset last → HaveRoom file_max end entries
    → Recovers first opening base longer (placed log ++ placed_by file_max end entries)
    → RecoversLog first opening base longer (log_with_all file_max end entries log)
