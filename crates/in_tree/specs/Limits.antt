-- Which limit changes meet, and what the log has room for.
use Rattle.std.specs.Prelude.{◌≡◌, ◌+◌, ◌≤◌, ◌||◌, ℕ, zero, suc, nat_lt, if◌then◌else◌, List, [], ◌∷◌, ◌++◌, map, Option, Some, None, Bool, true, false}
use Rattle.std.specs.List.{AllByRecursion}
use Rattle.je_disk.specs.DiskMeaning.{DiskMeaning}
use Rattle.je_lsn.specs.Naming.{last_file}
use Rattle.je_order.specs.Counts.{HasRisen}
use Rattle.je_order.specs.declared.txn_id.TxnId.{TxnId}
use Rattle.log_entry.specs.Body.{IsEntry}
use Rattle.log_entry.specs.Encoding.{size_of}
use Rattle.log_entry.specs.declared.entry.Entry.{Entry}
use Rattle.log_entry.specs.declared.entry.Entry.TheVariants.{Commit}
use Rattle.log_file.specs.Scan.{may_follow}
use Rattle.log_buffer.specs.declared.buffer.LogBuffer.{LogBuffer}
use Rattle.log_buffer.specs.Buffer.{disk_of, end_of, file_max_of, has_failed, HasRoom, IsUnchanged}
use Rattle.log_buffer.specs.Flip.{end_after_all}
use Rattle.log_buffer.specs.Growth.{Grew, Tried}
use Rattle.record_tree.specs.Logged.{entry_for}
use Rattle.record_tree.specs.declared.tree_change.TreeChange.{TreeChange}
use Rattle.record_tree.specs.declared.tree_err.TreeErr.{TreeErr}
use Rattle.record_tree.specs.declared.tree_err.TreeErr.TheVariants.{Full, IdsEnded}
use Rattle.db_tree.specs.Splits.{image_sizes, nodes_made, passes_top}
use Rattle.in_tree.specs.Shapes.{Shapes, shapes_after}

-- a transaction: which one, the size of an entry does not depend on
abbrev pub any_txn : TxnId
any_txn = record { 0 = 0 }

-- the size of a change's entry
abbrev pub change_size : TreeChange → ℕ
change_size c = size_of (entry_for any_txn c.db c.name c.value)

-- the size of a Commit
abbrev pub commit_size : ℕ
commit_size = size_of (Commit any_txn)

-- the sizes of so many Commits
abbrev pub commit_sizes : ℕ → List ℕ
commit_sizes zero = []
commit_sizes (suc n) = commit_size ∷ commit_sizes n

-- how many databases a change makes
abbrev pub one_made : Option ℕ → ℕ
one_made None = 0
one_made (Some db) = 1

-- the sizes of the entries of changes, each behind the images that its name's slot needs
abbrev pub change_sizes : ℕ → Shapes → List TreeChange → List ℕ
change_sizes fanout shapes [] = []
change_sizes fanout shapes (c ∷ changes) = image_sizes fanout c.name (shapes c.db) ++ change_size c ∷ change_sizes fanout (shapes_after fanout shapes c) changes

-- and of the Commits that are owed behind them
abbrev pub sizes_for : ℕ → Shapes → List TreeChange → ℕ → List ℕ
sizes_for fanout shapes changes owed = change_sizes fanout shapes changes ++ commit_sizes owed

-- how many node numbers changes allocate: those of splits, and those of the roots of the databases that they make
abbrev pub numbers_drawn : ℕ → Shapes → List TreeChange → ℕ
numbers_drawn fanout shapes [] = 0
numbers_drawn fanout shapes (c ∷ changes) = nodes_made fanout c.name (shapes c.db) + one_made c.makes + numbers_drawn fanout (shapes_after fanout shapes c) changes

-- a root would pass the last level
abbrev pub are_too_high : ℕ → Shapes → List TreeChange → Bool
are_too_high fanout shapes [] = false
are_too_high fanout shapes (c ∷ changes) = passes_top fanout c.name (shapes c.db) || are_too_high fanout (shapes_after fanout shapes c) changes

-- the greatest number of a node
abbrev pub last_number : ℕ
last_number = 0x7fffffffffffffff

module _ {D : Type 0} where
  -- the log passes its last file by entries of these sizes
  abbrev pub end_behind : LogBuffer D → List ℕ → ℕ
  end_behind log sizes = (end_after_all (file_max_of log) (end_of log) sizes).file

  -- the limit that entries of these sizes meet, and then nodes with numbers up to a last one
  abbrev pub limit_behind : LogBuffer D → List ℕ → ℕ → Option TreeErr
  limit_behind log sizes last =
      if nat_lt last_file (end_behind log sizes) then Some Full
      else if nat_lt last_number last then Some IdsEnded
      else None

  -- the limit that changes meet, where `last` is the node number allocated last: that of levels, the log's, and then that of numbers
  abbrev pub limit_of : LogBuffer D → ℕ → ℕ → Shapes → List TreeChange → ℕ → Option TreeErr
  limit_of log fanout last shapes changes owed =
      if has_failed log then None
      else if are_too_high fanout shapes changes then Some IdsEnded
      else limit_behind log (sizes_for fanout shapes changes owed) (last + numbers_drawn fanout shapes changes)

  -- the log works, and appends of entries of these sizes take no memory and pass no last file
  pub record HasRoomFor (log : LogBuffer D) (sizes : List ℕ) : Type 0 where
    pub works : has_failed log ≡ false
    pub room : HasRoom log sizes
    pub files : end_behind log sizes ≤ last_file

  -- entries that may stand in the log behind its end, and have room up to the last file
  pub record FitsLog (log : LogBuffer D) (entries : List Entry) : Type 0 where
    pub entries_are : AllByRecursion (λ e. IsEntry e × (may_follow e ≡ true)) entries
    pub room : (end_after_all (file_max_of log) (end_of log) (map size_of entries)).file ≤ last_file

  -- the log got these entries, which fit it, and nothing happened where there are none; no count of the disk's faults fell
  pub record GrewFitting (meaning : DiskMeaning D) (old new : LogBuffer D) (entries : List Entry) : Type 0 where
    pub grew : Grew meaning old new entries
    pub fits : FitsLog old entries
    pub none : entries ≡ [] → IsUnchanged old new
    pub never_falls : meaning.faults (disk_of old) ≤ meaning.faults (disk_of new)

  -- the log failed with these entries, which fit it: the disk counted a fault, or the log had failed before
  pub record TriedFitting (meaning : DiskMeaning D) (old new : LogBuffer D) (entries : List Entry) : Type 0 where
    pub tried : Tried meaning old new entries
    pub fits : FitsLog old entries
    pub never_falls : meaning.faults (disk_of old) ≤ meaning.faults (disk_of new)
    pub rose : has_failed old ≡ false → HasRisen (meaning.faults (disk_of old)) (meaning.faults (disk_of new))
