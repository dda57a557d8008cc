-- What one step of an environment does, beside the model.
use Rattle.std.specs.Prelude.{ℕ, ◌≡◌, ◌≤◌, ◌<◌, ◌+◌, ◌⊎◌, List, Option, None, Some, Result, Ok, Err, IfOk, length}
use Rattle.std.specs.declared.alloc.AllocError.{AllocError}
use Rattle.je_order.specs.Counts.{HasRisen}
use Rattle.je_order.specs.declared.txn_id.TxnId.{TxnId}
use Rattle.je_disk.specs.DiskMeaning.{DiskMeaning}
use Rattle.log_entry.specs.declared.entry.Entry.{Entry}
use Rattle.log_buffer.specs.declared.buffer.LogBuffer.{LogBuffer}
use Rattle.log_buffer.specs.Buffer.{IsUnchanged}
use Rattle.log_buffer.specs.Growth.{Grew, Tried}
use Rattle.store_model.specs.declared.store.TheConstants.{LAST_DATABASE}
use Rattle.store_model.specs.declared.answer.Answer.{Answer}
use Rattle.store_model.specs.declared.answer.Answer.TheVariants.{Logged, LogFull, IdsEnded, DiskFault}
use Rattle.record_tree.specs.declared.tree_change.TreeChange.{TreeChange}
use Rattle.record_tree.specs.declared.tree_err.TreeErr.{TreeErr}
use Rattle.record_tree.specs.declared.tree_err.TreeErr.TheVariants.{Full}
use Rattle.record_tree.specs.Logged.{LogsTransaction, IsFront}
use Rattle.tree_images.specs.Forest.{ForestFits}
use Rattle.in_tree.specs.Carrying.{Carries}
use Rattle.in_tree.specs.Limits.{FitsLog}
use Rattle.txn_core.specs.declared.planned_changes.PlannedChanges.{PlannedChanges}
use Rattle.engine.specs.Contents.{Contents, HasFaulted, HasLogged, IsSame, drawn_contents}
use Rattle.engine.specs.Limits.{limit_by}

-- a transaction by its number
abbrev pub txn_of : ℕ → TxnId
txn_of number = record { 0 = number }

-- what changes are answered that may lack numbers, where the trees find this limit
abbrev pub refusal_by : Option TreeErr → Answer
refusal_by (Some Full) = LogFull
refusal_by found = IdsEnded

module _ {D : Type 0} (meaning : DiskMeaning D) where
  -- a transaction with these changes went into the log: an entry for each, behind images of nodes, and its Commit
  pub record HasAppended (buffer longer : LogBuffer D) (txn : TxnId) (changes : List TreeChange) : Type 0 where
    pub entries : List Entry
    pub logs : LogsTransaction txn changes entries
    pub grew : Grew meaning buffer longer entries
    pub fits : FitsLog buffer entries

  -- or the disk failed while its first entries were appended
  pub record HasTried (buffer longer : LogBuffer D) (txn : TxnId) (changes : List TreeChange) : Type 0 where
    pub entries : List Entry
    pub front : List Entry
    pub logs : LogsTransaction txn changes entries
    pub is_front : IsFront front entries
    pub tried : Tried meaning buffer longer front
    pub fits : FitsLog buffer front

  -- trees that fitted the log fit the one with these entries more
  abbrev pub CarriesTrees : LogBuffer D → List Entry → Contents → Contents → Type 0
  CarriesTrees buffer entries old new =
      Carries meaning buffer entries (λ es base. ForestFits es base old.last_number old.trees) (λ es base. ForestFits es base new.last_number new.trees)

  -- Changes were logged, which met no limit; or they met one, and nothing changed but that a transaction number was allocated; or the disk failed; or
  -- there was no memory, and nothing changed. `found` is the limit that the trees find for them.
  abbrev pub LogsChanges : LogBuffer D → LogBuffer D → Contents → Contents → PlannedChanges → Option TreeErr → Result Answer AllocError → Type 0
  LogsChanges buffer longer old new planned found (Ok (Logged commit)) =
      (commit ≡ old.commits + 1) × HasLogged old new planned × (planned.last_db ≤ LAST_DATABASE) × (limit_by found old.last_node (length planned.changes.items) ≡ None)
      × (a : HasAppended buffer longer (txn_of (old.last_txn + 1)) planned.changes.items) × CarriesTrees buffer a.entries old new
  LogsChanges buffer longer old new planned found (Ok LogFull) =
      (limit_by found old.last_node (length planned.changes.items) ≡ Some LogFull) × IsSame (drawn_contents old) new × IsUnchanged buffer longer
  LogsChanges buffer longer old new planned found (Ok IdsEnded) =
      ((limit_by found old.last_node (length planned.changes.items) ≡ Some IdsEnded)
      ⊎ ((limit_by found old.last_node (length planned.changes.items) ≡ None) × (LAST_DATABASE < planned.last_db)))
      × IsSame (drawn_contents old) new × IsUnchanged buffer longer
  LogsChanges buffer longer old new planned found (Ok DiskFault) =
      HasFaulted old new × (planned.last_db ≤ LAST_DATABASE) × (limit_by found old.last_node (length planned.changes.items) ≡ None)
      × HasTried buffer longer (txn_of (old.last_txn + 1)) planned.changes.items
  LogsChanges buffer longer old new planned found (Ok answer) = ⊥
  LogsChanges buffer longer old new planned found (Err error) = IsSame old new × IsUnchanged buffer longer

-- an answer of Logged has the number of the last commit
abbrev pub IsNumbered : Answer → ℕ → Type 0
IsNumbered (Logged commit) commits = commit ≡ commits
IsNumbered answer commits = Unit {0}

-- the count of the disk's faults never falls, and rose where the answer is a disk fault
pub record HasStepCause (before after : ℕ) (result : Result Answer AllocError) : Type 0 where
  pub never_falls : before ≤ after
  pub fault : IfOk result (λ answer. answer ≡ DiskFault → HasRisen before after)
