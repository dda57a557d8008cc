-- What a step of maintenance does to an environment.
use Rattle.std.specs.Prelude.{ℕ, ◌≡◌, ◌≢◌, ◌≤◌, ◌⊎◌, ◌++◌, ◌∷◌, [], List, Option, None, Some, is_some, Bool, true, false, Result, Ok, Err, OnOk, IfSome}
use Rattle.std.specs.declared.alloc.AllocError.{AllocError}
use Rattle.je_disk.specs.DiskMeaning.{DiskMeaning}
use Rattle.je_disk.specs.States.{State}
use Rattle.je_disk.specs.Moments.{History}
use Rattle.je_order.specs.declared.txn_id.TxnId.{TxnId}
use Rattle.lock_table.specs.Table.{at_txn}
use Rattle.store_model.specs.declared.answer.Answer.{Answer}
use Rattle.store_model.specs.declared.answer.Answer.TheVariants.{Done, Flushed, Nothing, InCheckpoint, NoCheckpoint, NodesLeft, LogFull, DiskFault}
use Rattle.store_model.specs.declared.answer.Fault.{Fault as Cause}
use Rattle.store_model.specs.declared.answer.Fault.TheVariants.{Disk}
use Rattle.store_model.specs.declared.event.Event.{Event}
use Rattle.store_model.specs.declared.event.Event.TheVariants.{Turn}
use Rattle.store_model.specs.declared.step.Step.{Step}
use Rattle.store_model.specs.declared.step.Step.TheVariants.{Begin, Flush, Finish as FinishStep, Sync}
use Rattle.je_answers.specs.Standing.{Standing}
use Rattle.log_entry.specs.declared.entry.Entry.{Entry}
use Rattle.log_entry.specs.declared.entry.Entry.TheVariants.{CkptStart}
use Rattle.record_tree.specs.declared.node_place.NodePlace.{NodePlace}
use Rattle.record_tree.specs.declared.tree_name.TreeName.{TreeName}
use Rattle.record_tree.specs.declared.tree_err.TreeErr.{TreeErr}
use Rattle.record_tree.specs.declared.tree_err.TreeErr.TheVariants.{Fault, Full, IdsEnded, Memory}
use Rattle.record_tree.specs.Logged.{IsFront}
use Rattle.record_tree.specs.Occupied.{AreSame}
use Rattle.log_trees.specs.Placed.{Placed}
use Rattle.tree_images.specs.Notes.{has_begun, is_late}
use Rattle.dirty_nodes.specs.Forest.{IsMarkIn, IsSince, is_dirty_in, is_noted_in, is_to_note_in, left_in}
use Rattle.in_tree.specs.declared.logged_trees.LogTrees.{LogTrees}
use Rattle.in_tree.specs.Checkpoints.{IsFullFor, MayEndTrees}
use Rattle.in_tree.specs.Limits.{HasRoomFor, TriedFitting, commit_sizes}
use Rattle.in_tree.specs.Observed.{GrewTrees, cells_of, has_tree_of, last_node_of, trees_of, waits_of}
use Rattle.checkpointer.specs.declared.ended.Ended.{Ended}
use Rattle.checkpointer.specs.declared.ended.Ended.TheVariants.{Done as Logged, Left}
use Rattle.checkpointer.specs.declared.finish.Finish.{Finish}
use Rattle.checkpointer.specs.declared.under_way.UnderWay.{UnderWay}
use Rattle.checkpointer.specs.Numbers.{number_after}
use Rattle.checkpointer.specs.Steps.{Finishes, Flushes}
use Rattle.environment.specs.declared.environment.Environment.{Environment}
use Rattle.environment.specs.declared.written.OwnNames.{OwnNames}
use Rattle.environment.specs.Valid.{fitting}
use Rattle.environment.specs.Whole.{HasDone, IsAt, IsGuarded}

-- a first LSN, if there is one, is not above this one
abbrev pub IsAtMost : Option ℕ → ℕ → Type 0
IsAtMost None lsn = ⊥
IsAtMost (Some first) lsn = first ≤ lsn

-- the least of some LSN, if there is one, and of the first LSN of a transaction with these names; one without names has none
abbrev pub IsLeastWith : List TreeName → ℕ → Option ℕ → Option ℕ → Type 0
IsLeastWith [] first least next = next ≡ least
IsLeastWith (name ∷ names) first least next = (lsn : ℕ) × (next ≡ Some lsn) × (lsn ≤ first) × IfSome least (λ l. lsn ≤ l) × ((lsn ≡ first) ⊎ (least ≡ Some lsn))

-- the least of the first LSNs of the transactions that wrote something; none where none did
pub record IsFirstOf (entries : List (TxnId × OwnNames)) (first : Option ℕ) : Type 0 where
  pub least : (t : TxnId) (own : OwnNames) → at_txn t entries ≡ Some own → own.names.items ≢ [] → IsAtMost first own.first
  pub some : IfSome first (λ lsn. (t : TxnId) × (own : OwnNames) × (at_txn t entries ≡ Some own) × (own.names.items ≢ []) × (own.first ≡ lsn))

-- what a step comes to whose entry was not logged, and the fault that it leaves
abbrev pub IsAnswerTo : TreeErr → Result Answer AllocError → Type 0
IsAnswerTo Fault result = result ≡ Ok DiskFault
IsAnswerTo Full result = result ≡ Ok LogFull
IsAnswerTo IdsEnded result = OnOk result ⊥
IsAnswerTo Memory result = OnOk result ⊥

abbrev pub fault_by : TreeErr → Option Cause → Option Cause
fault_by Fault fault = Some Disk
fault_by error fault = fault

-- what a flush comes to that logged a node, or found none that is left
abbrev pub flushed_answer : Option ℕ → Answer
flushed_answer (Some node) = Flushed node
flushed_answer None = Nothing

-- what an end comes to that was logged, or for which nodes are left; and the LSN from which on a redo may begin then
abbrev pub ended_answer : Ended → Answer
ended_answer (Logged redo) = Done
ended_answer (Left count) = NodesLeft count

abbrev pub ended_since : Ended → ℕ → ℕ
ended_since (Logged redo) since = redo
ended_since (Left count) since = since

module _ {D : Type 0} where
  -- a step leaves the sessions, what they wrote, the records and the totals as they were, and no more nodes wait
  pub record HasStayed (old new : Environment D) : Type 0 where
    pub sessions : new.sessions ≡ old.sessions
    pub written : new.written ≡ old.written
    pub kept : new.engine.kept ≡ record old.engine.kept { fault = new.engine.kept.fault; since = new.engine.kept.since; checkpoints = new.engine.kept.checkpoints }
    pub cells : AreSame (cells_of old.engine.trees) (cells_of new.engine.trees)
    pub trees : (d : ℕ) → has_tree_of new.engine.trees d ≡ has_tree_of old.engine.trees d
    pub waits : waits_of new.engine.trees ≤ waits_of old.engine.trees

  -- what a checkpoint's end has to know of an environment, with so many Commits owed
  pub record IsFinishOf (old : Environment D) (owed : ℕ) (f : Finish) : Type 0 where
    pub since : f.since ≡ old.engine.kept.since
    pub first : IsFirstOf old.written.by_txn.entries f.first
    pub last_txn : f.last_txn ≡ old.engine.kept.last_txn
    pub last_db : f.last_db ≡ old.engine.kept.last_db
    pub owed_is : f.owed ≡ owed

  -- no fault came, a redo may begin from the same LSN on, and the same checkpoint is under way, if any
  pub record IsStill (old new : Environment D) : Type 0 where
    pub fault : new.engine.kept.fault ≡ old.engine.kept.fault
    pub since : new.engine.kept.since ≡ old.engine.kept.since
    pub under_way : is_some new.engine.kept.checkpoints.under_way ≡ is_some old.engine.kept.checkpoints.under_way

  -- the disk failed, and a checkpoint is under way as before
  pub record HasStopped (old new : Environment D) : Type 0 where
    pub fault : new.engine.kept.fault ≡ Some Disk
    pub under_way : is_some new.engine.kept.checkpoints.under_way ≡ is_some old.engine.kept.checkpoints.under_way

  -- the entry of the next checkpoint's beginning
  abbrev pub start_entry : Environment D → Entry
  start_entry old = CkptStart (number_after old.engine.kept.checkpoints.last)

  -- where it is answered that no checkpoint is under way, or that one is, nothing changed
  abbrev pub IsIdle : Bool → Environment D → Environment D → Type 0
  IsIdle under_way old new = (is_some old.engine.kept.checkpoints.under_way ≡ under_way) × (new ≡ old)

  module _ (meaning : DiskMeaning D) where
    abbrev pub Grew : LogTrees D → LogTrees D → List Entry → Type 0
    Grew old new entries = GrewTrees meaning old new entries

    abbrev pub Tried : LogTrees D → LogTrees D → List Entry → Type 0
    Tried old new front = TriedFitting meaning old.log new.log front

    -- what the checkpointer says of a flush, and of an end
    abbrev pub FlushesTrees : ℕ → LogTrees D → LogTrees D → Result (Option ℕ) TreeErr → Type 0
    FlushesTrees = Flushes (λ x p. is_noted_in x.trees.forest p) (λ x p. is_dirty_in x.trees.forest p) (λ x. left_in x.trees.forest) (λ x since. IsSince x.trees.forest since) (λ x lsn. IsMarkIn x.trees.forest lsn) (λ x redo roots. MayEndTrees x.log (trees_of x) redo roots) last_node_of Grew Tried
        (λ x owed. HasRoomFor x.log (commit_sizes owed)) (λ x entries owed. IsFullFor x.log entries owed)

    abbrev pub FinishesTrees : Finish → UnderWay → LogTrees D → LogTrees D → Result Ended TreeErr → Type 0
    FinishesTrees = Finishes (λ x p. is_noted_in x.trees.forest p) (λ x p. is_dirty_in x.trees.forest p) (λ x. left_in x.trees.forest) (λ x since. IsSince x.trees.forest since) (λ x lsn. IsMarkIn x.trees.forest lsn) (λ x redo roots. MayEndTrees x.log (trees_of x) redo roots) last_node_of Grew Tried
        (λ x owed. HasRoomFor x.log (commit_sizes owed)) (λ x entries owed. IsFullFor x.log entries owed)

    -- ---- a beginning

    -- the beginning was logged, and the nodes are noted that are dirty or above a dirty one, and no others
    pub record HasBegun (owed : ℕ) (old new : Environment D) : Type 0 where
      pub grew : Grew old.engine.trees new.engine.trees (start_entry old ∷ [])
      pub room : HasRoomFor new.engine.trees.log (commit_sizes owed)
      pub noted : (p : NodePlace) → is_noted_in new.engine.trees.trees.forest p ≡ is_to_note_in old.engine.trees.trees.forest p
      pub none_before : is_some old.engine.kept.checkpoints.under_way ≡ false
      pub under_way : is_some new.engine.kept.checkpoints.under_way ≡ true
      pub fault : new.engine.kept.fault ≡ old.engine.kept.fault
      pub since : new.engine.kept.since ≡ old.engine.kept.since

    abbrev pub BeginsTo : ℕ → Environment D → Environment D → Result Answer AllocError → Type 0
    BeginsTo owed old new (Ok Done) = HasBegun owed old new
    BeginsTo owed old new (Ok InCheckpoint) = IsIdle true old new
    BeginsTo owed old new (Ok LogFull) = IsFullFor old.engine.trees.log (start_entry old ∷ []) owed × Grew old.engine.trees new.engine.trees [] × (is_some old.engine.kept.checkpoints.under_way ≡ false) × IsStill old new
    BeginsTo owed old new (Ok DiskFault) =
        ((front : List Entry) × IsFront front (start_entry old ∷ []) × Tried old.engine.trees new.engine.trees front) × (is_some old.engine.kept.checkpoints.under_way ≡ false) × HasStopped old new
    BeginsTo owed old new (Err error) = Grew old.engine.trees new.engine.trees [] × IsStill old new
    BeginsTo owed old new result = ⊥

    -- ---- a flush

    -- of the checkpoint under way
    abbrev pub FlushesBy : ℕ → Environment D → Environment D → Result (Option ℕ) TreeErr → Type 0
    FlushesBy owed old new result = (is_some old.engine.kept.checkpoints.under_way ≡ true) × FlushesTrees owed old.engine.trees new.engine.trees result

    abbrev pub FlushesTo : ℕ → Environment D → Environment D → Result Answer AllocError → Type 0
    FlushesTo owed old new (Ok (Flushed node)) = FlushesBy owed old new (Ok (Some node)) × IsStill old new
    FlushesTo owed old new (Ok Nothing) = FlushesBy owed old new (Ok None) × IsStill old new
    FlushesTo owed old new (Ok NoCheckpoint) = IsIdle false old new
    FlushesTo owed old new (Ok LogFull) = FlushesBy owed old new (Err Full) × IsStill old new
    FlushesTo owed old new (Ok DiskFault) = FlushesBy owed old new (Err Fault) × HasStopped old new
    FlushesTo owed old new (Err error) = Grew old.engine.trees new.engine.trees [] × IsStill old new
    FlushesTo owed old new result = ⊥

    -- ---- an end

    -- of the checkpoint under way
    pub record FinishesBy (owed : ℕ) (old new : Environment D) (result : Result Ended TreeErr) : Type 0 where
      pub finish : Finish
      pub checkpoint : UnderWay
      pub is_finish : IsFinishOf old owed finish
      pub is_under_way : old.engine.kept.checkpoints.under_way ≡ Some checkpoint
      pub finishes : FinishesTrees finish checkpoint old.engine.trees new.engine.trees result

    -- The end was logged: from then on a redo may begin at its redo LSN. That is the least of the checkpoint's beginning, the first LSNs of the
    -- transactions under way, and the marks that nodes have; and these are late for each checkpoint that began in this life of the environment.
    pub record HasFinished (owed : ℕ) (old new : Environment D) : Type 0 where
      pub redo : ℕ
      pub by : FinishesBy owed old new (Ok (Logged redo))
      pub late : (es : List Placed) (base start lsn : ℕ) → fitting old.engine.trees es base → has_begun es base start ≡ true → IsMarkIn old.engine.trees.trees.forest lsn → is_late es base start lsn ≡ true
      pub since : new.engine.kept.since ≡ redo
      pub fault : new.engine.kept.fault ≡ old.engine.kept.fault
      pub ended : is_some new.engine.kept.checkpoints.under_way ≡ false

    abbrev pub FinishesTo : ℕ → Environment D → Environment D → Result Answer AllocError → Type 0
    FinishesTo owed old new (Ok Done) = HasFinished owed old new
    FinishesTo owed old new (Ok (NodesLeft count)) = FinishesBy owed old new (Ok (Left count)) × IsStill old new
    FinishesTo owed old new (Ok NoCheckpoint) = IsIdle false old new
    FinishesTo owed old new (Ok LogFull) = FinishesBy owed old new (Err Full) × IsStill old new
    FinishesTo owed old new (Ok DiskFault) = FinishesBy owed old new (Err Fault) × HasStopped old new
    FinishesTo owed old new (Err error) = Grew old.engine.trees new.engine.trees [] × IsStill old new
    FinishesTo owed old new result = ⊥

    -- ---- a step

    -- what a step comes to where no fault came before, with so many Commits owed
    abbrev pub StepsTo : ℕ → Environment D → Environment D → Step → Result Answer AllocError → Type 0
    StepsTo owed old new Begin result = BeginsTo owed old new result
    StepsTo owed old new Flush result = FlushesTo owed old new result
    StepsTo owed old new FinishStep result = FinishesTo owed old new result
    StepsTo owed old new Sync result = (result ≡ Ok Done) × (new ≡ old)

  -- the model may have the step, and the environment is where the model then stands; out of memory left it where it stood
  abbrev pub TurnsTo : ℕ → Bool → State → Environment D → Environment D → Standing → ℕ → Step → Result Answer AllocError → Type 0
  TurnsTo most observable state old new st line step (Ok answer) = HasDone most observable state old new st (Turn line step answer)
  TurnsTo most observable state old new st line step (Err error) = IsAt most observable state new st

  -- the run goes on with the step in its journal; or there was no memory, and it goes on without it
  abbrev pub TurnsSafely : ℕ → Standing → History → History → Environment D → List Event → ℕ → Step → Result Answer AllocError → Type 0
  TurnsSafely most st start history environment journal line step (Ok answer) = IsGuarded most st start history environment (journal ++ Turn line step answer ∷ [])
  TurnsSafely most st start history environment journal line step (Err error) = IsGuarded most st start history environment journal
