-- An environment as one value. Users speak of it by these alone; what it is made of may change below them.
use Rattle.std.specs.Prelude.{ℕ, ◌≡◌, ◌<◌, ◌^◌, ◌+◌, ◌++◌, ◌∷◌, [], List, Option, None, Some, Bool, Result, Ok, Err, true, false, length, map, if◌then◌else◌}
use Rattle.std.specs.declared.alloc.AllocError.{AllocError}
use Rattle.je_disk.specs.States.{Files, State, synced_crash_states}
use Rattle.je_disk.specs.Moments.{History, now}
use Rattle.store_model.specs.declared.answer.Answer.{Answer}
use Rattle.store_model.specs.declared.answer.Answer.TheVariants.{Done, DiskFault}
use Rattle.store_model.specs.declared.change.Change.{Change}
use Rattle.store_model.specs.declared.event.Event.{Event}
use Rattle.store_model.specs.declared.event.Event.TheVariants.{SyncBegin, SyncEnd}
use Rattle.store_model.specs.declared.store.Store.{Store}
use Rattle.store_model.specs.Refusals.{made_by}
use Rattle.je_answers.specs.Standing.{Standing}
use Rattle.je_answers.specs.Events.{IsAnswered, IsSyncBegun, IsSyncEnded}
use Rattle.je_answers.specs.After.{after_event}
use Rattle.log_file.specs.Log.{Log, entries_of}
use Rattle.log_replay.specs.Logging.{all_row_changes}
use Rattle.record_tree.specs.Logged.{is_made}
use Rattle.record_tree.specs.declared.tree_change.TreeChange.{TreeChange}
use Rattle.in_tree.specs.declared.logged_trees.LogTrees.{LogTrees}
use Rattle.in_tree.specs.Observed.{cells_of, has_tree_of, limit_filling_in, limit_in, waits_of}
use Rattle.record_tree.specs.declared.tree_err.TreeErr.{TreeErr}
use Rattle.log_buffer.specs.Buffer.{end_of, has_failed}
use Rattle.txn_core.specs.Known.{committed}
use Rattle.txn_core.specs.Planning.{makes_index, row_by}
use Rattle.engine.specs.Guarded.{IsGuardedLog}
use Rattle.engine.specs.Limits.{IsWithin, Reach, limit_by}
use Rattle.engine.specs.Opening.{StartsAt, reach_in}
use Rattle.engine.specs.Whole.{CanGoOn as EngineCanGoOn, disk_of as disk_below}
use Rattle.sessions.specs.declared.all_sessions.Sessions.{Sessions}
use Rattle.serial_replay.specs.Reached.{IsReached}
use Rattle.standing_laws.specs.Right.{AreRight}
use Rattle.environment.specs.Valid.{AreAt, AreBare, owed_by, fitting}
use Rattle.environment.specs.declared.environment.Environment.{Environment}
use Rattle.environment.specs.declared.outcome.Outcome.{Outcome}
use Rattle.environment.specs.Limits.{IsBoundedAt}

module _ {D : Type 0} where
  -- the disk below
  abbrev pub disk_of : Environment D → D
  disk_of environment = disk_below environment.engine

  -- the environment, whose files have at most so many bytes, is where the model stands, to which a journal has led, so that each index is right
  pub record IsAt (most : ℕ) (observable : Bool) (state : State) (environment : Environment D) (st : Standing) : Type 0 where
    pub at : AreAt most observable state environment.engine.trees.log (cells_of environment.engine.trees) (has_tree_of environment.engine.trees) (fitting environment.engine.trees) environment.engine.kept environment.sessions
        environment.written.by_txn.entries st
    pub right : st.fault ≡ None → AreRight st
    pub bare : st.fault ≡ None → AreBare st
    pub reached : IsReached st

  -- the numbers leave room for another step
  abbrev pub CanGoOn : Environment D → Type 0
  CanGoOn environment = EngineCanGoOn environment.engine

  -- a run under way whose disk was safe at each moment of it, with this journal so far
  abbrev pub IsGuarded : ℕ → Standing → History → History → Environment D → List Event → Type 0
  IsGuarded most st start history environment journal = (log : Log) × IsGuardedLog st log start history environment.engine.trees.log journal

  -- the file in which the log ends, were the image of each node that waits in a file of its own, and each Commit that is owed; a log that failed
  -- grows no more, and reaches none
  abbrev pub end_file : LogTrees D → Sessions → ℕ
  end_file trees sessions = if has_failed trees.log then 0 else (end_of trees.log).file + waits_of trees + owed_by sessions

  -- how far its log and its trees reach
  abbrev pub reach_of : Environment D → Reach
  reach_of environment = record { file = end_file environment.engine.trees environment.sessions; node = environment.engine.kept.last_node }

  -- the limit that the trees find for changes; `fills` says whether these make an index and fill it
  abbrev pub limit_found : Bool → LogTrees D → List TreeChange → ℕ → Option TreeErr
  limit_found fills trees planned owed = if fills then limit_filling_in trees planned owed else limit_in trees planned owed

  -- the limit that it has for changes, with so many Commits owed behind them: none where there are none; else the one that the changes of records
  -- meet that log them, and make trees for new databases alone
  pub record IsLimitFor (environment : Environment D) (owed : ℕ) (changes : List Change) (limit : Option Answer) : Type 0 where
    pub planned : List TreeChange
    pub rows : map (row_by 0) planned ≡ all_row_changes 0 environment.engine.kept.last_db changes (committed (cells_of environment.engine.trees))
    pub makes : environment.engine.kept.last_db + made_by changes < 2 ^ 32 → (d : ℕ) → is_made d planned ≡ true → environment.engine.kept.last_db < d
    pub is : limit ≡ limit_by (limit_found (makes_index changes) environment.engine.trees planned owed) environment.engine.kept.last_node (length planned)

  abbrev pub HasLimit : Environment D → ℕ → List Change → Option Answer → Type 0
  HasLimit environment owed [] limit = limit ≡ None
  HasLimit environment owed (change ∷ changes) limit = IsLimitFor environment owed (change ∷ changes) limit

  -- an event took place that the model may have, and the environment is where the model then stands
  pub record HasDone (most : ℕ) (observable : Bool) (state : State) (old new : Environment D) (st : Standing) (event : Event) : Type 0 where
    pub limit : Option Answer
    pub bounded : IsBoundedAt (reach_of old) st event limit
    pub answered : IsAnswered limit st event
    pub here : IsAt most observable state new (after_event st event)

  -- a call came to an event; out of memory left the environment where the model stands at `left`
  abbrev pub GoesOn : ℕ → Bool → State → Environment D → Environment D → Standing → (Outcome → Event) → Standing → Result Outcome AllocError → Type 0
  GoesOn most observable state old new st event left (Ok o) = HasDone most observable state old new st (event o)
  GoesOn most observable state old new st event left (Err error) = IsAt most observable state new left

  -- the run goes on with that event in its journal; or there was no memory, and it goes on with the journal `left`
  abbrev pub GoesOnSafely : ℕ → Standing → History → History → Environment D → List Event → (Outcome → Event) → List Event → Result Outcome AllocError → Type 0
  GoesOnSafely most st start history environment journal event left (Ok o) = IsGuarded most st start history environment (journal ++ event o ∷ [])
  GoesOnSafely most st start history environment journal event left (Err error) = IsGuarded most st start history environment left

  -- a sync began, or the disk failed
  abbrev pub BeginsSync : ℕ → Bool → State → Environment D → Standing → Answer → Type 0
  BeginsSync most observable state environment st answer = IsSyncBegun None answer × IsAt most observable state environment (after_event st (SyncBegin answer))

  -- a sync began, of all that was logged, or the disk failed
  abbrev pub BeginsSafely : ℕ → Standing → History → History → Environment D → List Event → Bool → Type 0
  BeginsSafely most st start history environment journal true = IsGuarded most st start history environment (journal ++ SyncBegin Done ∷ [])
  BeginsSafely most st start history environment journal false = IsGuarded most st start history environment (journal ++ SyncBegin DiskFault ∷ [])

  -- a sync made durable the commits as it began, or the disk failed
  abbrev pub EndsSync : ℕ → Bool → State → Environment D → Standing → Answer → Type 0
  EndsSync most observable state environment st answer = IsSyncEnded None st.begun answer × IsAt most observable state environment (after_event st (SyncEnd answer))

  -- an environment was opened: the model starts from what the files mean, and the log goes on in the last of them
  pub record IsOpenedAt (most : ℕ) (observable : Bool) (files : Files) (state : State) (environment : Environment D) (opening : Store) (st : Standing) : Type 0 where
    pub starts : StartsAt observable files opening st
    pub here : IsAt most observable state environment st
    pub reach : IsWithin (reach_of environment) (reach_in starts.held starts.meaning)

  abbrev pub IsOpened : ℕ → Bool → Files → State → Environment D → Store → Type 0
  IsOpened most observable files state environment opening = (st : Standing) × IsOpenedAt most observable files state environment opening st

  -- it was opened: all is stable, and the disk is safe
  pub record IsOpenedSafely (most : ℕ) (files : Files) (opening : Store) (history : History) (environment : Environment D) : Type 0 where
    pub st : Standing
    pub starts : StartsAt true files opening st
    pub here : IsAt most true (now history) environment st
    pub reach : IsWithin (reach_of environment) (reach_in starts.held starts.meaning)
    pub stable : (now history).crash_states ≡ synced_crash_states (now history).reads
    pub guarded : IsGuarded most st history history environment []
