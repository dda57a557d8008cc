-- What a call that nothing refuses early comes to, beside the model.
use Rattle.std.specs.Prelude.{ℕ, ◌≡◌, ◌⊎◌, ◌==◌, ◌++◌, ◌∷◌, [], List, Option, None, Some, Bool, true, false, Result, Ok, Err, OnErr, if◌then◌else◌, map}
use Rattle.std.specs.declared.alloc.AllocError.{AllocError}
use Rattle.std.specs.List.{AllByRecursion}
use Rattle.je_disk.specs.DiskMeaning.{DiskMeaning}
use Rattle.je_disk.specs.Moments.{now}
use Rattle.store_model.specs.declared.answer.Answer.{Answer}
use Rattle.store_model.specs.declared.answer.Fault.TheVariants.{Disk}
use Rattle.store_model.specs.declared.call.Call.{Call}
use Rattle.store_model.specs.declared.change.Change.{Change}
use Rattle.store_model.specs.declared.store.Store.{Store}
use Rattle.store_model.specs.declared.victim.Victim.{Victim}
use Rattle.je_answers.specs.Standing.{Standing, active_of}
use Rattle.je_answers.specs.declared.active.Active.{Active}
use Rattle.je_answers.specs.Refusals.{early_refusal, late_refusal}
use Rattle.je_answers.specs.Events.{IsCallAnswered, IsEvaluated}
use Rattle.je_answers.specs.After.{after_call, after_evaluated, fate_of}
use Rattle.je_answers.specs.Journal.{changes_evaluated, changes_of, is_disk_fault, tried}
use Rattle.je_order.specs.declared.txn_id.TxnId.{TxnId}
use Rattle.log_entry.specs.declared.entry.Entry.{Entry}
use Rattle.log_replay.specs.Logging.{all_row_changes}
use Rattle.record_tree.specs.declared.tree_change.TreeChange.{TreeChange}
use Rattle.record_tree.specs.Logged.{LogsChanges, LogsTransaction}
use Rattle.txn_core.specs.Known.{committed as rows_committed}
use Rattle.txn_core.specs.Planning.{row_by}
use Rattle.engine.specs.declared.engine.Engine.{Engine}
use Rattle.log_file.specs.Log.{Log}
use Rattle.log_buffer.specs.declared.buffer.LogBuffer.{LogBuffer}
use Rattle.log_buffer.specs.Buffer.{IsUnchanged, disk_of as disk_below}
use Rattle.log_buffer.specs.Growth.{Grew, Tried, longer}
use Rattle.log_buffer.specs.Log.{HasLog}
use Rattle.crash_recovery.specs.Recovery.{RecoversLog}
use Rattle.in_tree.specs.Observed.{cells_of, has_tree_of}
use Rattle.engine.specs.Limits.{IsWithin, reach_after}
use Rattle.engine.specs.Steps.{HasStepCause, IsNumbered}
use Rattle.environment.specs.declared.environment.Environment.{Environment}
use Rattle.environment.specs.declared.outcome.Outcome.{Outcome}
use Rattle.environment.specs.Limits.{owing_after, written_evaluated, written_unless}
use Rattle.standing_laws.specs.Right.{AreSound}
use Rattle.environment.specs.Valid.{AreAt, AreBare, fitting}
use Rattle.environment.specs.Whole.{CanGoOn, HasLimit, disk_of, reach_of}
use Rattle.environment.specs.Calls.{HasCause}

-- ---- who may ask

-- a session may make a call: its transaction waits for nothing, and a transaction of one call that is under way has changed nothing
pub record MayCall (st : Standing) (session : ℕ) (resumed : Bool) : Type 0 where
  pub told : (a : Active) → active_of session st.actives ≡ Some a → st.locks.pending a.txn ≡ None
  pub bare : AreBare st
  pub alone : (a : Active) → active_of session st.actives ≡ Some a → AllByRecursion (λ w. (w.session == a.session) ≡ false) st.waiting

-- the changes of a call that was to write some: none, or these
abbrev pub first_changes : List (List Change) → List Change
first_changes [] = []
first_changes (changes ∷ more) = changes

-- entries log changes of a transaction, in order, each behind images of nodes, and its Commit behind them where it commits changes
abbrev pub LogsAndCommits : TxnId → List TreeChange → List (List Change) → List Entry → Type 0
LogsAndCommits txn planned [] entries = LogsChanges txn planned entries
LogsAndCommits txn planned (changes ∷ more) entries = LogsTransaction txn planned entries

-- an answer alone
abbrev pub IsOnly : Result Answer AllocError → Result Outcome AllocError → Type 0
IsOnly (Ok answer) (Ok o) = (o.answer ≡ answer) × (o.victims ≡ [])
IsOnly (Err error) (Err other) = Unit {0}
IsOnly answered result = ⊥

module _ {D : Type 0} where
  -- in the middle of an event too the environment is where the model stands
  abbrev pub StandsAt : ℕ → DiskMeaning D → Environment D → Standing → Type 0
  StandsAt most meaning e st =
      AreAt most meaning.observable (now (meaning.history (disk_below e.engine.trees.log))) e.engine.trees.log (cells_of e.engine.trees) (has_tree_of e.engine.trees) (fitting e.engine.trees) e.engine.kept e.sessions e.written.by_txn.entries st

  module _ (meaning : DiskMeaning D) where
    -- a log that is longer by these entries recovers these transactions more
    abbrev pub RecoversWith : LogBuffer D → List Entry → List (List Change) → Type 0
    RecoversWith old entries more =
        meaning.observable ≡ true → (log : Log) → HasLog meaning.observable (now (meaning.history (disk_below old))) old log → (first : ℕ) (opening : Store) (base : ℕ) (transactions : List (List Change)) →
        RecoversLog first opening base transactions log → RecoversLog first opening base (transactions ++ more) (longer old entries log)

    -- the log got entries with which it recovers these transactions more
    pub record HasGrown (old new : LogBuffer D) (more : List (List Change)) : Type 0 where
      pub entries : List Entry
      pub grew : Grew meaning old new entries
      pub recovers : RecoversWith old entries more

    -- it failed with some with which it recovers them, or none of them
    pub record HasFailedWith (old new : LogBuffer D) (more : List (List Change)) : Type 0 where
      pub front : List Entry
      pub tried : Tried meaning old new front
      pub recovers : RecoversWith old front [] ⊎ RecoversWith old front more

    -- what a call did to the log that was to commit these transactions, and that met a fault or not
    abbrev pub IsLogStep : Bool → LogBuffer D → LogBuffer D → List (List Change) → Type 0
    IsLogStep false old new more = (IsUnchanged old new × (more ≡ [])) ⊎ HasGrown old new more
    IsLogStep true old new more = HasFailedWith old new more

    -- the log got the entries of a call of a transaction: those of the changes of records that make what it wrote, and its Commit, where it committed something
    pub record HasLoggedCall (old : Engine D) (new : LogBuffer D) (wrote more : List (List Change)) (txn : TxnId) : Type 0 where
      pub grown : HasGrown old.trees.log new more
      pub planned : List TreeChange
      pub rows : map (row_by 0) planned ≡ all_row_changes 0 old.kept.last_db (first_changes wrote) (rows_committed (cells_of old.trees))
      pub logs : LogsAndCommits txn planned more grown.entries

    -- What a call did to the log that wrote this and committed that: nothing where it did neither, else it got those entries. With a fault it failed with some
    -- with which it recovers what was to be committed, or none of it.
    abbrev pub IsCallStep : Bool → Engine D → LogBuffer D → List (List Change) → List (List Change) → Type 0
    IsCallStep false old new wrote more = (IsUnchanged old.trees.log new × (more ≡ []) × (wrote ≡ [])) ⊎ ((txn : TxnId) × HasLoggedCall old new wrote more txn)
    IsCallStep true old new wrote more = HasFailedWith old.trees.log new more

    -- What an answered call appended that was to write these changes: by its answer it wrote them, or none. `more` is what it was to commit.
    abbrev pub Appends : Environment D → Environment D → List Change → List (List Change) → Answer → Type 0
    Appends old new written more answer = IsCallStep (is_disk_fault answer) old.engine new.engine.trees.log (tried written (fate_of answer)) more

    -- A step was answered as the model may, for which `owed` Commits are owed: it wrote these changes, was to commit those, and the environment is
    -- where the model then stands.
    pub record HasStepped (most : ℕ) (old new : Environment D) (owed : ℕ) (written committed : List Change) (Answered : Option Answer → Type 0) (after : Standing) (answer : Answer) : Type 0 where
      pub limit : Option Answer
      pub has_limit : HasLimit old owed written limit
      pub answers : Answered limit
      pub here : StandsAt most meaning new after
      pub numbered : IsNumbered answer after.commits
      pub fault : after.fault ≡ (if is_disk_fault answer then Some Disk else None)
      pub logged : Appends old new written (tried committed (fate_of answer)) answer
      pub near : IsWithin (reach_of new) (reach_after (reach_of old) written)

    -- the step of a call that nothing refuses early, and that of a call
    abbrev pub HasCome : ℕ → Environment D → Environment D → Standing → ℕ → ℕ → Call → Answer → List Victim → Type 0
    HasCome most old new st session line call answer victims =
        let late = late_refusal st session call in
        HasStepped most old new (owing_after st session) (written_evaluated late st session call) (changes_evaluated late st session call)
        (λ limit. IsEvaluated late limit st session line call answer victims) (after_evaluated late st session line call answer victims) answer

    abbrev pub HasCalled : ℕ → Environment D → Environment D → Standing → ℕ → ℕ → Call → Answer → List Victim → Type 0
    HasCalled most old new st session line call answer victims =
        let early = early_refusal st session call in
        HasStepped most old new (owing_after st session) (written_unless early st session call) (changes_of early st session call)
        (λ limit. IsCallAnswered early limit st session line call answer victims) (after_call early st session line call answer victims) answer

    -- there was no memory, and all is as it was
    pub record HasNotCome (most : ℕ) (old new : Environment D) (st : Standing) : Type 0 where
      pub here : StandsAt most meaning new st
      pub log : IsUnchanged old.engine.trees.log new.engine.trees.log
      pub near : IsWithin (reach_of new) (reach_of old)

    abbrev pub ComesTo : ℕ → Environment D → Environment D → Standing → ℕ → ℕ → Call → Result Outcome AllocError → Type 0
    ComesTo most old new st session line call (Ok o) = HasCome most old new st session line call o.answer o.victims
    ComesTo most old new st session line call (Err error) = HasNotCome most old new st

    abbrev pub ComesToAnswer : ℕ → Environment D → Environment D → Standing → ℕ → ℕ → Call → Result Answer AllocError → Type 0
    ComesToAnswer most old new st session line call (Ok answer) = HasCome most old new st session line call answer []
    ComesToAnswer most old new st session line call (Err error) = HasNotCome most old new st

    -- A call that nothing refuses early, of a session that may make it: what it comes to wherever the model stands. `resumed` says whether it had waited.
    pub record Performs (old new : Environment D) (session line : ℕ) (call : Call) (resumed : Bool) (result : Result Outcome AllocError) : Type 0 where
      pub comes : (most : ℕ) (st : Standing) → StandsAt most meaning old st → AreSound st → early_refusal st session call ≡ None → MayCall st session resumed
          → ComesTo most old new st session line call result
      pub near : OnErr result (IsWithin (reach_of new) (reach_of old))
      pub bounds : CanGoOn new
      pub cause : HasCause (meaning.faults (disk_of old)) (meaning.faults (disk_of new)) result

    -- the same of a call that has no victims
    pub record PerformsAnswer (old new : Environment D) (session : ℕ) (call : Call) (result : Result Answer AllocError) : Type 0 where
      pub comes : (most : ℕ) (st : Standing) (line : ℕ) → StandsAt most meaning old st → AreSound st → early_refusal st session call ≡ None → ComesToAnswer most old new st session line call result
      pub near : OnErr result (IsWithin (reach_of new) (reach_of old))
      pub bounds : CanGoOn new
      pub cause : HasStepCause (meaning.faults (disk_of old)) (meaning.faults (disk_of new)) result

    abbrev pub CallsTo : ℕ → Environment D → Environment D → Standing → ℕ → ℕ → Call → Result Outcome AllocError → Type 0
    CallsTo most old new st session line call (Ok o) = HasCalled most old new st session line call o.answer o.victims
    CallsTo most old new st session line call (Err error) = HasNotCome most old new st
