-- What each event may answer. Each question is a function by cases on one value, and what follows takes the next one: the refusals, the call,
-- whose transaction it is, the first lock that it does not get, what it changes, what limits the log. After cuts the standings alike.
use Rattle.std.specs.Prelude.{ℕ, ◌+◌, ◌≡◌, ◌⊎◌, ◌++◌, ◌∷◌, [], List, Option, None, Some, Bool, true, false, map, find, nat_lt, if◌then◌else◌}
use Rattle.std.specs.Option.{option_map}
use Rattle.je_order.specs.declared.txn_id.TxnId.{TxnId}
use Rattle.lock_table.specs.Locks.{lock_of}
use Rattle.je_order.specs.Transactions.{is_same_txn}
use Rattle.lock_mgr.specs.Deadlock.{AreVictims}
use Rattle.store_model.specs.declared.store.TheConstants.{LAST_DATABASE}
use Rattle.store_model.specs.declared.durability.Durability.{Durability}
use Rattle.store_model.specs.declared.durability.Durability.TheVariants.{Sync, WriteNoSync, NoSync}
use Rattle.store_model.specs.declared.isolation.Isolation.TheVariants.{RepeatableRead}
use Rattle.store_model.specs.declared.call.Call.{Call}
use Rattle.store_model.specs.declared.call.Call.TheVariants.{Begin, Commit, Abort, List as Lists, Create, CreateIndex, Remove, Rename, Truncate, Open, Close, Dup}
use Rattle.store_model.specs.declared.change.Change.{Change}
use Rattle.store_model.specs.declared.record_change.RecordChange.{RecordChange}
use Rattle.store_model.specs.declared.need.Need.{Need}
use Rattle.store_model.specs.declared.victim.Victim.{Victim}
use Rattle.store_model.specs.declared.lock_target.LockTarget.{LockTarget}
use Rattle.store_model.specs.declared.step.Step.{Step}
use Rattle.store_model.specs.declared.step.Step.TheVariants.{Begin as BeginStep, Flush, Finish, Sync as SyncStep}
use Rattle.store_model.specs.declared.answer.Fault.{Fault}
use Rattle.store_model.specs.declared.answer.Answer.{Answer}
use Rattle.store_model.specs.declared.answer.Answer.TheVariants.{Done, Txn, Logged, Durable, Waiting, NotAvailable, Deadlock, DatabaseInUse, Flushed, Nothing, InCheckpoint, NoCheckpoint, NodesLeft, LogFull, IdsEnded, DiskFault, Invalid}
use Rattle.store_model.specs.declared.event.Event.{Event}
use Rattle.store_model.specs.declared.event.Event.TheVariants.{Call as Called, Resume, End, WriteOut, SyncBegin, SyncEnd, Turn}
use Rattle.store_model.specs.Records.{Evaluated}
use Rattle.store_model.specs.Evaluation.{Outcome, evaluation}
use Rattle.store_model.specs.Refusals.{or_refusal, made_by, next_txn}
use Rattle.je_answers.specs.declared.active.Active.{Active}
use Rattle.je_answers.specs.declared.wait.Wait.{Wait}
use Rattle.je_answers.specs.Standing.{LockState, Standing, active_of, wait_of, without_wait}
use Rattle.je_answers.specs.Views.{Target, target_of, changes_named, outcome_of, needs_in, database_among}
use Rattle.je_answers.specs.Refusals.{early_refusal, late_refusal}
use Rattle.je_answers.specs.Locking.{Queues, record_of, granted_part, all_got, first_blocked, owner_before, forgotten, waits_in, was_granted_in, IsLeastUser, IsUnused, IsAwaited}

-- ---- limits

-- the limit that the log has for the entries of an event: it has no room for them, or the number of a node or a level that they need is past the last one
abbrev pub no_room : Option Answer → Option Answer
no_room (Some LogFull) = Some LogFull
no_room limit = None

-- the limit, if it is that numbers have ended
abbrev pub no_numbers : Option Answer → Option Answer
no_numbers (Some IdsEnded) = Some IdsEnded
no_numbers limit = None

-- the limit of the log, if there is one: it is full, or numbers have ended
abbrev pub log_limit : Option Answer → Option Answer
log_limit limit = or_refusal (no_room limit) (no_numbers limit)

-- a database number that changes allocate is past the last one
abbrev pub database_limit : ℕ → List Change → Option Answer
database_limit last changes = if nat_lt LAST_DATABASE (last + made_by changes) then Some IdsEnded else None

-- the first limit that changes of the catalog meet
abbrev pub catalog_limit : Option Answer → Standing → List Change → Option Answer
catalog_limit limit st changes = or_refusal (no_room limit) (or_refusal (database_limit st.last_db changes) (no_numbers limit))

-- what is logged answers this, unless it meets a limit; a disk fault may come in its place, and the count of the disk's faults then rose
abbrev pub IsLogged : Option Answer → Answer → Answer → Type 0
IsLogged (Some limit) due answer = answer ≡ limit
IsLogged None due answer = (answer ≡ due) ⊎ (answer ≡ DiskFault)

-- ---- a call on records

-- the transaction of a call outside one: repeatable read, synced, waiting
abbrev pub auto_active : Standing → ℕ → Active
auto_active st session = record {
  txn = record { 0 = next_txn st.last_txn };
  session = session;
  level = RepeatableRead;
  durability = Sync;
  waits = true;
  is_auto = true;
  deadlock = None;
}

-- such a transaction begins with its call
abbrev pub begun : Standing → ℕ → Standing
begun st session = record st { actives = st.actives ++ auto_active st session ∷ []; last_txn = next_txn st.last_txn }

-- a transaction of its own is committed by its call
abbrev pub due : Standing → Active → Evaluated → Answer
due st a evaluated = if a.is_auto then Logged (st.commits + 1) else evaluated.answer

-- a call that got its locks: one that changes nothing answers at once, one that changes something logs it
abbrev pub IsDone : List RecordChange → Option Answer → Standing → Active → Evaluated → Answer → Type 0
IsDone [] limit st a evaluated answer = answer ≡ evaluated.answer
IsDone (change ∷ changes) limit st a evaluated answer = IsLogged (log_limit limit) (due st a evaluated) answer

-- the wait of a call
abbrev pub asking : Active → ℕ → Call → Wait
asking a line call = record { session = a.session; line = line; call = call; txn = a.txn }

-- a victim as it is told: the session and the line of its waiting call, and its cycle
abbrev pub told_by : Option Wait → List TxnId → Victim
told_by None cycle = record { session = 0; line = 0; cycle = cycle }
told_by (Some w) cycle = record { session = w.session; line = w.line; cycle = cycle }

-- a victim of these numbers as it is told, by its call that waits
abbrev pub told_in : List Wait → TxnId × List TxnId → Victim
told_in waiting v = told_by (find (λ w. is_same_txn v.0 w.txn) waiting) v.1

-- the cycle of a victim
abbrev pub cycle_of : TxnId → List (TxnId × List TxnId) → Option (List TxnId)
cycle_of t victims = option_map (λ v. v.1) (find (λ v. is_same_txn t v.0) victims)

-- what is waited for
abbrev pub lock_target : Target → Need → LockTarget
lock_target g n = let d = database_among g n.db in record { db = d.name; kind = d.kind; at = n.at }

-- a call that waits, or was a victim
abbrev pub waiting_answer : Option (List TxnId) → LockTarget → TxnId → Answer
waiting_answer None at owner = Waiting at owner
waiting_answer (Some cycle) at owner = Deadlock cycle

-- the queues as a call leaves them that is stopped
abbrev pub queues_before : Standing → Active → Call → Target → Queues
queues_before st a call g = all_got a.txn (granted_part a.txn (needs_in st a call g) st.locks.at) st.locks.at

-- the locks as a call leaves them that did not get one
abbrev pub locks_before : Standing → Active → Call → Target → LockState
locks_before st a call g = record { at = queues_before st a call g; pending = st.locks.pending }

-- a call that did not get a lock: it is not available, or the call waits; of each cycle that its wait closes, the first one first, the greatest transaction is a victim
abbrev pub IsWaiting : Bool → Standing → Active → ℕ → Call → Target → Need → TxnId → Answer → List Victim → Type 0
IsWaiting false st a line call g n owner answer victims = (answer ≡ NotAvailable owner) × (victims ≡ [])
IsWaiting true st a line call g n owner answer victims =
    (found : List (TxnId × List TxnId))
    × AreVictims a.txn (waits_in (lock_of a.txn n.asked) (record_of n) (locks_before st a call g)) found
    × (victims ≡ map (told_in (st.waiting ++ asking a line call ∷ [])) found)
    × (answer ≡ waiting_answer (cycle_of a.txn found) (lock_target g n) owner)

-- the answer of a call that did not get a lock, by who is in its way
abbrev pub IsStopped : Option TxnId → Standing → Active → ℕ → Call → Target → Need → Answer → List Victim → Type 0
IsStopped None st a line call g n answer victims = ⊥
IsStopped (Some owner) st a line call g n answer victims = IsWaiting a.waits st a line call g n owner answer victims

-- the answer of a call on records, by the first lock that it did not get, if there is one
abbrev pub IsTaken : Option Need → Option Answer → Standing → Active → ℕ → Call → Target → Answer → List Victim → Type 0
IsTaken None limit st a line call g answer victims =
    let evaluated = outcome_of st a call g in
    IsDone evaluated.changes limit st a evaluated answer × (victims ≡ [])
IsTaken (Some n) limit st a line call g answer victims = IsStopped (owner_before a.txn n (queues_before st a call g)) st a line call g n answer victims

-- the answer of a call on records, by the database that it is on
abbrev pub IsOn : Option Target → Option Answer → Standing → Active → ℕ → Call → Answer → List Victim → Type 0
IsOn None limit st a line call answer victims = ⊥
IsOn (Some g) limit st a line call answer victims = IsTaken (first_blocked a.txn (needs_in st a call g) st.locks.at) limit st a line call g answer victims

-- whose transaction it is
abbrev pub IsRun : Option Active → Option Answer → Standing → ℕ → ℕ → Call → Answer → List Victim → Type 0
IsRun (Some a) limit st session line call answer victims = IsOn (target_of st session call) limit st a line call answer victims
IsRun None limit st session line call answer victims = IsOn (target_of st session call) limit (begun st session) (auto_active st session) line call answer victims

-- ---- the other calls

-- a commit: without changes it is done at once; with changes it waits for what its durability asks for
abbrev pub commit_answer : Durability → ℕ → Answer
commit_answer Sync commits = Logged (commits + 1)
commit_answer WriteNoSync commits = Logged (commits + 1)
commit_answer NoSync commits = Done

-- the answer of a commit: done at once without changes, else as its durability asks, or a disk fault
abbrev pub IsCommitted : List Change → Standing → Active → Answer → Type 0
IsCommitted [] st a answer = answer ≡ Done
IsCommitted (change ∷ changes) st a answer = (answer ≡ commit_answer a.durability st.commits) ⊎ (answer ≡ DiskFault)

-- the answer of a commit of the session's transaction
abbrev pub IsEnded : Option Active → Standing → Answer → Type 0
IsEnded None st answer = ⊥
IsEnded (Some a) st answer = IsCommitted (changes_named st (st.own a.txn.0)) st a answer

-- a change of the catalog, which is a transaction of its own
abbrev pub AreChanged : List Change → Outcome → Option Answer → Standing → Answer → Type 0
AreChanged [] outcome limit st answer = answer ≡ outcome.answer
AreChanged (change ∷ changes) outcome limit st answer = IsLogged (catalog_limit limit st (change ∷ changes)) (Logged (st.commits + 1)) answer

-- the answer of a change of the catalog, which is a transaction of its own
abbrev pub IsChanged : Outcome → Option Answer → Standing → Answer → Type 0
IsChanged outcome limit st answer = AreChanged outcome.changes outcome limit st answer

-- one of a database that is there, or of an index of it: it may be in use
abbrev pub IsExclusive : ℕ → Outcome → Option Answer → Standing → Answer → Type 0
IsExclusive db outcome limit st answer =
    (IsUnused st db × IsChanged outcome limit st answer)
    ⊎ ((t : TxnId) × IsLeastUser st db t × (answer ≡ DatabaseInUse t))
    ⊎ ((t : TxnId) × IsAwaited st db t × (answer ≡ DatabaseInUse t))

-- ---- a call

-- the answer of a call that was not refused, by what call it is
abbrev pub IsPerformed : Call → Option Answer → Standing → ℕ → ℕ → Answer → List Victim → Type 0
IsPerformed (Begin level durability wait) limit st session line answer victims = (answer ≡ Txn (record { 0 = next_txn st.last_txn })) × (victims ≡ [])
IsPerformed Commit limit st session line answer victims = IsEnded (active_of session st.actives) st answer × (victims ≡ [])
IsPerformed Abort limit st session line answer victims = (answer ≡ Done) × (victims ≡ [])
IsPerformed (CreateIndex db index) limit st session line answer victims =
    IsExclusive (st.numbers index.primary) (evaluation (CreateIndex db index) st.store) limit st answer × (victims ≡ [])
IsPerformed Lists limit st session line answer victims = (answer ≡ (evaluation Lists st.store).answer) × (victims ≡ [])
IsPerformed (Create db kind) limit st session line answer victims = IsChanged (evaluation (Create db kind) st.store) limit st answer × (victims ≡ [])
IsPerformed (Remove db) limit st session line answer victims = IsExclusive (st.numbers db) (evaluation (Remove db) st.store) limit st answer × (victims ≡ [])
IsPerformed (Rename db to) limit st session line answer victims = IsExclusive (st.numbers db) (evaluation (Rename db to) st.store) limit st answer × (victims ≡ [])
IsPerformed (Truncate db) limit st session line answer victims = IsExclusive (st.numbers db) (evaluation (Truncate db) st.store) limit st answer × (victims ≡ [])
IsPerformed (Open cursor db) limit st session line answer victims = (answer ≡ Done) × (victims ≡ [])
IsPerformed (Close cursor) limit st session line answer victims = (answer ≡ Done) × (victims ≡ [])
IsPerformed (Dup cursor to) limit st session line answer victims = (answer ≡ Done) × (victims ≡ [])
IsPerformed call limit st session line answer victims = IsRun (active_of session st.actives) limit st session line call answer victims

-- the answer of a call with a transaction number: the late refusal, if there is one
abbrev pub IsEvaluated : Option Answer → Option Answer → Standing → ℕ → ℕ → Call → Answer → List Victim → Type 0
IsEvaluated (Some refusal) limit st session line call answer victims = (answer ≡ refusal) × (victims ≡ [])
IsEvaluated None limit st session line call answer victims = IsPerformed call limit st session line answer victims

-- the answer of a call: the early refusal, if there is one
abbrev pub IsCallAnswered : Option Answer → Option Answer → Standing → ℕ → ℕ → Call → Answer → List Victim → Type 0
IsCallAnswered (Some refusal) limit st session line call answer victims = (answer ≡ refusal) × (victims ≡ [])
IsCallAnswered None limit st session line call answer victims = IsEvaluated (late_refusal st session call) limit st session line call answer victims

-- ---- the other events

-- a waiting call goes on: its wait is gone, and forgotten by the locks
abbrev pub resumed : Standing → Wait → Standing
resumed st w = record st { waiting = without_wait w.session st.waiting; locks = forgotten w.txn st.locks }

-- it may go on where its wait was granted, or where a fault has come
abbrev pub IsReady : Option Fault → Standing → TxnId → Type 0
IsReady None st t = was_granted_in t st.locks ≡ true
IsReady (Some first) st t = Unit {0}

-- the answer of a call that waited and goes on, which only one may that is ready
abbrev pub IsResumed : Option Wait → Option Answer → Standing → ℕ → ℕ → Answer → List Victim → Type 0
IsResumed None limit st session line answer victims = ⊥
IsResumed (Some w) limit st session line answer victims =
    (line ≡ w.line) × IsReady st.fault st w.txn
    × IsCallAnswered (early_refusal (resumed st w) session w.call) limit (resumed st w) session line w.call answer victims

-- the log is written out
abbrev pub IsWrittenOut : Option Fault → ℕ → Answer → Type 0
IsWrittenOut None commits answer = (answer ≡ Durable commits) ⊎ (answer ≡ DiskFault)
IsWrittenOut (Some first) commits answer = answer ≡ Invalid first

-- a sync begins, or fails before it does
abbrev pub IsSyncBegun : Option Fault → Answer → Type 0
IsSyncBegun None answer = (answer ≡ Done) ⊎ (answer ≡ DiskFault)
IsSyncBegun (Some first) answer = answer ≡ Invalid first

-- a sync that is under way covers the commits before its beginning, or fails
abbrev pub Covers : Option ℕ → Answer → Type 0
Covers None answer = ⊥
Covers (Some commits) answer = (answer ≡ Durable commits) ⊎ (answer ≡ DiskFault)

-- the answer of a sync's end: it covers the commits before its beginning, or the disk failed; behind a fault it is invalid
abbrev pub IsSyncEnded : Option Fault → Option ℕ → Answer → Type 0
IsSyncEnded None begun answer = Covers begun answer
IsSyncEnded (Some first) begun answer = answer ≡ Invalid first

-- a step of maintenance; which node is logged and how many are left is the checkpointer's to say
abbrev pub IsFlushed : Answer → Type 0
IsFlushed answer = ((node : ℕ) × (answer ≡ Flushed node)) ⊎ (answer ≡ Nothing) ⊎ (answer ≡ DiskFault)

-- the answer of `finish` where a checkpoint is under way
abbrev pub IsFinished : Answer → Type 0
IsFinished answer = ((count : ℕ) × (answer ≡ NodesLeft count)) ⊎ (answer ≡ Done) ⊎ (answer ≡ DiskFault)

-- the answer of a step that meets no limit
abbrev pub IsStepped : Step → Bool → Answer → Type 0
IsStepped BeginStep true answer = answer ≡ InCheckpoint
IsStepped BeginStep false answer = (answer ≡ Done) ⊎ (answer ≡ DiskFault)
IsStepped Flush false answer = answer ≡ NoCheckpoint
IsStepped Flush true answer = IsFlushed answer
IsStepped Finish false answer = answer ≡ NoCheckpoint
IsStepped Finish true answer = IsFinished answer
IsStepped SyncStep in_checkpoint answer = answer ≡ Done

-- the answer of a step: the limit that it meets, if it meets one
abbrev pub IsLimited : Option Answer → Step → Bool → Answer → Type 0
IsLimited (Some limit) step in_checkpoint answer = answer ≡ limit
IsLimited None step in_checkpoint answer = IsStepped step in_checkpoint answer

-- the answer of a step; behind a fault it is invalid
abbrev pub IsTurned : Option Fault → Option Answer → Step → Bool → Answer → Type 0
IsTurned None limit step in_checkpoint answer = IsLimited (log_limit limit) step in_checkpoint answer
IsTurned (Some first) limit step in_checkpoint answer = answer ≡ Invalid first

-- an event answers what it may; the limit is the log's for it, if it has one
abbrev pub IsAnswered : Option Answer → Standing → Event → Type 0
IsAnswered limit st (Called session line call answer victims) = IsCallAnswered (early_refusal st session call) limit st session line call answer victims
IsAnswered limit st (Resume session line answer victims) = IsResumed (wait_of session st.waiting) limit st session line answer victims
IsAnswered limit st (End session) = Unit {0}
IsAnswered limit st (WriteOut answer) = IsWrittenOut st.fault st.commits answer
IsAnswered limit st (SyncBegin answer) = IsSyncBegun st.fault answer
IsAnswered limit st (SyncEnd answer) = IsSyncEnded st.fault st.begun answer
IsAnswered limit st (Turn line step answer) = IsTurned st.fault limit step st.in_checkpoint answer
