-- What a journal of events answers, has committed and acknowledges (Getting Started with Transaction Processing).
use Rattle.std.specs.Prelude.{ℕ, ◌≡◌, ◌<◌, ◌⊎◌, ◌==◌, ◌||◌, ◌++◌, ◌∷◌, [], List, Option, None, Some, Bool, true, false, IsTrue, find, filter, length, max, if◌then◌else◌}
use Rattle.std.specs.Option.{is_some, option_map}
use Rattle.std.specs.List.{list_any, flat_map}
use Rattle.store_model.specs.declared.durability.Durability.{Durability}
use Rattle.store_model.specs.declared.durability.Durability.TheVariants.{Sync, WriteNoSync}
use Rattle.store_model.specs.declared.call.Call.{Call}
use Rattle.store_model.specs.declared.call.Call.TheVariants.{Commit, Create, CreateIndex, Remove, Rename, Truncate, Get, GetBoth, Put, Delete, Count, Cur, CPutCur, CDel, CPut}
use Rattle.store_model.specs.declared.change.Change.{Change}
use Rattle.store_model.specs.declared.need.Need.{Need}
use Rattle.store_model.specs.declared.answer.Answer.{Answer}
use Rattle.store_model.specs.declared.answer.Answer.TheVariants.{Done, Logged, Durable, DiskFault}
use Rattle.store_model.specs.declared.event.Event.{Event}
use Rattle.store_model.specs.declared.event.Event.TheVariants.{Call as Called, Resume, End, WriteOut, SyncBegin, SyncEnd, Turn}
use Rattle.store_model.specs.declared.plan.ScriptLine.{ScriptLine}
use Rattle.store_model.specs.declared.plan.ScriptLine.TheVariants.{Session, Maintenance}
use Rattle.store_model.specs.Evaluation.{evaluation}
pub use Rattle.store_model.specs.Journal.{answer_of, answers_some, is_logged, is_disk_fault, acknowledges}
use Rattle.je_answers.specs.declared.active.Active.{Active}
use Rattle.je_answers.specs.declared.wait.Wait.{Wait}
use Rattle.je_answers.specs.Standing.{Standing, active_of, wait_of}
use Rattle.je_answers.specs.Views.{Target, target_of, changes_with, with_names, changes_named, outcome_of, needs_in}
use Rattle.je_answers.specs.Refusals.{early_refusal, late_refusal}
use Rattle.je_answers.specs.Locking.{first_blocked, was_granted_in}
use Rattle.je_answers.specs.Events.{auto_active, begun, resumed}
use Rattle.je_answers.specs.After.{Fate, fate_of, after_event}
use Rattle.je_answers.specs.After.Fate.{Succeeds, IsRefused, Faults}

-- ---- answers and lines

-- whether an answer of a kind stands in the journal
abbrev pub has_answer : (Answer → Bool) → List Event → Bool
has_answer test journal = list_any (answers_some test) journal

-- the line of a script that an event was given by, if any; a step that no line gave has the line 0
abbrev pub line_of : Event → List ScriptLine
line_of (Called session line call answer victims) = Session session line call ∷ []
line_of (Turn line step answer) = if line == 0 then [] else Maintenance line step ∷ []
line_of event = []

-- the lines that a journal holds, in order
abbrev pub lines_of : List Event → List ScriptLine
lines_of journal = flat_map line_of journal

-- ---- what a call is to commit

-- a call on records commits its changes where it is a transaction of its own, and gets its locks
abbrev pub changes_closed : Bool → List Change → List Change
changes_closed true changes = changes
changes_closed false changes = []

-- what a call on records commits, by the first lock that it did not get, if there is one
abbrev pub changes_taken : Option Need → Standing → Active → Call → Target → List Change
changes_taken None st a call g = changes_closed a.is_auto (with_names (changes_with st a g (outcome_of st a call g).changes))
changes_taken (Some n) st a call g = []

-- what a call on records commits, by the database that it is on
abbrev pub changes_in : Option Target → Standing → Active → Call → List Change
changes_in None st a call = []
changes_in (Some g) st a call = changes_taken (first_blocked a.txn (needs_in st a call g) st.locks.at) st a call g

-- what a call on records commits, in its session's transaction or in one of its own
abbrev pub changes_run : Option Active → Standing → ℕ → Call → List Change
changes_run (Some a) st session call = changes_in (target_of st session call) st a call
changes_run None st session call = changes_in (target_of st session call) (begun st session) (auto_active st session) call

-- a commit commits the own changes of the session's transaction
abbrev pub changes_ended : Option Active → Standing → List Change
changes_ended None st = []
changes_ended (Some a) st = changes_named st (st.own a.txn.0)

-- what a call commits that was not refused
abbrev pub changes_performed : Call → Standing → ℕ → List Change
changes_performed Commit st session = changes_ended (active_of session st.actives) st
changes_performed (Create db kind) st session = (evaluation (Create db kind) st.store).changes
changes_performed (CreateIndex db index) st session = (evaluation (CreateIndex db index) st.store).changes
changes_performed (Remove db) st session = (evaluation (Remove db) st.store).changes
changes_performed (Rename db to) st session = (evaluation (Rename db to) st.store).changes
changes_performed (Truncate db) st session = (evaluation (Truncate db) st.store).changes
changes_performed (Get db key rmw) st session = changes_run (active_of session st.actives) st session (Get db key rmw)
changes_performed (GetBoth db key value rmw) st session = changes_run (active_of session st.actives) st session (GetBoth db key value rmw)
changes_performed (Put db key value mode) st session = changes_run (active_of session st.actives) st session (Put db key value mode)
changes_performed (Delete db key) st session = changes_run (active_of session st.actives) st session (Delete db key)
changes_performed (Count cursor) st session = changes_run (active_of session st.actives) st session (Count cursor)
changes_performed (Cur cursor motion rmw) st session = changes_run (active_of session st.actives) st session (Cur cursor motion rmw)
changes_performed (CPutCur cursor value) st session = changes_run (active_of session st.actives) st session (CPutCur cursor value)
changes_performed (CDel cursor) st session = changes_run (active_of session st.actives) st session (CDel cursor)
changes_performed (CPut cursor key value mode) st session = changes_run (active_of session st.actives) st session (CPut cursor key value mode)
changes_performed call st session = []

-- a refused call commits nothing
abbrev pub changes_evaluated : Option Answer → Standing → ℕ → Call → List Change
changes_evaluated (Some refusal) st session call = []
changes_evaluated None st session call = changes_performed call st session

-- what a call commits; one that was refused early commits nothing
abbrev pub changes_of : Option Answer → Standing → ℕ → Call → List Change
changes_of (Some refusal) st session call = []
changes_of None st session call = changes_evaluated (late_refusal st session call) st session call

-- ---- commits

-- changes that were to be committed, where the answer says that they were; and where it says that, or that the disk failed
abbrev pub logged : List Change → Fate → List (List Change)
logged [] fate = []
logged (change ∷ changes) Succeeds = (change ∷ changes) ∷ []
logged (change ∷ changes) IsRefused = []
logged (change ∷ changes) Faults = []

-- the changes that were committed, or may have been as the disk failed: none, or the list of them
abbrev pub tried : List Change → Fate → List (List Change)
tried [] fate = []
tried (change ∷ changes) Succeeds = (change ∷ changes) ∷ []
tried (change ∷ changes) IsRefused = []
tried (change ∷ changes) Faults = (change ∷ changes) ∷ []

-- the changes of the transaction that an event is to commit; none where it is to commit none
abbrev pub changes_resumed : Option Wait → Standing → ℕ → List Change
changes_resumed None st session = []
changes_resumed (Some w) st session = changes_of (early_refusal (resumed st w) session w.call) (resumed st w) session w.call

-- the changes that an event is to commit
abbrev pub changes_by : Standing → Event → List Change
changes_by st (Called session line call answer victims) = changes_of (early_refusal st session call) st session call
changes_by st (Resume session line answer victims) = changes_resumed (wait_of session st.waiting) st session
changes_by st event = []

-- what became of the changes of an event
abbrev pub answer_by : Event → Fate
answer_by (Called session line call answer victims) = fate_of answer
answer_by (Resume session line answer victims) = fate_of answer
answer_by event = Succeeds

-- the own changes of the transaction that an event commits, and of the one whose commit was itself answered DiskFault
abbrev pub commit_of : Standing → Event → List (List Change)
commit_of st event = logged (changes_by st event) (answer_by event)

-- the commit that an event made, or tried as the disk failed
abbrev pub attempt_of : Standing → Event → List (List Change)
attempt_of st event = tried (changes_by st event) (answer_by event)

-- the commits of a journal that goes on from a standing: each the list of its own changes, in order
abbrev pub commits_of : Standing → List Event → List (List Change)
commits_of st [] = []
commits_of st (event ∷ events) = commit_of st event ++ commits_of (after_event st event) events

-- the attempted commits: the commits, and at the end the one that met a disk fault, if any
abbrev pub attempts_of : Standing → List Event → List (List Change)
attempts_of st [] = []
attempts_of st (event ∷ events) = attempt_of st event ++ attempts_of (after_event st event) events

-- ---- syncs and write-outs

-- how many commits an event says are durable after any crash
abbrev pub durable_by : Event → ℕ
durable_by (SyncEnd (Durable commit)) = commit
durable_by event = 0

-- the synced count: the greatest number that a finished sync said is durable
abbrev pub synced_of : List Event → ℕ
synced_of [] = 0
synced_of (event ∷ events) = max (durable_by event) (synced_of events)

-- what the commits of a session wait for: what its transaction was begun with; a call outside a transaction waits for a sync
abbrev pub durability_of : Option Active → Durability
durability_of None = Sync
durability_of (Some a) = a.durability

-- behind a commit stand its sync's beginning and end, or the disk fault that came in the place of one of them
abbrev pub IsSyncedBy : ℕ → List Event → Type 0
IsSyncedBy commit later =
    (more : List Event) × ((later ≡ SyncBegin Done ∷ SyncEnd (Durable commit) ∷ more) ⊎ (later ≡ SyncBegin Done ∷ SyncEnd DiskFault ∷ more) ⊎ (later ≡ SyncBegin DiskFault ∷ more))

-- behind a commit stands its write-out, or the disk fault that came in its place
abbrev pub IsWrittenOutBy : ℕ → List Event → Type 0
IsWrittenOutBy commit later = (more : List Event) × ((later ≡ WriteOut (Durable commit) ∷ more) ⊎ (later ≡ WriteOut DiskFault ∷ more))

-- Behind a commit that was logged stands what its durability asks for: its write-out, or its sync. One that waits for nothing is not answered so.
abbrev pub IsFollowed : Durability → ℕ → List Event → Type 0
IsFollowed WriteNoSync commit later = IsWrittenOutBy commit later
IsFollowed durability commit later = IsSyncedBy commit later

-- where an event is a commit, what its durability asks for follows it at once
abbrev pub IsSyncedAtOnce : Standing → Event → List Event → Type 0
IsSyncedAtOnce st (Called session line call (Logged commit) victims) later = IsFollowed (durability_of (active_of session st.actives)) commit later
IsSyncedAtOnce st (Resume session line (Logged commit) victims) later = IsFollowed (durability_of (active_of session st.actives)) commit later
IsSyncedAtOnce st event later = Unit {0}

-- each commit is followed at once by what its durability asks for
abbrev pub AreSyncedAtOnce : Standing → List Event → Type 0
AreSyncedAtOnce st [] = Unit {0}
AreSyncedAtOnce st (event ∷ events) = IsSyncedAtOnce st event events × AreSyncedAtOnce (after_event st event) events

-- ---- the order of lines and of calls that go on

-- whether a waiting call may go on: its wait was granted, or a fault has come
abbrev pub is_ready : Standing → Wait → Bool
is_ready st w = is_some st.fault || was_granted_in w.txn st.locks

-- the first call that may go on, in the order in which the calls began to wait
abbrev pub first_ready : Standing → Option Wait
first_ready st = find (is_ready st) st.waiting

-- this session's call is the first that may go on
abbrev pub IsFirstReady : Standing → ℕ → Type 0
IsFirstReady st session = option_map (λ w. w.session) (first_ready st) ≡ Some session

-- how many calls may go on
abbrev pub ready_in : Standing → ℕ
ready_in st = length (filter (is_ready st) st.waiting)

-- A call that went on was answered, and fewer calls wait; or it waits again, as many do, and fewer of them may go on. This comes only so often in turn.
abbrev pub IsSettling : Answer → Standing → Standing → Type 0
IsSettling answer old new =
    (length new.waiting < length old.waiting)
    ⊎ ((is_logged answer ≡ false) × (length new.waiting ≡ length old.waiting) × (ready_in new < ready_in old))

-- A line is given only where no call may go on, and of the calls that may go on the first does. A session ends where none may go on, or in place of the
-- first that may.
abbrev pub IsInOrder : Standing → Event → Type 0
IsInOrder st (Called session line call answer victims) = first_ready st ≡ None
IsInOrder st (Resume session line answer victims) = IsFirstReady st session
IsInOrder st (End session) = (first_ready st ≡ None) ⊎ IsFirstReady st session
IsInOrder st event = Unit {0}

-- waiting calls go on in the order in which they began to wait, and before the next line is given
abbrev pub AreResumedInOrder : Standing → List Event → Type 0
AreResumedInOrder st [] = Unit {0}
AreResumedInOrder st (event ∷ events) = IsInOrder st event × AreResumedInOrder (after_event st event) events

-- ---- acknowledgements

-- where an event is a commit that waits, a later one acknowledges it
abbrev pub ComesLater : Standing → Event → List Event → Type 0
ComesLater st (Called session line call (Logged commit) victims) later = IsTrue (list_any (acknowledges (durability_of (active_of session st.actives)) commit) later)
ComesLater st (Resume session line (Logged commit) victims) later = IsTrue (list_any (acknowledges (durability_of (active_of session st.actives)) commit) later)
ComesLater st event later = Unit {0}

-- each commit that is answered Logged is acknowledged later in the journal
abbrev pub AllAcknowledged : Standing → List Event → Type 0
AllAcknowledged st [] = Unit {0}
AllAcknowledged st (event ∷ events) = ComesLater st event events × AllAcknowledged (after_event st event) events
