-- What events write to the log, and the limits that this meets.
use Rattle.std.specs.Prelude.{ℕ, ◌≡◌, ◌+◌, [], ◌∷◌, List, Option, None, Some, Bool, true, false, not, if◌then◌else◌}
use Rattle.store_model.specs.declared.answer.Answer.{Answer}
use Rattle.store_model.specs.declared.call.Call.{Call}
use Rattle.store_model.specs.declared.call.Call.TheVariants.{Create, CreateIndex, Remove, Rename, Truncate, Get, GetBoth, Put, Delete, Count, Cur, CPutCur, CDel, CPut}
use Rattle.store_model.specs.declared.change.Change.{Change}
use Rattle.store_model.specs.declared.event.Event.{Event}
use Rattle.store_model.specs.declared.event.Event.TheVariants.{Call as Called, Resume, Turn}
use Rattle.store_model.specs.declared.need.Need.{Need}
use Rattle.store_model.specs.declared.step.Step.{Step}
use Rattle.store_model.specs.declared.step.Step.TheVariants.{Begin as BeginStep, Flush, Finish, Sync as SyncStep}
use Rattle.store_model.specs.Evaluation.{evaluation}
use Rattle.je_answers.specs.declared.active.Active.{Active}
use Rattle.je_answers.specs.declared.wait.Wait.{Wait}
use Rattle.je_answers.specs.Standing.{Standing, active_of, wait_of}
use Rattle.je_answers.specs.Views.{Target, target_of, changes_with, with_names, outcome_of, needs_in}
use Rattle.je_answers.specs.Refusals.{early_refusal, late_refusal}
use Rattle.je_answers.specs.Locking.{first_blocked}
use Rattle.je_answers.specs.Events.{auto_active, begun, resumed}
use Rattle.je_answers.specs.After.{after_event}
use Rattle.active_txns.specs.Own.{has_changes}
use Rattle.sessions.specs.AtStanding.{owing}
use Rattle.engine.specs.Limits.{IsBoundedBy, Reach, reach_after}

-- ---- what events write

-- a call on records writes its changes once it has its locks, whether it commits them or not
abbrev pub written_taken : Option Need → Standing → Active → Call → Target → List Change
written_taken None st a call g = with_names (changes_with st a g (outcome_of st a call g).changes)
written_taken (Some n) st a call g = []

-- what a call on records writes, by the database that it is on
abbrev pub written_on : Option Target → Standing → Active → Call → List Change
written_on None st a call = []
written_on (Some g) st a call = written_taken (first_blocked a.txn (needs_in st a call g) st.locks.at) st a call g

-- what a call on records writes, in its session's transaction or in one of its own
abbrev pub written_run : Option Active → Standing → ℕ → Call → List Change
written_run (Some a) st session call = written_on (target_of st session call) st a call
written_run None st session call = written_on (target_of st session call) (begun st session) (auto_active st session) call

-- a commit writes no change: its changes were written as its calls made them
abbrev pub written_performed : Call → Standing → ℕ → List Change
written_performed (Create db kind) st session = (evaluation (Create db kind) st.store).changes
written_performed (CreateIndex db index) st session = (evaluation (CreateIndex db index) st.store).changes
written_performed (Remove db) st session = (evaluation (Remove db) st.store).changes
written_performed (Rename db to) st session = (evaluation (Rename db to) st.store).changes
written_performed (Truncate db) st session = (evaluation (Truncate db) st.store).changes
written_performed (Get db key rmw) st session = written_run (active_of session st.actives) st session (Get db key rmw)
written_performed (GetBoth db key value rmw) st session = written_run (active_of session st.actives) st session (GetBoth db key value rmw)
written_performed (Put db key value mode) st session = written_run (active_of session st.actives) st session (Put db key value mode)
written_performed (Delete db key) st session = written_run (active_of session st.actives) st session (Delete db key)
written_performed (Count cursor) st session = written_run (active_of session st.actives) st session (Count cursor)
written_performed (Cur cursor motion rmw) st session = written_run (active_of session st.actives) st session (Cur cursor motion rmw)
written_performed (CPutCur cursor value) st session = written_run (active_of session st.actives) st session (CPutCur cursor value)
written_performed (CDel cursor) st session = written_run (active_of session st.actives) st session (CDel cursor)
written_performed (CPut cursor key value mode) st session = written_run (active_of session st.actives) st session (CPut cursor key value mode)
written_performed call st session = []

-- what a call writes that has a transaction number; one that was refused writes nothing
abbrev pub written_evaluated : Option Answer → Standing → ℕ → Call → List Change
written_evaluated (Some refusal) st session call = []
written_evaluated None st session call = written_performed call st session

-- what a call writes; one that was refused early writes nothing
abbrev pub written_unless : Option Answer → Standing → ℕ → Call → List Change
written_unless (Some refusal) st session call = []
written_unless None st session call = written_evaluated (late_refusal st session call) st session call

-- what a session's call writes, where the environment stands
abbrev pub written_call : Standing → ℕ → Call → List Change
written_call st session call = written_unless (early_refusal st session call) st session call

-- what a call writes that waited and goes on
abbrev pub written_resumed : Option Wait → Standing → ℕ → List Change
written_resumed None st session = []
written_resumed (Some w) st session = written_call (resumed st w) session w.call

-- the changes that an event writes, where it meets no limit
abbrev pub written_by : Standing → Event → List Change
written_by st (Called session line call answer victims) = written_call st session call
written_by st (Resume session line answer victims) = written_resumed (wait_of session st.waiting) st session
written_by st event = []

-- ---- limits

-- how far a log and its trees may reach behind an event: a step of maintenance logs one entry at most, and allocates no number
abbrev pub reach_behind : Reach → Standing → Event → Reach
reach_behind reach st (Turn line step answer) = record { file = reach.file + 1; node = reach.node }
reach_behind reach st event = reach_after reach (written_by st event)

-- whether a step of maintenance logs nothing: a sync, a beginning where a checkpoint is under way, and any other where none is
abbrev pub appends_nothing : Step → Bool → Bool
appends_nothing BeginStep in_checkpoint = in_checkpoint
appends_nothing Flush in_checkpoint = not in_checkpoint
appends_nothing Finish in_checkpoint = not in_checkpoint
appends_nothing SyncStep in_checkpoint = true

-- an event that is such a step
abbrev pub is_idle_step : Standing → Event → Bool
is_idle_step st (Turn line step answer) = appends_nothing step st.in_checkpoint
is_idle_step st event = false

-- the limit that is met where a log and its trees would reach so far: none for a step that logs nothing
abbrev pub IsBoundedUnless : Bool → Reach → Option Answer → Type 0
IsBoundedUnless true after limit = limit ≡ None
IsBoundedUnless false after limit = IsBoundedBy after limit

-- the limit of an event, where they reach so far before it
abbrev pub IsBoundedAt : Reach → Standing → Event → Option Answer → Type 0
IsBoundedAt reach st event limit = IsBoundedUnless (is_idle_step st event) (reach_behind reach st event) limit

-- the limits of events, one after another, where a log and its trees reach so far before them
abbrev pub AreBounded : Reach → Standing → List Event → List (Option Answer) → Type 0
AreBounded reach st (event ∷ events) (limit ∷ limits) =
    IsBoundedAt reach st event limit × AreBounded (reach_behind reach st event) (after_event st event) events limits
AreBounded reach st events limits = Unit {0}

-- ---- the Commits that are owed

-- how many transactions owe one once a session's call has changed something
abbrev pub owing_with : Option Active → Standing → ℕ
owing_with None st = owing st + 1
owing_with (Some a) st = if has_changes (st.own a.txn.0) then owing st else owing st + 1

abbrev pub owing_after : Standing → ℕ → ℕ
owing_after st session = owing_with (active_of session st.actives) st
