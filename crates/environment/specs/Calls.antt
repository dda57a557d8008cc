-- The calls that an environment answers, and the events that they are.
use Rattle.std.specs.Prelude.{ℕ, ◌≡◌, ◌≤◌, ◌<◌, length, List, Some, Result, Ok, Err, IfOk}
use Rattle.std.specs.declared.alloc.AllocError.{AllocError}
use Rattle.je_order.specs.Counts.{HasRisen}
use Rattle.store_model.specs.declared.answer.Answer.TheVariants.{DiskFault}
use Rattle.store_model.specs.declared.call.Call.{Call}
use Rattle.store_model.specs.declared.call.Call.TheVariants.{Create, CreateIndex, Remove, Rename, Truncate, Get, GetBoth, Put, Delete, Count, Cur, CPutCur, CDel, CPut}
use Rattle.store_model.specs.declared.event.Event.{Event}
use Rattle.store_model.specs.declared.event.Event.TheVariants.{Call as Called, Resume}
use Rattle.je_answers.specs.declared.wait.Wait.{Wait}
use Rattle.je_answers.specs.Standing.{Standing, wait_of}
use Rattle.je_answers.specs.Events.{IsReady}
use Rattle.je_answers.specs.After.{after_event}
use Rattle.je_answers.specs.Journal.{IsSettling}
use Rattle.environment.specs.declared.outcome.Outcome.{Outcome}

-- a call that changes the catalog, and one on the records of the database of a name
abbrev pub ChangesCatalog : Call → Type 0
ChangesCatalog (Create db kind) = Unit {0}
ChangesCatalog (CreateIndex db index) = Unit {0}
ChangesCatalog (Remove db) = Unit {0}
ChangesCatalog (Rename db to) = Unit {0}
ChangesCatalog (Truncate db) = Unit {0}
ChangesCatalog call = ⊥

abbrev pub IsOnRecords : List ℕ → Call → Type 0
IsOnRecords name (Get db key rmw) = db ≡ name
IsOnRecords name (GetBoth db key value rmw) = db ≡ name
IsOnRecords name (Put db key value mode) = db ≡ name
IsOnRecords name (Delete db key) = db ≡ name
IsOnRecords name call = ⊥

-- one on records at a cursor
abbrev pub IsAtCursor : ℕ → Call → Type 0
IsAtCursor n (Count cursor) = cursor ≡ n
IsAtCursor n (Cur cursor motion rmw) = cursor ≡ n
IsAtCursor n (CPutCur cursor value) = cursor ≡ n
IsAtCursor n (CDel cursor) = cursor ≡ n
IsAtCursor n (CPut cursor key value mode) = cursor ≡ n
IsAtCursor n call = ⊥

-- a call with what it came to, and a waiting call that was given again
abbrev pub called : ℕ → ℕ → Call → Outcome → Event
called session line call o = Called session line call o.answer o.victims

abbrev pub resumed_by : ℕ → ℕ → Outcome → Event
resumed_by session line o = Resume session line o.answer o.victims

-- the session has a call that waits, which a line gave and which may go on
pub record MayResume (st : Standing) (session line : ℕ) : Type 0 where
  pub wait : Wait
  pub its : wait_of session st.waiting ≡ Some wait
  pub line_is : wait.line ≡ line
  pub ready : IsReady st.fault st wait.txn

-- a call that went on lets the calls that wait come to rest; and so does the end of its session
abbrev pub SettlesBy : Standing → (Outcome → Event) → Event → Result Outcome AllocError → Type 0
SettlesBy st event left (Ok o) = IsSettling o.answer st (after_event st (event o))
SettlesBy st event left (Err error) = length (after_event st left).waiting < length st.waiting

-- the count of the disk's faults never falls, and rose where the answer is a disk fault
pub record HasCause (before after : ℕ) (result : Result Outcome AllocError) : Type 0 where
  pub never_falls : before ≤ after
  pub fault : IfOk result (λ o. o.answer ≡ DiskFault → HasRisen before after)
