-- What holds of all standings.
use Rattle.std.specs.Prelude.{ℕ, ◌≡◌, ◌==◌, ◌&&◌, ◌<◌, ◌⊎◌, [], List, Option, None, Some, true, false, is_some, length, nat_lt}
use Rattle.std.specs.List.{AllByRecursion}
use Rattle.std.specs.Ordering.{is_eq}
use Rattle.je_order.specs.Order.{name_cmp}
use Rattle.je_order.specs.declared.name.Name.{Name}
use Rattle.store_model.specs.declared.kind.Kind.{Kind}
use Rattle.store_model.specs.declared.call.Call.{Call}
use Rattle.store_model.specs.declared.record_change.RecordChange.{RecordChange}
use Rattle.store_model.specs.declared.answer.Answer.{Answer}
use Rattle.store_model.specs.declared.answer.Fault.{Fault}
use Rattle.store_model.specs.declared.victim.Victim.{Victim}
use Rattle.store_model.specs.declared.event.Event.{Event}
use Rattle.store_model.specs.declared.event.Event.TheVariants.{Resume, End}
use Rattle.store_model.specs.declared.store.TheConstants.{LAST_TXN}
use Rattle.je_answers.specs.declared.wait.Wait.{Wait}
use Rattle.store_model.specs.Needs.{changed_name}
use Rattle.je_answers.specs.declared.active.Active.{Active}
use Rattle.je_answers.specs.Standing.{Standing, active_of, wait_of}
use Rattle.je_answers.specs.Views.{Target, needs_in, outcome_of, changes_with, with_numbers, of_db}
use Rattle.je_answers.specs.Locking.{IsUnused, first_blocked, was_granted_in}
use Rattle.je_answers.specs.Events.{IsAnswered, begun, resumed}
use Rattle.je_answers.specs.After.{after_event}
use Rattle.je_answers.specs.Alone.{Alone, alone}
use Rattle.je_answers.specs.Journal.{IsSettling}
use Rattle.standing_laws.specs.Right.{AreSound, AreRight, IsUnder, HasCursorOn}

-- ---- own changes

-- own changes have none of a name
abbrev pub HasNoneOf : ℕ → Name → List (ℕ × RecordChange) → Type 0
HasNoneOf d x own = AllByRecursion (λ c. ((c.0 == d) && is_eq (name_cmp x (changed_name c.1))) ≡ false) own

-- no other transaction has a change of a name
abbrev pub IsOnlyOf : ℕ → Name → ℕ → (ℕ → List (ℕ × RecordChange)) → Type 0
IsOnlyOf d x txn own = (t : ℕ) → (t ≡ txn → ⊥) → HasNoneOf d x (own t)

-- what a call that got its locks changes, in its database and in the indexes, no other transaction has changed
abbrev pub WritersAreFree : Type 0
WritersAreFree = (st : Standing) (a : Active) (call : Call) (g : Target) → AreSound st → first_blocked a.txn (needs_in st a call g) st.locks.at ≡ None →
    AllByRecursion (λ c. IsOnlyOf c.0 (changed_name c.1) a.txn.0 st.own) (with_numbers (changes_with st a g (outcome_of st a call g).changes))

-- in a database that nobody uses nobody has changes
abbrev pub UnusedHasNoChanges : Type 0
UnusedHasNoChanges = (st : Standing) (db : ℕ) → AreSound st → IsUnused st db → (t : ℕ) → of_db db (st.own t) ≡ []

-- ---- nobody is under way

abbrev pub NoTransactionsIsAlone : Type 0
NoTransactionsIsAlone = (st : Standing) → AreSound st → st.actives ≡ [] → (p : Alone) × (st ≡ alone p)

abbrev pub AloneIsRight : Type 0
AloneIsRight = (p : Alone) → AreRight (alone p)

-- ---- waiting calls come to rest

-- a standing is right, or a fault has come
abbrev pub IsRightOrFaulted : Standing → Type 0
IsRightOrFaulted st = AreRight st ⊎ ((first : Fault) × (st.fault ≡ Some first))

abbrev pub ResumesSettle : Type 0
ResumesSettle = (limit : Option Answer) (st : Standing) (session line : ℕ) (answer : Answer) (victims : List Victim) → IsRightOrFaulted st → IsAnswered limit st (Resume session line answer victims) →
    IsSettling answer st (after_event st (Resume session line answer victims))

abbrev pub EndsSettle : Type 0
EndsSettle = (st : Standing) (session : ℕ) → is_some (wait_of session st.waiting) ≡ true → length (after_event st (End session)).waiting < length st.waiting

-- ---- each event keeps what holds

abbrev pub StandingsStayRight : Type 0
StandingsStayRight = (limit : Option Answer) (st : Standing) (event : Event) → st.fault ≡ None → AreRight st → IsAnswered limit st event → AreRight (after_event st event)

-- a call of its own begins its transaction; a call that waited goes on
abbrev pub BegunIsRight : Type 0
BegunIsRight = (st : Standing) (session : ℕ) → AreRight st → active_of session st.actives ≡ None → nat_lt st.last_txn LAST_TXN ≡ true → AreRight (begun st session)

abbrev pub ResumedIsRight : Type 0
ResumedIsRight = (st : Standing) (w : Wait) → AreRight st → wait_of w.session st.waiting ≡ Some w → was_granted_in w.txn st.locks ≡ true → AreRight (resumed st w)

-- a session whose transaction was told nothing has no call that waits
abbrev pub UntoldHasNoWait : Type 0
UntoldHasNoWait = (st : Standing) (a : Active) → AreRight st → active_of a.session st.actives ≡ Some a → st.locks.pending a.txn ≡ None → AllByRecursion (λ w. (w.session == a.session) ≡ false) st.waiting

-- a transaction of one call has changed nothing between two events
abbrev pub AreBare : Standing → Type 0
AreBare st = AllByRecursion (λ a. a.is_auto ≡ true → st.own a.txn.0 ≡ []) st.actives

abbrev pub StandingsStayBare : Type 0
StandingsStayBare = (limit : Option Answer) (st : Standing) (event : Event) → st.fault ≡ None → AreRight st → AreBare st → IsAnswered limit st event → AreBare (after_event st event)

-- and when a call of its own begins, its transaction has changed nothing
abbrev pub BegunIsBare : Type 0
BegunIsBare = (st : Standing) (session : ℕ) → AreRight st → AreBare st → nat_lt st.last_txn LAST_TXN ≡ true → AreBare (begun st session)

-- ---- cursors

-- a database on which a session has a cursor goes on under its name, with its number and its kind
abbrev pub CursorsKeepDatabases : Type 0
CursorsKeepDatabases = (limit : Option Answer) (st : Standing) (event : Event) (number : ℕ) (name : List ℕ) (kind : Kind) → HasCursorOn st number → IsAnswered limit st event →
    IsUnder st number name kind → IsUnder (after_event st event) number name kind
