-- What the sessions of an environment are, where it stands so.
use Rattle.std.specs.Prelude.{ℕ, ◌≡◌, ◌++◌, ◌∷◌, [], List, Option, None, Some, true, not, ◌==◌, filter, length, if◌then◌else◌}
use Rattle.std.specs.Option.{is_some}
use Rattle.lock_table.specs.declared.record_id.RecordId.{RecordId}
use Rattle.lock_table.specs.Table.{Locks, was_granted}
use Rattle.je_answers.specs.Locking.{forgotten}
use Rattle.store_model.specs.declared.call.Call.{Call}
use Rattle.store_model.specs.declared.answer.Answer.{Answer}
use Rattle.store_model.specs.declared.answer.Answer.TheVariants.{SessionWaits}
use Rattle.store_model.specs.Refusals.{or_refusal}
use Rattle.je_answers.specs.Refusals.{victim_refusal, txn_refusal}
use Rattle.store_model.specs.declared.answer.Fault.{Fault}
use Rattle.store_model.specs.declared.record_change.RecordChange.{RecordChange}
use Rattle.store_model.specs.declared.store.Store.{Store}
use Rattle.store_model.specs.declared.place.Place.{Place}
use Rattle.je_answers.specs.declared.active.Active.{Active}
use Rattle.je_answers.specs.declared.wait.Wait.{Wait}
use Rattle.je_answers.specs.Standing.{LockState, Standing, with_at}
use Rattle.active_txns.specs.Own.{AreCounted, has_changes}
use Rattle.open_cursors.specs.declared.open_cursors.OpenCursors.{OpenCursors}
use Rattle.open_cursors.specs.Places.{AreCursorsAt, AreUnder}
use Rattle.txn_locks.specs.Taking.{state_of}
use Rattle.sessions.specs.declared.all_sessions.Sessions.{Sessions}

-- the locks are those of the standing, until the disk fails: after that no answer looks at them
abbrev pub AreLocksAt : Option Fault → Locks → LockState → Type 0
AreLocksAt None v state = state_of v ≡ state
AreLocksAt (Some first) v state = Unit {0}

-- the open cursors of each session are these, and the database of each goes by its name in a store
pub record AreCursorsOn (open_ : OpenCursors) (store : Store) (numbers : List ℕ → ℕ) (cursors : ℕ → List Place) : Type 0 where
  pub at : AreCursorsAt open_ cursors
  pub under : AreUnder store numbers open_

-- the sessions have these transactions, as many own changes of each, these cursors, waits and locks, and a store has the databases of the cursors
pub record HaveParts (s : Sessions) (fault : Option Fault) (store : Store) (numbers : List ℕ → ℕ) (as_ : List Active) (changes : ℕ → List (ℕ × RecordChange)) (cursors : ℕ → List Place) (ws : List Wait) (state : LockState) : Type 0 where
  pub actives : s.txns.actives.items ≡ as_
  pub own : AreCounted s.txns.own.entries changes
  pub places : AreCursorsOn s.cursors store numbers cursors
  pub waiting : s.waiting.items ≡ ws
  pub locks : AreLocksAt fault s.locks.locks state

-- the sessions stand where the environment stands
abbrev pub AreSessionsAt : Sessions → Standing → Type 0
AreSessionsAt s st = HaveParts s st.fault st.store st.numbers st.actives st.own st.places st.waiting st.locks

-- a standing with one transaction more
abbrev pub with_active : Active → Standing → Standing
with_active a st = record st { actives = st.actives ++ a ∷ [] }

-- a standing in which a transaction has more own changes
abbrev pub with_own : ℕ → List (ℕ × RecordChange) → Standing → Standing
with_own n more st = record st { own = with_at n (st.own n ++ more) st.own }

-- a standing in which a session has other cursors
abbrev pub with_places : ℕ → List Place → Standing → Standing
with_places session others st = record st { places = with_at session others st.places }

-- a standing without the waiting call of a session
abbrev pub without_call : ℕ → Standing → Standing
without_call session st = record st { waiting = filter (λ w. not (w.session == session)) st.waiting }

-- how many transactions under way have own changes: each owes the log a Commit
abbrev pub owing : Standing → ℕ
owing st = length (filter (λ a. has_changes (st.own a.txn.0)) st.actives)

-- ---- inside
-- what refuses a call of a transaction that was last told to wait there
abbrev pub waiting_refusal : Option RecordId → Call → Active → Option Answer
waiting_refusal told call a = or_refusal (if is_some told then Some SessionWaits else None) (or_refusal (victim_refusal call a.deadlock) (txn_refusal call (Some a)))

-- the wait of a call was forgotten by the locks, if it was granted
abbrev pub AreForgotten : Option Wait → Locks → Locks → Type 0
AreForgotten None old new = state_of new ≡ state_of old
AreForgotten (Some w) old new = was_granted w.txn old ≡ true → state_of new ≡ forgotten w.txn (state_of old)
