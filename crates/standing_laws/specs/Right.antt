-- What holds of every standing that a run reaches without a fault.
use Rattle.std.specs.Prelude.{ℕ, ◌≡◌, ◌<◌, ◌≤◌, ◌==◌, ◌∷◌, [], List, Option, None, Some, Bool, true, false}
use Rattle.std.specs.List.{list_any, AllByRecursion}
use Rattle.std.specs.Option.{is_some}
use Rattle.je_order.specs.declared.txn_id.TxnId.{TxnId}
use Rattle.je_order.specs.declared.bound.Bound.TheVariants.{At as On}
use Rattle.je_order.specs.Transactions.{is_same_txn}
use Rattle.lock_mode.specs.declared.lock_type.LockType.{LockType}
use Rattle.lock_table.specs.declared.lock.Lock.{Lock}
use Rattle.lock_table.specs.declared.record_id.RecordId.{RecordId}
use Rattle.lock_table.specs.Locks.{has_lock, held_by, is_write, IsSettled}
use Rattle.store_model.specs.declared.kind.Kind.{Kind}
use Rattle.store_model.specs.declared.place.Place.{Place}
use Rattle.store_model.specs.declared.call.Call.{Call}
use Rattle.store_model.specs.declared.call.Call.TheVariants.{Get, GetBoth, Put, Delete, Count, Cur, CPutCur, CDel, CPut}
use Rattle.store_model.specs.declared.record_change.RecordChange.{RecordChange}
use Rattle.store_model.specs.Needs.{changed_name}
use Rattle.je_answers.specs.declared.active.Active.{Active}
use Rattle.je_answers.specs.declared.wait.Wait.{Wait}
use Rattle.je_answers.specs.Standing.{LockState, Standing, active_of}
use Rattle.je_answers.specs.Locking.{Queues, has_cursor_on}
use Rattle.open_cursors.specs.Under.{IsUnderIn}
use Rattle.active_txns.specs.Marks.{HaveOwnSessions}

-- ---- transactions

-- their numbers rise, and none is past the last one
abbrev pub AreNumbered : ℕ → List Active → Type 0
AreNumbered last [] = Unit {0}
AreNumbered last (a ∷ as_) = (a.txn.0 ≤ last) × AllByRecursion (λ b. a.txn.0 < b.txn.0) as_ × AreNumbered last as_

-- a transaction is one of them
abbrev pub is_active : TxnId → List Active → Bool
is_active t actives = list_any (λ a. is_same_txn t a.txn) actives

-- a transaction of that number
abbrev pub txn_id : ℕ → TxnId
txn_id n = record { 0 = n }

-- ---- waits

-- a transaction has a call that waits
abbrev pub has_wait : TxnId → List Wait → Bool
has_wait t waiting = list_any (λ w. is_same_txn t w.txn) waiting

-- no two of these calls are of one session
abbrev pub HaveOwnWaits : List Wait → Type 0
HaveOwnWaits [] = Unit {0}
HaveOwnWaits (w ∷ ws) = AllByRecursion (λ v. (v.session == w.session) ≡ false) ws × HaveOwnWaits ws

-- a call that waits is of its session's transaction
pub record IsWaitIn (actives : List Active) (w : Wait) : Type 0 where
  pub active : Active
  pub its : active_of w.session actives ≡ Some active
  pub same : active.txn ≡ w.txn

-- each session has one transaction and one wait at most, and who was told to wait has a call that waits
pub record HaveWaits (actives : List Active) (waiting : List Wait) (pending : TxnId → Option RecordId) : Type 0 where
  pub sessions : HaveOwnSessions actives
  pub each : AllByRecursion (IsWaitIn actives) waiting
  pub apart : HaveOwnWaits waiting
  pub told : (t : TxnId) (r : RecordId) → pending t ≡ Some r → has_wait t waiting ≡ true

-- a call that may wait: one on records
abbrev pub MayWait : Call → Type 0
MayWait (Get db key rmw) = Unit {0}
MayWait (GetBoth db key value rmw) = Unit {0}
MayWait (Put db key value mode) = Unit {0}
MayWait (Delete db key) = Unit {0}
MayWait (Count cursor) = Unit {0}
MayWait (Cur cursor motion rmw) = Unit {0}
MayWait (CPutCur cursor value) = Unit {0}
MayWait (CDel cursor) = Unit {0}
MayWait (CPut cursor key value mode) = Unit {0}
MayWait call = ⊥

-- ---- locks

-- each record's owners never conflict and none of its waits could be granted; and who waits on a record was told so
pub record AreTables (locks : LockState) : Type 0 where
  pub settled : (r : RecordId) → IsSettled (locks.at r)
  pub alone : (t : TxnId) (r : RecordId) → has_lock t (locks.at r).1 ≡ true → locks.pending t ≡ Some r

-- the record of a change
abbrev pub place_of : ℕ × RecordChange → RecordId
place_of c = record { db = c.0; at = On (changed_name c.1) }

-- a transaction holds a lock for writing on a record
pub record HasWrite (t : TxnId) (owners : List Lock) : Type 0 where
  pub mode : LockType
  pub held : held_by t owners ≡ Some mode
  pub writes : is_write mode ≡ true

-- and on that of a change
abbrev pub HoldsWrite : Queues → TxnId → ℕ × RecordChange → Type 0
HoldsWrite at t c = HasWrite t (at (place_of c)).0

-- ---- the standing

-- what holds in the middle of a call too: transactions up to this number, with these own changes, cursors, waits and locks; a session has cursors in a
-- transaction alone
pub record IsSoundAt (last : ℕ) (as_ : List Active) (changes : ℕ → List (ℕ × RecordChange)) (cursors : ℕ → List Place) (ws : List Wait) (state : LockState) : Type 0 where
  pub numbers : AreNumbered last as_
  pub waits : HaveWaits as_ ws state.pending
  pub tables : AreTables state
  pub owners : (t : TxnId) (r : RecordId) → has_lock t (state.at r).0 ≡ true → is_active t as_ ≡ true
  pub own_active : (n : ℕ) → is_active (txn_id n) as_ ≡ false → changes n ≡ []
  pub own_locked : (n : ℕ) → AllByRecursion (HoldsWrite state.at (txn_id n)) (changes n)
  pub places : (session : ℕ) → active_of session as_ ≡ None → cursors session ≡ []

abbrev pub AreSound : Standing → Type 0
AreSound st = IsSoundAt st.last_txn st.actives st.own st.places st.waiting st.locks

-- what holds between two events: each call that waits was told so, and is one on records
pub record IsRightAt (last : ℕ) (as_ : List Active) (changes : ℕ → List (ℕ × RecordChange)) (cursors : ℕ → List Place) (ws : List Wait) (state : LockState) : Type 0 where
  pub sound : IsSoundAt last as_ changes cursors ws state
  pub waiting : AllByRecursion (λ w. is_some (state.pending w.txn) ≡ true) ws
  pub calls : AllByRecursion (λ w. MayWait w.call) ws

abbrev pub AreRight : Standing → Type 0
AreRight st = IsRightAt st.last_txn st.actives st.own st.places st.waiting st.locks

-- ---- cursors

-- a database with this number and of this kind goes by a name
abbrev pub IsUnder : Standing → ℕ → List ℕ → Kind → Type 0
IsUnder st number name kind = IsUnderIn st.store st.numbers number name kind

-- a session has a cursor on the database of a number
abbrev pub HasCursorOn : Standing → ℕ → Type 0
HasCursorOn st number = (session : ℕ) × (has_cursor_on number (st.places session) ≡ true)
