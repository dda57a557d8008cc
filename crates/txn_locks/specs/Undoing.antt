-- What a call got can be given back, the last first, where it cannot be answered after all.
use Rattle.std.specs.Prelude.{◌≡◌, List, [], ◌∷◌, ◌++◌, ◌⊎◌, Option, None, Some, true, false}
use Rattle.std.specs.List.{list_any}
use Rattle.je_order.specs.declared.txn_id.TxnId.{TxnId}
use Rattle.lock_mode.specs.declared.lock_type.LockType.{LockType}
use Rattle.lock_mode.specs.declared.lock_type.LockType.TheVariants.{Read}
use Rattle.lock_table.specs.declared.lock.Lock.{Lock}
use Rattle.lock_table.specs.declared.record_id.RecordId.{RecordId}
use Rattle.lock_table.specs.Locks.{held_by, after_give_back, WasHeld}
use Rattle.lock_table.specs.Records.{is_record}
use Rattle.je_answers.specs.Standing.{LockState}
use Rattle.store_model.specs.declared.need.Need.{Need}
use Rattle.je_answers.specs.Locking.{Queues, record_of}
use Rattle.txn_locks.specs.declared.got.Got.{Got}

-- the record is as it was once the transaction's lock is what it was; where it holds none, the record is as it was already
pub record IsBack (t : TxnId) (was : Option LockType) (old new : List Lock × List Lock) : Type 0 where
  pub back : (h : LockType) → held_by t new.0 ≡ Some h → (after_give_back t was new ≡ old) × WasHeld was h
  pub same : held_by t new.0 ≡ None → new ≡ old

-- one lock that was got, and nothing else
pub record IsOneGot (t : TxnId) (g : Got) (old new : LockState) : Type 0 where
  pub here : IsBack t g.was (old.at g.at) (new.at g.at)
  pub there : (r : RecordId) → is_record g.at r ≡ false → new.at r ≡ old.at r
  pub pending : new.pending ≡ old.pending

-- these locks were got one after another, the last one first in the list
abbrev pub AreGot : TxnId → List Got → LockState → LockState → Type 0
AreGot t [] old new = new ≡ old
AreGot t (g ∷ gs) old new = (mid : LockState) × AreGot t gs old mid × IsOneGot t g mid new

-- a need was granted: its lock was got, and is noted behind the others; or nothing changed
abbrev pub NotesGot : TxnId → Need → List Got → List Got → LockState → LockState → Type 0
NotesGot t n gs more old new = ((g : Got) × (g.at ≡ record_of n) × (more ≡ gs ++ g ∷ []) × IsOneGot t g old new) ⊎ ((more ≡ gs) × (new ≡ old))

-- the transaction has no lock of no more than READ
abbrev pub HasNoRead : TxnId → Queues → Type 0
HasNoRead t at = (r : RecordId) → held_by t (at r).0 ≡ Some Read → ⊥

-- each of the transaction's locks of no more than READ is one of these
abbrev pub AreReadsAmong : TxnId → List Got → Queues → Type 0
AreReadsAmong t gs at = (r : RecordId) → held_by t (at r).0 ≡ Some Read → list_any (λ g. is_record g.at r) gs ≡ true
