-- Waiting for oneself by way of others, and the victims that end it.
use Rattle.std.specs.Prelude.{◌≡◌, Bool, true, false, not, cond, ◌&&◌, List, [], ◌∷◌, ◌<◌, length, map}
use Rattle.std.specs.declared.option.Option.{Option}
use Rattle.std.specs.declared.option.Option.TheVariants.{None, Some}
use Rattle.std.specs.List.{list_all, filter}
use Rattle.std.specs.Prelude.{nat_le}
use Rattle.je_order.specs.declared.txn_id.TxnId.{TxnId}
use Rattle.lock_mode.specs.declared.lock_type.LockType.{LockType}
use Rattle.waits_for.specs.Cycles.{is_in, closes_by, IsFirstCycle}
use Rattle.je_order.specs.Transactions.{is_same_txn}
use Rattle.lock_table.specs.declared.lock.Lock.{Lock}
use Rattle.lock_table.specs.declared.record_id.RecordId.{RecordId}
use Rattle.lock_table.specs.Locks.{is_blocking, after_cancel}
use Rattle.lock_table.specs.Table.{Locks, locks_at, waits_for, IsLockTable}
use Rattle.lock_mgr.specs.declared.requested.Requested.{Requested}
use Rattle.lock_mgr.specs.declared.requested.Requested.TheVariants.{Granted, Waiting, NotAvailable, Victims}

-- x waits for y
abbrev pub waits : Locks → TxnId → TxnId → Bool
waits v x y = is_in y (waits_for x v)

-- the same once this lock was asked for and waits
abbrev pub waits_with : Lock → RecordId → Locks → TxnId → TxnId → Bool
waits_with w at v x y = cond (is_same_txn w.txn x) (is_in y (map (λ o. o.txn) (filter (is_blocking w) (locks_at at v).0))) (waits v x y)

-- nobody waits for himself by way of others, whoever is named twice on the way
abbrev pub HasNoCycle : (TxnId → TxnId → Bool) → Type 0
HasNoCycle R = (list : List TxnId) → closes_by R list ≡ false

-- what holds of the locks after every call: they are a lock table's, and nobody waits for himself by way of others
pub record NoDeadlock (v : Locks) : Type 0 where
  pub sound : IsLockTable v
  pub free : HasNoCycle (waits v)

-- the waits of the others
abbrev pub others : TxnId → (TxnId → TxnId → Bool) → TxnId → TxnId → Bool
others u R x y = not (is_same_txn u x) && R x y

-- the greatest of a list
abbrev pub is_greatest : TxnId → List TxnId → Bool
is_greatest u list = is_in u list && list_all (λ x. nat_le x.0 u.0) list

-- victims of a transaction's wait, one after another: each one's list is the first cycle from the transaction on as the waits then stand, it is the greatest there, and its wait goes; at the end there is no cycle left
abbrev pub AreVictims : TxnId → (TxnId → TxnId → Bool) → List (TxnId × List TxnId) → Type 0
AreVictims t R [] = HasNoCycle R
AreVictims t R (v ∷ vs) = IsFirstCycle R t v.1 × (is_greatest v.0 v.1 ≡ true) × AreVictims t (others v.0 R) vs

-- the owner that an answer names
abbrev pub owner_of : Requested → Option TxnId
owner_of (Granted was) = None
owner_of (Waiting owner) = Some owner
owner_of (NotAvailable owner) = Some owner
owner_of (Victims owner victims) = Some owner

-- an answer that grants says what the transaction held before
abbrev pub SaysWas : Requested → Option LockType → Type 0
SaysWas (Granted was) held = was ≡ held
SaysWas (Waiting owner) held = Unit {0}
SaysWas (NotAvailable owner) held = Unit {0}
SaysWas (Victims owner victims) held = Unit {0}

-- the victims of a request that waited
abbrev pub victims_of : Requested → Option (List (TxnId × List TxnId))
victims_of (Granted was) = None
victims_of (Waiting owner) = Some []
victims_of (NotAvailable owner) = None
victims_of (Victims owner victims) = Some victims

-- victims are named only where there are some
abbrev pub HasSomeVictims : Requested → Type 0
HasSomeVictims (Granted was) = Unit {0}
HasSomeVictims (Waiting owner) = Unit {0}
HasSomeVictims (NotAvailable owner) = Unit {0}
HasSomeVictims (Victims owner victims) = 0 < length victims

-- those whose waits were taken back
abbrev pub taken_back : TxnId → Requested → List TxnId
taken_back t (Granted was) = []
taken_back t (Waiting owner) = []
taken_back t (NotAvailable owner) = t ∷ []
taken_back t (Victims owner victims) = map (λ v. v.0) victims

-- a record's owners and waits, without the waits of these
abbrev pub without_waits : List TxnId → List Lock × List Lock → List Lock × List Lock
without_waits [] q = q
without_waits (u ∷ us) q = without_waits us (after_cancel u q)

-- the waits and the asking transaction settle who the victims are, with which cycles and in which order
abbrev pub VictimsAreSettled : Type 0
VictimsAreSettled = (t : TxnId) (R : TxnId → TxnId → Bool) (victims others_ : List (TxnId × List TxnId)) → AreVictims t R victims → AreVictims t R others_ → victims ≡ others_
