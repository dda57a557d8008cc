-- The lock table as two lists: the records with their owners and waits, and where each transaction last began to wait.
use Rattle.std.specs.Prelude.{◌≡◌, ℕ, Bool, true, false, not, List, [], ◌==◌, map, Vec}
use Rattle.std.specs.List.{filter, flat_map, list_any, AllByRecursion}
use Rattle.std.specs.declared.alloc.Global.{Global}
use Rattle.std.specs.declared.option.Option.{Option}
use Rattle.std.specs.declared.option.Option.TheVariants.{None, Some}
use Rattle.std.specs.Option.{option_map_or}
use Rattle.std.specs.Ordering.{nat_cmp, is_eq}
use Rattle.std.specs.Map.{lookup}
use Rattle.std.specs.BTreeMap.{BTreeMap}
use Rattle.std.specs.BTreeSet.{BTreeSet, contains}
use Rattle.je_order.specs.declared.txn_id.TxnId.{TxnId}
use Rattle.je_order.specs.Transactions.{txn_cmp}
use Rattle.lock_mode.specs.declared.lock_type.LockType.{LockType}
use Rattle.lock_table.specs.declared.lock.Lock.{Lock}
use Rattle.lock_table.specs.declared.asked.Asked.{Asked}
use Rattle.lock_table.specs.declared.asked.Asked.TheVariants.{Granted, Blocked}
use Rattle.lock_table.specs.declared.record_id.RecordId.{RecordId}
use Rattle.lock_table.specs.Locks.{is_range, is_read_lock, has_lock, waited_for, least, IsSettled}
use Rattle.lock_table.specs.Records.{is_record, queue_at}

-- the value of a lock table: the records, each with its owners and, in order of arrival, its waits; and for each transaction the record on which it was last told to wait, if it has neither asked, cancelled nor ended since
pub record Locks : Type 0 where
  pub records : List (RecordId × (List Lock × List Lock))
  pub pending : List (TxnId × RecordId)

-- the owners and the waits of a record
abbrev pub locks_at : RecordId → Locks → List Lock × List Lock
locks_at r v = queue_at r v.records

-- what stands at the transaction's number in a list
abbrev pub at_txn : {X : Type 0} → TxnId → List (TxnId × X) → Option X
at_txn t xs = lookup (λ k. is_eq (nat_cmp t.0 k.0)) xs

-- where the transaction was last told to wait
abbrev pub pending_at : TxnId → Locks → Option RecordId
pending_at t v = at_txn t v.pending

-- the transaction has a wait that stands
abbrev pub is_waiting : TxnId → Locks → Bool
is_waiting t v = option_map_or (λ r. has_lock t (locks_at r v).1) (pending_at t v) false

-- a wait of the transaction was granted
abbrev pub was_granted : TxnId → Locks → Bool
was_granted t v = option_map_or (λ r. not (has_lock t (locks_at r v).1)) (pending_at t v) false

-- those that the transaction waits for
abbrev pub waits_for : TxnId → Locks → List TxnId
waits_for t v = option_map_or (λ r. waited_for t (locks_at r v)) (pending_at t v) []

-- who waits for whom, by waiter
abbrev pub wait_pairs : Locks → List (TxnId × TxnId)
wait_pairs v = flat_map (λ e. map (λ u. (e.0, u)) (waited_for e.0 (locks_at e.1 v))) v.pending

-- the least owner of the records of a database
abbrev pub holder_of : ℕ → Locks → Option TxnId
holder_of db v = least (map (λ o. o.txn) (flat_map (λ e. e.1.0) (filter (λ e. e.0.db == db) v.records)))

-- the transaction was last told to wait on a record of the database
pub record IsToldIn (db : ℕ) (t : TxnId) (v : Locks) : Type 0 where
  pub record_ : RecordId
  pub told : pending_at t v ≡ Some record_
  pub there : record_.db ≡ db

-- the transaction owns a lock on a record of the database
pub record OwnsIn (db : ℕ) (t : TxnId) (records : List (RecordId × (List Lock × List Lock))) : Type 0 where
  pub record_ : RecordId
  pub owns : has_lock t (queue_at record_ records).0 ≡ true
  pub there : record_.db ≡ db

-- what holds of every lock table: each record's owners never conflict and none of its waits could be granted; and who waits on a record waits there alone
pub record IsLockTable (v : Locks) : Type 0 where
  pub settled : (r : RecordId) → IsSettled (locks_at r v)
  pub alone : (t : TxnId) (r : RecordId) → has_lock t (locks_at r v).1 ≡ true → pending_at t v ≡ Some r

-- nothing changed
pub record IsSameTable (v w : Locks) : Type 0 where
  pub locks : (r : RecordId) → locks_at r w ≡ locks_at r v
  pub pending : (t : TxnId) → pending_at t w ≡ pending_at t v

-- the owner that an answer names
abbrev pub owner_in : Asked → Option TxnId
owner_in (Granted was) = None
owner_in (Blocked owner) = Some owner

-- an answer that grants says what the transaction held before
abbrev pub SaysHeld : Asked → Option LockType → Type 0
SaysHeld (Granted was) held = was ≡ held
SaysHeld (Blocked owner) held = Unit {0}

-- ---- inside
-- what stands at a database's number in a list
abbrev pub at_db : {X : Type 0} → ℕ → List (ℕ × X) → Option X
at_db d xs = lookup (λ k. is_eq (nat_cmp d k)) xs

-- one transaction's records, by database, have this one
abbrev pub lists_record : List (ℕ × Vec RecordId Global) → RecordId → Bool
lists_record dbs r = option_map_or (λ s. list_any (is_record r) s.items) (at_db r.db dbs) false

-- one of these lists of records has this one
abbrev pub is_in_one : List (ℕ × Vec RecordId Global) → RecordId → Bool
is_in_one dbs r = list_any (λ e. list_any (is_record r) e.1.items) dbs

-- the transaction's records have this one; they may be more than those where it has a lock or a wait, and have a record twice
abbrev pub is_listed : List (TxnId × BTreeMap ℕ (Vec RecordId Global)) → TxnId → RecordId → Bool
is_listed lists t r = option_map_or (λ m. lists_record m.entries r) (at_txn t lists) false

-- the transaction is neither an owner nor waits
abbrev pub IsOut : TxnId → List Lock × List Lock → Type 0
IsOut t q = (has_lock t q.0 ≡ false) × (has_lock t q.1 ≡ false)

-- each record is settled; who waits is told so by `P`; who has a lock or a wait on a record has it listed by `L`
pub record IsSound (Q : RecordId → List Lock × List Lock) (L : TxnId → RecordId → Bool) (P : TxnId → Option RecordId) : Type 0 where
  pub settled : (r : RecordId) → IsSettled (Q r)
  pub waits : (t : TxnId) (r : RecordId) → has_lock t (Q r).1 ≡ true → P t ≡ Some r
  pub listed : (t : TxnId) (r : RecordId) → L t r ≡ false → IsOut t (Q r)

-- the same of what the table keeps
abbrev pub IsTable : List (RecordId × (List Lock × List Lock)) → List (TxnId × BTreeMap ℕ (Vec RecordId Global)) → List (TxnId × RecordId) → Type 0
IsTable records lists pending = IsSound (λ r. queue_at r records) (is_listed lists) (λ t. at_txn t pending)

-- the transaction is in the set
abbrev pub is_among : BTreeSet TxnId → TxnId → Bool
is_among set t = contains txn_cmp set t

-- a lock was asked for in the database
abbrev pub is_used : BTreeSet ℕ → ℕ → Bool
is_used set db = contains nat_cmp set db

-- a record of another database than these has neither owner nor wait
abbrev pub AreUsed : (ℕ → Bool) → (RecordId → List Lock × List Lock) → Type 0
AreUsed used Q = (r : RecordId) → used r.db ≡ false → Q r ≡ ([], [])

-- a lock of a range type is one of these transactions'
abbrev pub IsRangeOf : (TxnId → Bool) → Lock → Type 0
IsRangeOf S l = is_range l.mode ≡ true → S l.txn ≡ true

-- each lock and wait of a range type on a record is one of these transactions'
pub record AreRangesOf (S : TxnId → Bool) (q : List Lock × List Lock) : Type 0 where
  pub owners : AllByRecursion (IsRangeOf S) q.0
  pub waits : AllByRecursion (IsRangeOf S) q.1

-- what is noted of a transaction leaves it a lock of this type: it has asked for one, and for READ it is noted that it may have one
abbrev pub may_have : Option Bool → LockType → Bool
may_have None m = false
may_have (Some true) m = true
may_have (Some false) m = not (is_read_lock m)

-- what is noted leaves the transaction this lock
abbrev pub IsReadNoted : (TxnId → Option Bool) → Lock → Type 0
IsReadNoted R l = may_have (R l.txn) l.mode ≡ true

-- what is noted leaves each transaction its lock and its wait on a record
pub record AreReadsNoted (R : TxnId → Option Bool) (q : List Lock × List Lock) : Type 0 where
  pub owners : AllByRecursion (IsReadNoted R) q.0
  pub waits : AllByRecursion (IsReadNoted R) q.1
