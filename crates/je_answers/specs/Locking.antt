-- Locks as calls take them and give them back (this project's own). The owners and waits of each record are lock_table's lists.
use Rattle.std.specs.Prelude.{ℕ, ◌≡◌, ◌≤◌, ◌==◌, ◌∷◌, [], List, Option, None, Some, Bool, true, false, ◌&&◌, filter, map, cond, if◌then◌else◌, ◌⊎◌}
use Rattle.std.specs.List.{list_any}
use Rattle.std.specs.Option.{option_map_or}
use Rattle.je_order.specs.declared.txn_id.TxnId.{TxnId}
use Rattle.je_order.specs.declared.bound.Bound.{Bound}
use Rattle.waits_for.specs.Cycles.{is_in}
use Rattle.lock_table.specs.declared.lock.Lock.{Lock}
use Rattle.lock_table.specs.declared.record_id.RecordId.{RecordId}
use Rattle.lock_table.specs.Locks.{lock_of, has_lock, is_blocking, is_blocked, blocker, waited_for, after_ask, after_read, after_release}
use Rattle.je_order.specs.Transactions.{is_same_txn}
use Rattle.lock_table.specs.Records.{is_record}
use Rattle.lock_mgr.specs.Deadlock.{without_waits}
use Rattle.store_model.specs.declared.isolation.Isolation.{Isolation}
use Rattle.store_model.specs.declared.isolation.Isolation.TheVariants.{ReadCommitted}
use Rattle.store_model.specs.declared.need.Need.{Need}
use Rattle.store_model.specs.declared.place.Place.{Place}
use Rattle.je_answers.specs.declared.active.Active.{Active}
use Rattle.je_answers.specs.Standing.{LockState, Standing}

-- the owners and the waits of each record
abbrev pub Queues : Type 0
Queues = RecordId → List Lock × List Lock

-- the record that a need is about
abbrev pub record_of : Need → RecordId
record_of n = record { db = n.db; at = n.at }

-- ---- taking

-- after a transaction was granted what it needs
abbrev pub got : TxnId → Need → Queues → Queues
got t n at r = if is_record (record_of n) r then after_ask (lock_of t n.asked) (at r) else at r

-- the locks once a transaction was granted all these needs
abbrev pub all_got : TxnId → List Need → Queues → Queues
all_got t [] at = at
all_got t (n ∷ ns) at = all_got t ns (got t n at)

-- whether another owner is in the way of a need
abbrev pub is_stopped : TxnId → Need → Queues → Bool
is_stopped t n at = is_blocked (at (record_of n)).0 (lock_of t n.asked)

-- the needs up to the first that has another owner in its way, taken one after another; and that one
abbrev pub granted_part : TxnId → List Need → Queues → List Need
granted_part t [] at = []
granted_part t (n ∷ ns) at = if is_stopped t n at then [] else n ∷ granted_part t ns (got t n at)

-- the first need that has another owner in its way, where those before it are granted
abbrev pub first_blocked : TxnId → List Need → Queues → Option Need
first_blocked t [] at = None
first_blocked t (n ∷ ns) at = if is_stopped t n at then Some n else first_blocked t ns (got t n at)

-- the least owner in the way of a need
abbrev pub owner_before : TxnId → Need → Queues → Option TxnId
owner_before t n at = blocker (lock_of t n.asked) (at (record_of n)).0

-- ---- giving back

-- at read committed a transaction's READ locks go when its call is answered
abbrev pub given_back : Isolation → TxnId → Queues → Queues
given_back ReadCommitted t at r = after_read t (at r)
given_back level t at r = at r

-- the same where the calls of several transactions are answered
abbrev pub all_given_back : List Active → Queues → Queues
all_given_back [] at = at
all_given_back (a ∷ as_) at = all_given_back as_ (given_back a.level a.txn at)

-- at a transaction's end all that it has goes
abbrev pub released : TxnId → LockState → LockState
released t locks = record {
  at = λ r. after_release t (locks.at r);
  pending = λ u. if is_same_txn t u then None else locks.pending u;
}

abbrev pub all_released : List TxnId → LockState → LockState
all_released [] locks = locks
all_released (t ∷ ts) locks = all_released ts (released t locks)

-- a wait that was granted is forgotten once its call goes on
abbrev pub forgotten : TxnId → LockState → LockState
forgotten t locks = record {
  at = locks.at;
  pending = λ u. if is_same_txn t u then None else locks.pending u;
}

-- ---- waiting

-- those that a transaction waits for
abbrev pub waits_for_in : LockState → TxnId → List TxnId
waits_for_in locks t = option_map_or (λ r. waited_for t (locks.at r)) (locks.pending t) []

-- x waits for y, once this lock was asked for and waits
abbrev pub waits_in : Lock → RecordId → LockState → TxnId → TxnId → Bool
waits_in w r locks x y = cond (is_same_txn w.txn x) (is_in y (map (λ o. o.txn) (filter (is_blocking w) (locks.at r).0))) (is_in y (waits_for_in locks x))

-- a wait of the transaction was granted
abbrev pub was_granted_in : TxnId → LockState → Bool
was_granted_in t locks = option_map_or (λ r. if has_lock t (locks.at r).1 then false else true) (locks.pending t) false

-- after a need waits, and the waits of the victims are gone
abbrev pub with_wait : TxnId → Need → List TxnId → LockState → LockState
with_wait t n gone locks = record {
  at = λ r. without_waits gone (got t n locks.at r);
  pending = λ u. if is_in u gone then None else if is_same_txn t u then Some (record_of n) else locks.pending u;
}

-- ---- use of a database

-- a transaction has a lock in the database, or its session a cursor on it
abbrev pub HasLockIn : LockState → ℕ → TxnId → Type 0
HasLockIn locks db t = (b : Bound) × (has_lock t (locks.at (record { db = db; at = b })).0 ≡ true)

-- whether a cursor is open on a database
abbrev pub has_cursor_on : ℕ → List Place → Bool
has_cursor_on db places = list_any (λ p. p.db == db) places

-- a transaction's session has a cursor open on a database
pub record HasCursorIn (st : Standing) (db : ℕ) (t : TxnId) : Type 0 where
  pub session : ℕ
  pub its : list_any (λ a. (a.session == session) && is_same_txn a.txn t) st.actives ≡ true
  pub cursor : has_cursor_on db (st.places session) ≡ true

-- a transaction uses a database: it has a lock there, or a cursor on it
abbrev pub Uses : Standing → ℕ → TxnId → Type 0
Uses st db t = HasLockIn st.locks db t ⊎ HasCursorIn st db t

-- the least transaction that uses the database
pub record IsLeastUser (st : Standing) (db : ℕ) (t : TxnId) : Type 0 where
  pub uses : Uses st db t
  pub least : (u : TxnId) → Uses st db u → t.0 ≤ u.0

-- nobody uses the database: no owner, no wait, no cursor
pub record IsUnused (st : Standing) (db : ℕ) : Type 0 where
  pub locks : (b : Bound) → st.locks.at (record { db = db; at = b }) ≡ ([], [])
  pub pending : (t : TxnId) (r : RecordId) → st.locks.pending t ≡ Some r → r.db ≡ db → ⊥
  pub cursors : (session : ℕ) → has_cursor_on db (st.places session) ≡ false

-- nobody uses the database, but a wait there was granted whose call has not gone on yet
pub record IsAwaited (st : Standing) (db : ℕ) (t : TxnId) : Type 0 where
  pub unused : (u : TxnId) → Uses st db u → ⊥
  pub record_ : RecordId
  pub pending : st.locks.pending t ≡ Some record_
  pub there : record_.db ≡ db
