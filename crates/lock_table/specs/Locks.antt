-- The owners and the waits of one record, as two lists.
use Rattle.std.specs.Prelude.{◌≡◌, Bool, true, false, cond, not, ◌&&◌, nat_le, List, [], ◌∷◌, ◌++◌, map}
use Rattle.std.specs.declared.option.Option.{Option}
use Rattle.std.specs.declared.option.Option.TheVariants.{None, Some}
use Rattle.std.specs.List.{list_any, filter, find, AllByRecursion}
use Rattle.std.specs.Option.{option_map, option_map_or}
use Rattle.je_order.specs.declared.txn_id.TxnId.{TxnId}
use Rattle.lock_mode.specs.declared.lock_type.LockType.{LockType}
use Rattle.lock_mode.specs.declared.lock_type.LockType.TheVariants.{Read, Write, RangeRead, RangeWrite, RangeInsert}
use Rattle.lock_mode.specs.Modes.{conflicts_with, upgraded, can_be_held}
use Rattle.lock_table.specs.declared.lock.Lock.{Lock}
use Rattle.je_order.specs.Transactions.{is_same_txn}

-- a transaction and a type as a lock
abbrev pub lock_of : TxnId → LockType → Lock
lock_of t m = record { txn = t; mode = m }

-- a type for writing
abbrev pub is_write : LockType → Bool
is_write Read = false
is_write Write = true
is_write RangeRead = false
is_write RangeWrite = true
is_write RangeInsert = false

-- a type that locks the gap before the record too
abbrev pub is_range : LockType → Bool
is_range Read = false
is_range Write = false
is_range RangeRead = true
is_range RangeWrite = true
is_range RangeInsert = false

-- READ, and no more
abbrev pub is_read_lock : LockType → Bool
is_read_lock Read = true
is_read_lock Write = false
is_read_lock RangeRead = false
is_read_lock RangeWrite = false
is_read_lock RangeInsert = false

-- the first owner that holds a type for writing; owners never conflict, so there is one at most
abbrev pub writer_in : List Lock → Option TxnId
writer_in os = option_map (λ o. o.txn) (find (λ o. is_write o.mode) os)

-- the lock is this transaction's
abbrev pub is_of : TxnId → Lock → Bool
is_of t l = is_same_txn t l.txn

-- the transaction has a lock in the list
abbrev pub has_lock : TxnId → List Lock → Bool
has_lock t ls = list_any (is_of t) ls

-- the list without the transaction's locks
abbrev pub without_txn : TxnId → List Lock → List Lock
without_txn t ls = filter (λ l. not (is_of t l)) ls

-- the type that the transaction holds
abbrev pub held_by : TxnId → List Lock → Option LockType
held_by t os = option_map (λ o. o.mode) (find (is_of t) os)

-- a request conflicts with an owner: it is another transaction, and its type conflicts
abbrev pub is_blocking : Lock → Lock → Bool
is_blocking w o = not (is_same_txn w.txn o.txn) && conflicts_with o.mode w.mode

-- a request conflicts with an owner of the list
abbrev pub is_blocked : List Lock → Lock → Bool
is_blocked os w = list_any (is_blocking w) os

-- the lesser of two transactions, where there are two
abbrev pub lesser : Option TxnId → Option TxnId → Option TxnId
lesser None b = b
lesser (Some x) None = Some x
lesser (Some x) (Some y) = cond (nat_le x.0 y.0) (Some x) (Some y)

-- the least of a list of transactions
abbrev pub least : List TxnId → Option TxnId
least [] = None
least (x ∷ xs) = lesser (Some x) (least xs)

-- the least owner that a request conflicts with
abbrev pub blocker : Lock → List Lock → Option TxnId
blocker w os = least (map (λ o. o.txn) (filter (is_blocking w) os))

-- those that the transaction waits for on a record: the owners that its wait there conflicts with
abbrev pub waited_for : TxnId → List Lock × List Lock → List TxnId
waited_for t q = option_map_or (λ w. map (λ o. o.txn) (filter (is_blocking w) q.0)) (find (is_of t) q.1) []

-- an owner's lock, upgraded by a request of the same transaction
abbrev pub upgraded_by : Lock → Lock → Lock
upgraded_by w o = cond (is_of w.txn o) (record { txn = o.txn; mode = upgraded o.mode w.mode }) o

-- the owners once a request is granted: its transaction's lock is upgraded, or it is a new owner; a type that is never held changes nothing
abbrev pub with_lock : Lock → List Lock → List Lock
with_lock w os = cond (can_be_held w.mode) (cond (has_lock w.txn os) (map (upgraded_by w) os) (os ++ w ∷ [])) os

-- a wait that stays
abbrev pub waits_still : Lock → List Lock × List Lock → List Lock × List Lock
waits_still w q = (q.0, w ∷ q.1)

-- the owners and the waits after each wait in its order was granted where it conflicts with no other owner
abbrev pub granted : List Lock → List Lock → List Lock × List Lock
granted os [] = (os, [])
granted os (w ∷ ws) = cond (is_blocked os w) (waits_still w (granted os ws)) (granted (with_lock w os) ws)

-- after a request: it waits exactly where it conflicts with another owner
abbrev pub after_ask : Lock → List Lock × List Lock → List Lock × List Lock
after_ask w q = cond (is_blocked q.0 w) (q.0, q.1 ++ w ∷ []) (with_lock w q.0, q.1)

-- after the transaction's wait was taken back
abbrev pub after_cancel : TxnId → List Lock × List Lock → List Lock × List Lock
after_cancel t q = (q.0, without_txn t q.1)

-- after the transaction's lock and wait went
abbrev pub after_release : TxnId → List Lock × List Lock → List Lock × List Lock
after_release t q = granted (without_txn t q.0) (without_txn t q.1)

-- an owner's lock, set to this type if it is the transaction's
abbrev pub set_by : TxnId → LockType → Lock → Lock
set_by t m o = cond (is_of t o) (record { txn = o.txn; mode = m }) o

-- the transaction's lock is this type again, or none
abbrev pub with_type : TxnId → Option LockType → List Lock → List Lock
with_type t None os = without_txn t os
with_type t (Some m) os = map (set_by t m) os

-- after the transaction gave back what it asked for since it held this type
abbrev pub after_give_back : TxnId → Option LockType → List Lock × List Lock → List Lock × List Lock
after_give_back t was q = granted (with_type t was q.0) q.1

-- a lock of no more than READ is given back
abbrev pub read_given_back : TxnId → Option LockType → List Lock × List Lock → List Lock × List Lock
read_given_back t (Some Read) q = after_give_back t None q
read_given_back t held q = q

-- after the transaction gave its lock back, if it held no more than READ
abbrev pub after_read : TxnId → List Lock × List Lock → List Lock × List Lock
after_read t q = read_given_back t (held_by t q.0) q

-- what a transaction may have held before it came to hold this type: nothing, or a type from which it was upgraded
abbrev pub WasHeld : Option LockType → LockType → Type 0
WasHeld None held = Unit {0}
WasHeld (Some was) held = (can_be_held was ≡ true) × (upgraded was held ≡ held)

-- each transaction stands once
abbrev pub AreApart : List Lock → Type 0
AreApart [] = Unit {0}
AreApart (l ∷ ls) = (has_lock l.txn ls ≡ false) × AreApart ls

-- owners that never conflict, each of a type that can be held, one a transaction
pub record AreOwners (os : List Lock) : Type 0 where
  pub agree : AllByRecursion (λ o. is_blocked os o ≡ false) os
  pub held : AllByRecursion (λ o. can_be_held o.mode ≡ true) os
  pub apart : AreApart os

-- the owners never conflict, and each wait conflicts with another owner, so that none is left that could be granted
pub record IsSettled (q : List Lock × List Lock) : Type 0 where
  pub owners : AreOwners q.0
  pub waits : AllByRecursion (λ w. is_blocked q.0 w ≡ true) q.1
  pub apart : AreApart q.1
