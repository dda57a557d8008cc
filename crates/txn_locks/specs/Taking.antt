-- What a call of a transaction does to the locks, one need after another. Which need is stopped and what is then taken are je_answers' definitions.
use Rattle.std.specs.Prelude.{◌≡◌, ℕ, ◌<◌, [], List, Option, None, Some, Bool, true, false, length, map}
use Rattle.std.specs.List.{slice_get, list_all}
use Rattle.je_order.specs.declared.txn_id.TxnId.{TxnId}
use Rattle.lock_mode.specs.declared.lock_type.LockType.{LockType}
use Rattle.lock_mode.specs.declared.lock_type.LockType.TheVariants.{Read}
use Rattle.lock_table.specs.Locks.{lock_of}
use Rattle.lock_table.specs.Table.{Locks, locks_at, pending_at}
use Rattle.lock_mgr.specs.Deadlock.{AreVictims}
use Rattle.lock_mgr.specs.declared.requested.Requested.{Requested}
use Rattle.lock_mgr.specs.declared.requested.Requested.TheVariants.{Granted, Waiting as Blocked, NotAvailable as Refused, Victims as Chosen}
use Rattle.store_model.specs.declared.isolation.Isolation.{Isolation}
use Rattle.store_model.specs.declared.need.Need.{Need}
use Rattle.je_answers.specs.Standing.{LockState}
use Rattle.je_answers.specs.Locking.{record_of, got, all_got, granted_part, first_blocked, owner_before, given_back, waits_in, with_wait}
use Rattle.txn_locks.specs.declared.locked.Locked.{Locked}
use Rattle.txn_locks.specs.declared.locked.Locked.TheVariants.{Ready, Waiting, NotAvailable, Victims}

-- the locks of a manager, as an environment's standing has them
abbrev pub state_of : Locks → LockState
state_of v = record { at = λ r. locks_at r v; pending = λ t. pending_at t v }

-- the locks after a transaction was granted one need, and all of them
abbrev pub with_got : TxnId → Need → LockState → LockState
with_got t n s = record { at = got t n s.at; pending = s.pending }

abbrev pub with_all : TxnId → List Need → LockState → LockState
with_all t needs s = record { at = all_got t needs s.at; pending = s.pending }

-- the locks as the needs before the first one that is stopped leave them
abbrev pub with_granted : TxnId → List Need → LockState → LockState
with_granted t needs s = record { at = all_got t (granted_part t needs s.at) s.at; pending = s.pending }

-- the locks once the call is answered: those go that the level does not keep
abbrev pub when_answered : Isolation → TxnId → LockState → LockState
when_answered level t s = record { at = given_back level t s.at; pending = s.pending }

-- the first need that has another owner in its way, and the least such owner
pub record IsStoppedAt (t : TxnId) (needs : List Need) (s : LockState) (n : Need) (owner : TxnId) : Type 0 where
  pub first : first_blocked t needs s.at ≡ Some n
  pub least : owner_before t n (with_granted t needs s).at ≡ Some owner

-- the call is not to wait for its first need that is stopped
pub record IsNotAvailable (level : Isolation) (t : TxnId) (needs : List Need) (owner : TxnId) (old new : LockState) : Type 0 where
  pub need : Need
  pub stopped : IsStoppedAt t needs old need owner
  pub locks : when_answered level t new ≡ when_answered level t (with_granted t needs old)

-- the call waits for the need at this place of the list, and these are the victims
pub record IsMadeToWait (t : TxnId) (needs : List Need) (place : ℕ) (owner : TxnId) (victims : List (TxnId × List TxnId)) (old new : LockState) : Type 0 where
  pub need : Need
  pub there : slice_get needs place ≡ Some need
  pub stopped : IsStoppedAt t needs old need owner
  pub each : AreVictims t (waits_in (lock_of t need.asked) (record_of need) (with_granted t needs old)) victims
  pub locks : new ≡ with_wait t need (map (λ v. v.0) victims) (with_granted t needs old)

-- what became of a call: it got all that it needs; or it was stopped, and waits if it is to
abbrev pub IsLocked : Locked → Isolation → TxnId → List Need → Bool → LockState → LockState → Type 0
IsLocked Ready level t needs wait old new = (first_blocked t needs old.at ≡ None) × (when_answered level t new ≡ when_answered level t (with_all t needs old))
IsLocked (NotAvailable owner) level t needs wait old new = (wait ≡ false) × IsNotAvailable level t needs owner old new
IsLocked (Waiting at owner) level t needs wait old new = (wait ≡ true) × IsMadeToWait t needs at owner [] old new
IsLocked (Victims at owner victims) level t needs wait old new = (wait ≡ true) × (0 < length victims) × IsMadeToWait t needs at owner victims old new

-- what holds where the call is to be answered now
abbrev pub IfAnswered : Locked → Type 0 → Type 0
IfAnswered Ready P = P
IfAnswered (NotAvailable owner) P = P
IfAnswered (Waiting at owner) P = Unit {0}
IfAnswered (Victims at owner victims) P = Unit {0}

-- READ, and needs of READ alone
abbrev pub is_read : LockType → Bool
is_read Read = true
is_read asked = false

abbrev pub are_reads : List Need → Bool
are_reads needs = list_all (λ n. is_read n.asked) needs

-- ---- inside
-- the call has to wait for its first need that is stopped
pub record HasToWait (t : TxnId) (needs : List Need) (wait : Bool) (s : LockState) : Type 0 where
  pub waits : wait ≡ true
  pub need : Need
  pub owner : TxnId
  pub stopped : IsStoppedAt t needs s need owner

-- what a request says that the transaction held before
abbrev pub was_in : Requested → Option LockType
was_in (Granted was) = was
was_in (Blocked owner) = None
was_in (Refused owner) = None
was_in (Chosen owner victims) = None

-- what a request of one need came to, where it was stopped
abbrev pub stop_of : ℕ → Requested → Option Locked
stop_of place (Granted was) = None
stop_of place (Blocked owner) = Some (Waiting place owner)
stop_of place (Refused owner) = Some (NotAvailable owner)
stop_of place (Chosen owner victims) = Some (Victims place owner victims)

-- a need that is stopped, where no need before it was: what it leaves
abbrev pub IsStop : Locked → TxnId → Need → ℕ → Bool → LockState → LockState → Type 0
IsStop Ready t n place wait old new = ⊥
IsStop (NotAvailable owner) t n place wait old new = (wait ≡ false) × (owner_before t n old.at ≡ Some owner) × (new ≡ old)
IsStop (Waiting at owner) t n place wait old new =
    (wait ≡ true) × (at ≡ place) × (owner_before t n old.at ≡ Some owner) × AreVictims t (waits_in (lock_of t n.asked) (record_of n) old) [] × (new ≡ with_wait t n [] old)
IsStop (Victims at owner victims) t n place wait old new =
    (wait ≡ true) × (at ≡ place) × (0 < length victims) × (owner_before t n old.at ≡ Some owner)
    × AreVictims t (waits_in (lock_of t n.asked) (record_of n) old) victims × (new ≡ with_wait t n (map (λ v. v.0) victims) old)

-- one need: it was granted, or it is stopped
abbrev pub IsTurn : Option Locked → TxnId → Need → ℕ → Bool → LockState → LockState → Type 0
IsTurn None t n place wait old new = (owner_before t n old.at ≡ None) × (new ≡ with_got t n old)
IsTurn (Some locked) t n place wait old new = IsStop locked t n place wait old new

-- the needs of which these are left: what will be stopped and taken is the same as at the beginning
pub record IsTaking (t : TxnId) (needs rest : List Need) (old now : LockState) : Type 0 where
  pub first : first_blocked t rest now.at ≡ first_blocked t needs old.at
  pub granted : all_got t (granted_part t rest now.at) now.at ≡ all_got t (granted_part t needs old.at) old.at
  pub all : all_got t rest now.at ≡ all_got t needs old.at
  pub pending : now.pending ≡ old.pending
