-- Where an environment stands between two events.
use Rattle.std.specs.Prelude.{ℕ, ◌+◌, ◌==◌, ◌∷◌, [], List, Option, Bool, not, find, filter, if◌then◌else◌}
use Rattle.je_order.specs.declared.txn_id.TxnId.{TxnId}
use Rattle.store_model.specs.declared.store.Store.{Store}
use Rattle.store_model.specs.declared.store.Database.{Database}
use Rattle.store_model.specs.declared.change.Change.{Change}
use Rattle.store_model.specs.declared.change.Change.TheVariants.{Set, Unset, Make, MakeIndex, Remove, Rename, Empty}
use Rattle.store_model.specs.declared.record_change.RecordChange.{RecordChange}
use Rattle.store_model.specs.declared.place.Place.{Place}
use Rattle.store_model.specs.declared.answer.Fault.{Fault}
use Rattle.je_order.specs.Order.{is_same_bytes}
use Rattle.store_model.specs.Refusals.{made_by}
use Rattle.lock_table.specs.declared.lock.Lock.{Lock}
use Rattle.lock_table.specs.declared.record_id.RecordId.{RecordId}
use Rattle.je_answers.specs.declared.active.Active.{Active}
use Rattle.je_answers.specs.declared.wait.Wait.{Wait}

-- the owners and the waits of each record, and the record on which each transaction was last told to wait, if it has neither asked nor ended since
pub record LockState : Type 0 where
  pub at : RecordId → List Lock × List Lock
  pub pending : TxnId → Option RecordId

-- where an environment stands between two events; what is of a database stands by its number, which no other database ever has
pub record Standing : Type 0 where
  pub store : Store  -- what is committed
  pub numbers : List ℕ → ℕ  -- the number of each database, by its name; 0 where there is none
  pub last_txn : ℕ  -- the transaction number allocated last
  pub last_db : ℕ  -- the database number allocated last
  pub commits : ℕ  -- how many transactions with changes were committed since opening
  pub begun : Option ℕ  -- how many of them when the sync under way began
  pub fault : Option Fault  -- the first fault, after which each call is Invalid
  pub in_checkpoint : Bool  -- whether a checkpoint is under way
  pub actives : List Active  -- the transactions under way, in the order of their numbers
  pub own : ℕ → List (ℕ × RecordChange)  -- the own changes of each of them, in order, with the database's number
  pub places : ℕ → List Place  -- the open cursors of each session
  pub waiting : List Wait  -- the calls that wait, in the order in which they began to
  pub locks : LockState  -- who holds what, and who waits

-- ---- what is found in it

-- a session's transaction, a session's waiting call, the calls without it, a cursor by its number
abbrev pub active_of : ℕ → List Active → Option Active
active_of session actives = find (λ a. a.session == session) actives

-- a session's call that waits
abbrev pub wait_of : ℕ → List Wait → Option Wait
wait_of session waiting = find (λ w. w.session == session) waiting

-- the calls that wait but for a session's
abbrev pub without_wait : ℕ → List Wait → List Wait
without_wait session waiting = filter (λ w. not (w.session == session)) waiting

-- a session's cursor, by its number
abbrev pub place_at : ℕ → List Place → Option Place
place_at cursor places = find (λ p. p.cursor == cursor) places

-- the database of a number
abbrev pub database_at : ℕ → Standing → Option Database
database_at number st = find (λ d. st.numbers d.name == number) st.store.databases

-- a function, with another value at one number
abbrev pub with_at : {X : Type 0} → ℕ → X → (ℕ → X) → ℕ → X
with_at n x f m = if m == n then x else f m

-- ---- databases and their numbers

-- a name has another number
abbrev pub with_number : List ℕ → ℕ → (List ℕ → ℕ) → List ℕ → ℕ
with_number name number numbers other = if is_same_bytes other name then number else numbers other

-- the numbers after a change: a database that is made allocates the next one, and so does one that is emptied
abbrev pub numbered : Change → ℕ → (List ℕ → ℕ) → List ℕ → ℕ
numbered (Set db at value) last numbers = numbers
numbered (Unset db at) last numbers = numbers
numbered (Make db kind) last numbers = with_number db (last + 1) numbers
numbered (MakeIndex db index) last numbers = with_number db (last + 1) numbers
numbered (Remove db) last numbers = with_number db 0 numbers
numbered (Rename db to) last numbers = with_number to (numbers db) (with_number db 0 numbers)
numbered (Empty db) last numbers = with_number db (last + 1) numbers

-- the same after several changes, in order
abbrev pub all_numbered : List Change → ℕ → (List ℕ → ℕ) → List ℕ → ℕ
all_numbered [] last numbers = numbers
all_numbered (change ∷ changes) last numbers = all_numbered changes (last + made_by (change ∷ [])) (numbered change last numbers)
