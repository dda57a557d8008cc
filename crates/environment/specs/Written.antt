-- What transactions under way wrote, beside their own changes.
use Rattle.std.specs.Prelude.{ℕ, ◌≡◌, ◌≢◌, ◌≤◌, ◌<◌, ◌+◌, ◌^◌, [], List, Some, length, vec_capacity, ◌∷◌}
use Rattle.std.specs.List.{AllByRecursion}
use Rattle.std.specs.Option.{option_map_or}
use Rattle.je_order.specs.declared.txn_id.TxnId.{TxnId}
use Rattle.lock_table.specs.Table.{at_txn}
use Rattle.store_model.specs.declared.record_change.RecordChange.{RecordChange}
use Rattle.log_replay.specs.Rows.{Rows}
use Rattle.log_trees.specs.Changes.{LoggedChange}
use Rattle.record_tree.specs.declared.tree_name.TreeName.{TreeName}
use Rattle.standing_laws.specs.Right.{txn_id}
use Rattle.txn_log.specs.Committing.{records_had}
use Rattle.txn_views.specs.Laws.{own_names}
use Rattle.environment.specs.declared.written.OwnNames.{OwnNames}

-- the names that a transaction wrote, in order
abbrev pub names_at : TxnId → List (TxnId × OwnNames) → List TreeName
names_at t entries = option_map_or (λ o. o.names.items) (at_txn t entries) []

-- how many of its changes were of a name that had a record just then
abbrev pub had_at : TxnId → List (TxnId × OwnNames) → ℕ
had_at t entries = option_map_or (λ o. o.had) (at_txn t entries) 0

-- an LSN where there are names; 0 where there are none
abbrev pub first_noted : List TreeName → ℕ → ℕ
first_noted [] first = 0
first_noted (name ∷ names) first = first

-- the LSN of its first change; 0 where it wrote none
abbrev pub first_at : TxnId → List (TxnId × OwnNames) → ℕ
first_at t entries = option_map_or (λ o. first_noted o.names.items o.first) (at_txn t entries) 0

-- the LSN that it had where it had names, else this one
abbrev pub first_for : List TreeName → ℕ → ℕ → ℕ
first_for [] had first = first
first_for (name ∷ names) had first = had

-- the names of each transaction are those of its own changes, and so many of these were of a name that had a record
pub record AreNamesOf (entries : List (TxnId × OwnNames)) (own : ℕ → List (ℕ × RecordChange)) (rows : Rows) : Type 0 where
  pub names : (t : ℕ) → names_at (txn_id t) entries ≡ own_names (own t)
  pub had : (t : ℕ) → had_at (txn_id t) entries ≡ records_had (own t) rows

-- an LSN is that of the first of some changes
abbrev pub IsFirstIn : List LoggedChange → ℕ → Type 0
IsFirstIn [] lsn = ⊥
IsFirstIn (c ∷ changes) lsn = lsn ≡ c.written.at

-- The first LSN of each transaction that wrote names is that of the first change that waits of it. No change that waits was logged before it, and the
-- log ends there or behind it.
pub record AreFirstsOf (entries : List (TxnId × OwnNames)) (logged : ℕ → List LoggedChange) (end : ℕ) : Type 0 where
  pub is : (t : ℕ) → names_at (txn_id t) entries ≢ [] → IsFirstIn (logged t) (first_at (txn_id t) entries)
  pub before : (t : ℕ) → AllByRecursion (λ c. first_at (txn_id t) entries ≤ c.written.at) (logged t)
  pub reached : (t : ℕ) → first_at (txn_id t) entries ≤ end

-- no names, with room for so many
pub record IsRoomFor (own : OwnNames) (count : ℕ) : Type 0 where
  pub none : own.names.items ≡ []
  pub had : own.had ≡ 0
  pub room : length own.names.items + count ≤ vec_capacity own.names

-- a transaction has room for so many names more, so many of which had a record
pub record HasRoomAt (t : TxnId) (count had : ℕ) (entries : List (TxnId × OwnNames)) : Type 0 where
  pub own : OwnNames
  pub its : at_txn t entries ≡ Some own
  pub room : length own.names.items + count ≤ vec_capacity own.names
  pub fits : own.had + had < 2 ^ 64
