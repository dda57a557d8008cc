-- The nodes of an environment's trees while its log is read again.
use Rattle.std.specs.Prelude.{◌≡◌, ◌≤◌, ◌⊎◌, ◌==◌, ◌&&◌, ℕ, Bool, true, false, if◌then◌else◌, List, [], Option, Some, None, IsSome}
use Rattle.std.specs.Map.{lookup}
use Rattle.std.specs.Ordering.{is_eq}
use Rattle.je_order.specs.Order.{name_cmp}
use Rattle.je_order.specs.declared.name.Name.{Name}
use Rattle.log_entry.specs.declared.entry.Entry.{Entry}
use Rattle.log_entry.specs.declared.entry.Entry.TheVariants.{Put, Migrated}

-- a node: its number, where its last image stands, from which LSN on the log has changes that this lacks, and whether it waits to be logged
pub record LoadedNode : Type 0 where
  pub number : ℕ
  pub last : Option ℕ
  pub from : Option ℕ
  pub waits : Bool

-- the nodes of each database, by their levels, of which the BINs' is 0, and lows
abbrev pub AllNodes : Type 0
AllNodes = ℕ → ℕ → Name → Option LoadedNode

-- a node that was read from an image at an LSN; where that is not to be its last image, it has none, and waits to be logged
abbrev pub node_read : ℕ → ℕ → Bool → LoadedNode
node_read number at true = record { number = number; last = Some at; from = None; waits = false }
node_read number at false = record { number = number; last = None; from = Some at; waits = true }

-- the least name of all
abbrev pub least : Name
least = record { key = []; dup = [] }

-- a node of a level of a database was put under a low, which is one of each level below too; a tree that was made or raised for it has nodes with the
-- least low
pub record HasPutNode (old new : AllNodes) (db level : ℕ) (low : Name) (node : LoadedNode) : Type 0 where
  pub here : new db level low ≡ Some node
  pub below : (k : ℕ) → k ≤ level → IsSome (new db k low)
  pub kept : (d k : ℕ) (x : Name) (n : LoadedNode) → old d k x ≡ Some n → (d ≡ db → k ≡ level → x ≡ low → ⊥) → new d k x ≡ Some n
  pub made : (d k : ℕ) (x : Name) → IsSome (new d k x) → IsSome (old d k x) ⊎ ((d ≡ db) × (k ≤ level) × ((x ≡ low) ⊎ (x ≡ least)))

-- no node changed
abbrev pub AreNodesStill : AllNodes → AllNodes → Type 0
AreNodesStill old new = (d k : ℕ) (x : Name) → new d k x ≡ old d k x

-- the data that an entry puts under a name of a database
abbrev pub data_put : ℕ → Name → Entry → Option (List ℕ)
data_put d x (Put txn db name value) = if (db == d) && is_eq (name_cmp name x) then Some value else None
data_put d x (Migrated db name value) = if (db == d) && is_eq (name_cmp name x) then Some value else None
data_put d x entry = None

-- a change of a name stands at an LSN of a log: the entry there puts the data; one that deletes a record needs none
abbrev pub IsLoggedAt : List (ℕ × Entry) → ℕ → Name → ℕ → Option (List ℕ) → Type 0
IsLoggedAt es d x at None = Unit {0}
IsLoggedAt es d x at (Some value) = (entry : Entry) × (lookup (λ n. n == at) es ≡ Some entry) × (data_put d x entry ≡ Some value)
