-- The numbers of new nodes.
use Rattle.std.specs.Prelude.{◌≡◌, ◌+◌, ◌-◌, ◌^◌, ℕ, Bool, true, false, List, Some, length, min}
use Rattle.std.specs.List.{slice_get}
use Rattle.tree_nodes.specs.Nodes.{NodeRow, least}
use Rattle.db_tree.specs.declared.node_split.NodeSplit.{NodeSplit}
use Rattle.db_tree.specs.NodeImages.{number_of}

-- the number of the new node of a level: they follow one another from the first on, as far as a node's number goes
abbrev pub new_number : ℕ → ℕ → ℕ
new_number first level = min (first + level) (2 ^ 64 - 1)

-- the right half of each level's split has its number
abbrev pub AreNumbered : ℕ → List NodeSplit → List NodeRow → Type 0
AreNumbered first splits rows = (level : ℕ) (split : NodeSplit) → slice_get splits level ≡ Some split → number_of rows level split.middle ≡ new_number first level

-- and a new root of a level
abbrev pub IsRootNumbered : Bool → ℕ → ℕ → List NodeRow → Type 0
IsRootNumbered true first level rows = number_of rows level least ≡ new_number first level
IsRootNumbered false first level rows = Unit {0}

pub record AreNewNumbered (first : ℕ) (splits : List NodeSplit) (raised : Bool) (rows : List NodeRow) : Type 0 where
  pub halves : AreNumbered first splits rows
  pub root : IsRootNumbered raised first (length splits) rows
