-- Which nodes of a tree are noted.
use Rattle.std.specs.Prelude.{◌≡◌, ◌≤◌, ℕ, Bool, false, List, Option, None, Some, IfSome, option_map}
use Rattle.je_order.specs.declared.name.Name.{Name}
use Rattle.record_map.specs.Cells.{value_at}
use Rattle.tree_nodes.specs.declared.node.Node.{Node}
use Rattle.tree_nodes.specs.Nodes.{NodeRow}
use Rattle.tree_nodes.specs.Levels.{row_of}

-- whether there is a node, and it is noted
abbrev pub is_noted_one : Option Node → Bool
is_noted_one None = false
is_noted_one (Some n) = n.noted

-- whether the node of a level with a low is noted
abbrev pub is_noted_at : List NodeRow → ℕ → Name → Bool
is_noted_at rows level low = is_noted_one (value_at low (row_of rows level))

-- a node's number, and whether it is noted
abbrev pub note_of : Node → ℕ × Bool
note_of n = (n.number, n.noted)

-- the same nodes are noted
abbrev pub AreNotesKept : List NodeRow → List NodeRow → Type 0
AreNotesKept old new = (level : ℕ) (low : Name) → option_map note_of (value_at low (row_of new level)) ≡ option_map note_of (value_at low (row_of old level))

-- no node is noted, and none has a mark before an LSN
abbrev pub IsUnnotedSince : ℕ → Node → Type 0
IsUnnotedSince from n = (n.noted ≡ false) × IfSome n.from (λ lsn. from ≤ lsn)

abbrev pub AreUnnotedSince : ℕ → List NodeRow → Type 0
AreUnnotedSince from rows = (level : ℕ) (low : Name) (n : Node) → value_at low (row_of rows level) ≡ Some n → IsUnnotedSince from n
