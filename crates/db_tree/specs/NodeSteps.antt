-- How the nodes of a tree change, as far as their images go.
use Rattle.std.specs.Prelude.{◌≡◌, ◌≤◌, ◌⊎◌, ℕ, suc, Bool, true, false, List, [], Option, None, Some, length, option_map, option_and_then, ◌++◌, if◌then◌else◌}
use Rattle.je_order.specs.declared.name.Name.{Name}
use Rattle.record_map.specs.declared.cell.Cell.{Cell}
use Rattle.record_map.specs.Cells.{value_at}
use Rattle.tree_nodes.specs.declared.node.Node.{Node}
use Rattle.tree_nodes.specs.Nodes.{NodeRow, least, HasPut, logged}
use Rattle.tree_nodes.specs.Levels.{row_of, AreParts, HasMarkedAt, HasPutAt}
use Rattle.tree_nodes.specs.Lows.{lows_of}
use Rattle.db_tree.specs.declared.node_at.NodeAt.{NodeAt}
use Rattle.db_tree.specs.declared.node_split.NodeSplit.{NodeSplit}
use Rattle.db_tree.specs.Numbers.{AreNewNumbered}
use Rattle.db_tree.specs.Splits.{Shape, has_slot, splits_of, is_raised, lows_behind}
use Rattle.db_tree.specs.Splitting.{AreGrown}
use Rattle.db_tree.specs.Waiting.{is_among, halves_of, root_at}

-- a node is another one, perhaps with another mark
pub record IsSameNode (old new : Node) : Type 0 where
  pub number : new.number ≡ old.number
  pub last : new.last ≡ old.last
  pub forced : new.forced ≡ old.forced

abbrev pub WasThere : List NodeRow → ℕ → Name → Node → Type 0
WasThere old level x n = (m : Node) × (value_at x (row_of old level) ≡ Some m) × IsSameNode m n

-- each node is as it was but for its mark
pub record AreSameNodes (old new : List NodeRow) : Type 0 where
  pub lows : lows_of new ≡ lows_of old
  pub each : (level : ℕ) (x : Name) (n : Node) → value_at x (row_of new level) ≡ Some n → WasThere old level x n

-- a node's last image is at an LSN
pub record IsLogged (at : ℕ) (old new : Node) : Type 0 where
  pub number : new.number ≡ old.number
  pub last : new.last ≡ Some at
  pub forced : new.forced ≡ false

-- the last image of the node of a level with a low is at an LSN; each other node is as it was but for its mark
pub record IsNoted (old new : List NodeRow) (level : ℕ) (low : Name) (at : ℕ) : Type 0 where
  pub lows : lows_of new ≡ lows_of old
  pub here : (n : Node) → value_at low (row_of new level) ≡ Some n → (m : Node) × (value_at low (row_of old level) ≡ Some m) × IsLogged at m n
  pub others : (k : ℕ) (x : Name) (n : Node) → (k ≡ level → x ≡ low → ⊥) → value_at x (row_of new k) ≡ Some n → WasThere old k x n

-- a node is another one, and waits to be logged if it did or is to now, perhaps with another mark then
pub record MayWait (is_to : Bool) (old new : Node) : Type 0 where
  pub number : new.number ≡ old.number
  pub last : new.last ≡ old.last
  pub waits : is_to ≡ true → new.forced ≡ true
  pub still : new.forced ≡ false → old.forced ≡ false
  pub mark : is_to ≡ false → new.from ≡ old.from

-- some nodes wait to be logged now; else each node is as it was but for its mark
pub record AreWaiting (nodes : List NodeAt) (old new : List NodeRow) : Type 0 where
  pub lows : lows_of new ≡ lows_of old
  pub each : (level : ℕ) (x : Name) (n : Node) → value_at x (row_of new level) ≡ Some n → (m : Node) × (value_at x (row_of old level) ≡ Some m) × MayWait (is_among nodes level x) m n

-- nodes were split, and a root was put above them where each level was, with numbers from a first one on; the halves and the root wait to be logged
pub record AreSplitWaiting (first : ℕ) (splits : List NodeSplit) (old new : List NodeRow) : Type 0 where
  pub mid : List NodeRow
  pub parts : AreParts mid
  pub grown : AreGrown splits (is_raised splits (lows_of old)) old mid
  pub lows : lows_of mid ≡ lows_behind splits (lows_of old)
  pub numbers : AreNewNumbered first splits (is_raised splits (lows_of old)) mid
  pub waits : AreWaiting (halves_of 0 splits ++ root_at (length splits) (is_raised splits (lows_of old))) mid new

-- the splits for a name's slot; a name that has one needs none
abbrev pub slot_splits : ℕ → Name → Shape → List NodeSplit
slot_splits fanout x shape = if has_slot x shape then [] else splits_of fanout x shape

-- a tree of one node with a number, which has no image, no mark and no note
pub record IsOneNode (rows : List NodeRow) (number : ℕ) : Type 0 where
  pub height : length rows ≡ 1
  pub root : Node
  pub put : HasPut [] (row_of rows 0) least root
  pub number_is : root.number ≡ number
  pub last : root.last ≡ None
  pub from : root.from ≡ None
  pub unnoted : root.noted ≡ false

-- where the change of a cell was logged, if it has one
abbrev pub written_lsn : Option Cell → Option ℕ
written_lsn o = option_and_then (λ cell. option_map (λ w. w.value.at) cell.write) o

-- ---- marks

-- from which LSN on the node above one lacks what an image of that one has, which was logged at another LSN: from its mark on, if it has one
abbrev pub mark_above : Option ℕ → ℕ → ℕ
mark_above None at = at
mark_above (Some from) at = from

-- the node above the one of a level with a low is marked, if there is one
abbrev pub IsHandedUp : List NodeRow → List NodeRow → ℕ → Name → ℕ → Type 0
IsHandedUp old new level low from = ((length old ≤ suc level) × (new ≡ old)) ⊎ HasMarkedAt old new (suc level) low from

-- the node of a level with a low got an image at an LSN, and has no mark now; the node above it has got its mark
pub record IsLoggedUp (old new : List NodeRow) (level : ℕ) (low : Name) (at : ℕ) : Type 0 where
  pub node : Node
  pub there : value_at low (row_of old level) ≡ Some node
  pub mid : List NodeRow
  pub handed : IsHandedUp old mid level low (mark_above node.from at)
  pub put : HasPutAt mid new level low (logged at node)
