-- The levels of a tree, the BINs first, and how they change.
use Rattle.std.specs.Prelude.{◌≡◌, ◌<◌, ℕ, suc, List, [], Option, None, Some, IsSome, length, slice_index_or}
use Rattle.je_order.specs.declared.name.Name.{Name}
use Rattle.record_map.specs.Cells.{value_at, IsRising}
use Rattle.node_core.specs.declared.slot.Version.{Version}
use Rattle.node_core.specs.declared.slot.Version.TheVariants.{There, Unset}
use Rattle.node_core.specs.declared.slot.Slot.{Slot}
use Rattle.tree_nodes.specs.declared.node.Node.{Node}
use Rattle.tree_nodes.specs.Nodes.{NodeRow, least, IsOver, HasPut, HasTaken, marked, without_mark}

-- a level; none above the top
abbrev pub row_of : List NodeRow → ℕ → NodeRow
row_of rows level = slice_index_or rows level []

-- the levels of a tree: each parts all names, and its lows are among those of the level below
pub record AreParts (rows : List NodeRow) : Type 0 where
  pub some : 0 < length rows
  pub parts : (level : ℕ) → level < length rows → IsSome (value_at least (row_of rows level))
  pub nested : (level : ℕ) (x : Name) → IsSome (value_at x (row_of rows (suc level))) → IsSome (value_at x (row_of rows level))
  pub rising : (level : ℕ) → IsRising (row_of rows level)

-- the levels with a node put under a low of one level
pub record HasPutAt (old new : List NodeRow) (level : ℕ) (low : Name) (node : Node) : Type 0 where
  pub height : length new ≡ length old
  pub here : HasPut (row_of old level) (row_of new level) low node
  pub others : (k : ℕ) → (k ≡ level → ⊥) → row_of new k ≡ row_of old k

-- the levels without the node of a low of one level
pub record HasTakenAt (old new : List NodeRow) (level : ℕ) (low : Name) : Type 0 where
  pub height : length new ≡ length old
  pub here : HasTaken (row_of old level) (row_of new level) low
  pub others : (k : ℕ) → (k ≡ level → ⊥) → row_of new k ≡ row_of old k

-- the levels with a mark on the node over a name of one level
pub record HasMarkedAt (old new : List NodeRow) (level : ℕ) (x : Name) (from : ℕ) : Type 0 where
  pub e : Name × Node
  pub over : IsOver (row_of old level) x e
  pub put : HasPutAt old new level e.0 (marked from e.1)

-- the levels without the mark of the node over a name of one level
pub record HasUnmarkedAt (old new : List NodeRow) (level : ℕ) (x : Name) : Type 0 where
  pub e : Name × Node
  pub over : IsOver (row_of old level) x e
  pub put : HasPutAt old new level e.0 (without_mark e.1)

-- the levels with a root put above the top
pub record HasRaised (old new : List NodeRow) (root : Node) : Type 0 where
  pub height : length new ≡ suc (length old)
  pub top : HasPut [] (row_of new (length old)) least root
  pub below : (k : ℕ) → k < length old → row_of new k ≡ row_of old k

-- the slot of an IN that a child makes: named by the child's low, with the child's last image
abbrev pub version_of : Option ℕ → Version
version_of None = Unset
version_of (Some last) = There last

abbrev pub slot_of : Name × Node → Slot
slot_of e = record { name = e.0; version = version_of e.1.last }
