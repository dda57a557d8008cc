-- The trees of all databases, as far as splits depend on them.
use Rattle.std.specs.Prelude.{◌==◌, ◌^◌, nat_lt, ℕ, Option, None, Some, if◌then◌else◌}
use Rattle.std.specs.Ordering.{nat_cmp}
use Rattle.std.specs.BTreeMap.{get}
use Rattle.record_tree.specs.declared.tree_change.TreeChange.{TreeChange}
use Rattle.db_tree.specs.declared.tree.DbTree.{DbTree}
use Rattle.db_tree.specs.Shapes.{new_shape, shape_in}
use Rattle.db_tree.specs.Splits.{Shape, shape_with}
use Rattle.in_tree.specs.Forest.{Forest}

-- a database without a tree is as one with a new tree
abbrev pub shape_of : Option DbTree → Shape
shape_of None = new_shape
shape_of (Some tree) = shape_in tree

-- the trees by their databases' numbers, which have 32 bits
abbrev pub Shapes : Type 0
Shapes = ℕ → Shape

abbrev pub shapes_of : Forest → Shapes
shapes_of forest d = if nat_lt d (2 ^ 32) then shape_of (get nat_cmp forest d) else new_shape

-- one database has another tree
abbrev pub with_shape : ℕ → Shape → Shapes → Shapes
with_shape db shape shapes d = if d == db then shape else shapes d

-- the name of a change has its slot. A database that a change makes is none of those that changes have names of
abbrev pub shapes_after : ℕ → Shapes → TreeChange → Shapes
shapes_after fanout shapes c = with_shape c.db (shape_with fanout c.name (shapes c.db)) shapes
