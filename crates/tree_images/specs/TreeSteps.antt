-- How one tree changes, as far as it fits its log.
use Rattle.std.specs.Prelude.{◌≡◌, ◌≤◌, ℕ, true, false, List, [], Option, Some, IfSome, Box, option_map}
use Rattle.std.specs.Global.{Global}
use Rattle.std.specs.Map.{set_value}
use Rattle.std.specs.BTreeMap.{is_at}
use Rattle.je_order.specs.Order.{name_cmp}
use Rattle.je_order.specs.declared.name.Name.{Name}
use Rattle.record_map.specs.declared.cell.Cell.{Cell}
use Rattle.record_map.specs.declared.write.Write.{Write}
use Rattle.record_map.specs.Cells.{value_at, with_write, committed, IsRising}
use Rattle.tree_nodes.specs.Levels.{AreParts}
use Rattle.db_tree.specs.declared.node_at.NodeAt.{NodeAt}
use Rattle.db_tree.specs.declared.slot_room.SlotRoom.{SlotRoom}
use Rattle.db_tree.specs.declared.tree.DbTree.{DbTree}
use Rattle.db_tree.specs.Images.{Placed}
use Rattle.db_tree.specs.NodeImages.{AreNodeImages}
use Rattle.db_tree.specs.Dirty.{AreExact, IsCommitAt, IsCommittedOver}
use Rattle.db_tree.specs.NodeSteps.{AreSameNodes, IsOneNode, written_lsn}
use Rattle.db_tree.specs.Numbers.{AreNewNumbered}
use Rattle.db_tree.specs.Shapes.{IsPlaced, shape_in}
use Rattle.db_tree.specs.Splits.{nodes_logged, splits_of}
use Rattle.db_tree.specs.Trees.{IsTree, given_up}
use Rattle.tree_images.specs.Laws.{HasSet}

-- a tree is one of its log if another one was
abbrev pub KeepsTree : DbTree → DbTree → Type 0
KeepsTree old new = (es : Placed) (base : ℕ) (newest : Name → ℕ) → IsTree es base newest old.levels old.cells → IsTree es base newest new.levels new.cells

-- its BINs are dirty exactly where they have not their last images' content if those of another one are
abbrev pub KeepsExact : DbTree → DbTree → Type 0
KeepsExact old new = (due : List NodeAt) → AreExact due old.levels old.cells → AreExact due new.levels new.cells

-- a name's cell got a change
pub record HasWritten (x : Name) (write : Box Write Global) (old new : DbTree) : Type 0 where
  pub cell : Cell
  pub there : value_at x old.cells ≡ Some cell
  pub levels : new.levels ≡ old.levels
  pub list : new.cells ≡ set_value (is_at (name_cmp x)) old.cells (with_write (Some write) cell)
  pub set : HasSet old.cells new.cells x (option_map (with_write (Some write)) (value_at x old.cells))
  pub keeps : KeepsTree old new
  pub exact : KeepsExact old new

-- a name's change, if it had one, was committed by the Commit at an LSN
pub record HasCommitted (x : Name) (at : ℕ) (old new : DbTree) : Type 0 where
  pub rising : IsRising old.cells
  pub nodes : AreSameNodes old.levels new.levels
  pub marked : IsCommittedOver (written_lsn (value_at x old.cells)) new.cells old.levels new.levels x
  pub last : Option ℕ
  pub set : HasSet old.cells new.cells x (option_map (committed at last) (value_at x old.cells))
  pub exact : KeepsExact old new
  pub keeps : (es : Placed) (base : ℕ) (newest : Name → ℕ) → IfSome (written_lsn (value_at x old.cells)) (λ from. from ≤ newest x) →
      IsCommitAt es at → IsTree es base newest old.levels old.cells → IsTree es base newest new.levels new.cells

-- a name's change was given up
pub record HasGivenUp (x : Name) (old new : DbTree) : Type 0 where
  pub levels : new.levels ≡ old.levels
  pub set : HasSet old.cells new.cells x (given_up (value_at x old.cells))
  pub exact : (es : Placed) (base : ℕ) (newest : Name → ℕ) → IsTree es base newest old.levels old.cells → KeepsExact old new
  pub keeps : KeepsTree old new

-- a name of a database got its slot, for which nodes were made with numbers from a first one on; their images are due
pub record HasSlot (fanout first d : ℕ) (x : Name) (room : SlotRoom) (old new : DbTree) : Type 0 where
  pub placed : IsPlaced fanout x room old new
  pub images : AreNodeImages d new.levels new.cells (nodes_logged fanout x (shape_in old)) room.images.items
  pub numbers : AreNewNumbered first room.splits.items room.is_raised new.levels
  pub splits : room.is_new ≡ true → room.splits.items ≡ splits_of fanout x (shape_in old)
  pub idle : room.is_new ≡ false → new ≡ old
  pub was_parts : AreParts old.levels
  pub parts : AreParts new.levels
  pub rising : IsRising new.cells
  pub keeps : KeepsTree old new

-- the tree of a new database: a root with a number, and no record
pub record IsNewTree (number : ℕ) (tree : DbTree) : Type 0 where
  pub root : IsOneNode tree.levels number
  pub cells : tree.cells ≡ []
  pub is_tree : (es : Placed) (base : ℕ) (newest : Name → ℕ) → IsTree es base newest tree.levels tree.cells
