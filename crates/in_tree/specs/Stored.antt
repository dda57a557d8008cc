-- The committed records of trees, and trees in which no transaction has changed anything.
use Rattle.std.specs.Prelude.{◌≡◌, ℕ, List, false, refl, [], Option, Some, None, is_some, option_map, if◌then◌else◌}
use Rattle.std.specs.Ordering.{is_eq}
use Rattle.je_order.specs.Order.{name_cmp}
use Rattle.je_order.specs.declared.name.Name.{Name}
use Rattle.record_map.specs.declared.cell.Cell.{Cell}
use Rattle.record_map.specs.Cells.{value_at}
use Rattle.record_tree.specs.Occupied.{Occupied}
use Rattle.record_tree.specs.LoadedSlots.{AllRead, AllSlots}
use Rattle.record_tree.specs.Stored.{Stored, AllStored}
use Rattle.db_tree.specs.declared.tree.DbTree.{DbTree}
use Rattle.db_tree.specs.Loading.{has_version, slot_read}
use Rattle.db_tree.specs.Stored.{stored_in, AreQuiet}
use Rattle.db_tree.specs.Trees.{cell_or_fresh}
use Rattle.in_tree.specs.Forest.{Forest, cells_of, cells_at}

-- the records of each database
abbrev pub stored_of : Forest → AllStored
stored_of forest d = stored_in (cells_at forest d)

-- whether a name of a database has a slot that the next image of its BIN shows
abbrev pub slots_held : Forest → AllSlots
slots_held forest d x = has_version (value_at x (cells_at forest d))

-- what is read of the names of each database, as their cells have it
abbrev pub read_of : Forest → AllRead
read_of forest d x = option_map slot_read (value_at x (cells_at forest d))

-- a record as transactions see it: committed, and without a change
abbrev pub committed_cell : Name × Stored → Name × Occupied
committed_cell e = (e.0, record { value = Some e.1.value; write = None })

-- trees in which no transaction has changed anything
abbrev pub IsQuiet : Forest → Type 0
IsQuiet forest = (d : ℕ) → AreQuiet (cells_at forest d)

-- a name has a cell more, of which nothing is committed, or the cells are as before
pub record IsSlotFor (x : Name) (old new : List (Name × Cell)) : Type 0 where
  pub here : cell_or_fresh (value_at x new) ≡ cell_or_fresh (value_at x old)
  pub others : (y : Name) → is_eq (name_cmp x y) ≡ false → value_at y new ≡ value_at y old

-- nothing is read of names of a database without a tree
pub none_read : (o : Option DbTree) (x : Name) → is_some o ≡ false → option_map slot_read (value_at x (cells_of o)) ≡ None
none_read None x none = refl
none_read (Some tree) x none = λ i. if none i then option_map slot_read (value_at x tree.cells) else None

-- a database without a tree has no records
pub none_stored : (o : Option DbTree) → is_some o ≡ false → stored_in (cells_of o) ≡ []
none_stored None none = refl
none_stored (Some tree) none = λ i. if none i then stored_in tree.cells else []
