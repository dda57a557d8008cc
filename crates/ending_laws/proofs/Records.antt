-- The data of a name in a tree's cells.
use Rattle.std.proofs.Common.{◌≡◌, Option, Some, None, option_map, refl, ap, ◌∙◌}
use Rattle.std.specs.Prelude.{Box}
use Rattle.std.specs.Global.{Global}
use Rattle.node_core.specs.declared.slot.Version.TheVariants.{There, Deleted, Unset}
use Rattle.node_core.specs.declared.slot.Version.{Version}
use Rattle.record_map.specs.declared.cell.Cell.{Cell}
use Rattle.record_map.specs.declared.write.Write.{Write}
use Rattle.record_map.specs.Cells.{value_at, IsRising}
use Rattle.record_tree.specs.Occupied.{committed_value, if_occupied, value_in}
use Rattle.record_tree.specs.Stored.{Stored}
use Rattle.log_replay.specs.Rows.{data_at}
use Rattle.db_tree.specs.declared.tree.DbTree.{DbTree}
use Rattle.db_tree.specs.Seen.{occupied, seen}
use Rattle.db_tree.specs.Stored.{stored_by}
use Rattle.db_tree.proofs.Seen.{occupied_rises, seen_at}
use Rattle.tree_images.specs.Roots.{data_in_tree, data_under}
use Rattle.in_tree.specs.Forest.{cells_of}
use Rattle.txn_core.specs.Known.{committed_rows}
use Rattle.txn_core.proofs.ReadingLaws.{committed_at}
use Rattle.ending_laws.specs.Ends.{CellsAreRecords}

-- what is seen of a cell has the data that is committed
seen_data : (o : Option Cell) → value_in (seen o) ≡ data_under o
seen_data None = refl
seen_data (Some cell) = by_version cell.version (option_map (λ (w : Box Write Global). w.value) cell.write)
  where
    by_version : (v : Version) (w : Option Write) → value_in (if_occupied (record { value = committed_value v cell.«data»; write = w })) ≡ option_map (λ (s : Stored). s.value) (stored_by v cell.«data»)
    by_version (There lsn) w = refl
    by_version Deleted None = refl
    by_version Deleted (Some w) = refl
    by_version Unset None = refl
    by_version Unset (Some w) = refl

pub cells_are_records : CellsAreRecords
cells_are_records is_open trees rising d x is_one = by_tree (trees d) refl
  where
    by_tree : (o : Option DbTree) → trees d ≡ o → data_at x (committed_rows (occupied (cells_of o))) ≡ data_in_tree x o
    by_tree None is = refl
    by_tree (Some tree) is =
        let up : IsRising tree.cells = rising d tree is in
        committed_at x (occupied tree.cells) (occupied_rises tree.cells up) ∙ ap value_in (seen_at tree.cells x up) ∙ seen_data (value_at x tree.cells)
