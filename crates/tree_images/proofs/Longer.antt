-- Trees that fit a log fit a longer one.
use Rattle.std.proofs.Common.{◌≡◌, ◌≤◌, ◌⊎◌, ◌++◌, ℕ, Option, None, Some, inl, inr}
use Rattle.std.specs.Prelude.{IfSome, List, Box}
use Rattle.std.specs.Global.{Global}
use Rattle.record_map.specs.declared.write.Write.{Write}
use Rattle.je_order.specs.declared.name.Name.{Name}
use Rattle.record_map.specs.declared.cell.Cell.{Cell}
use Rattle.tree_nodes.specs.declared.node.Node.{Node}
use Rattle.tree_nodes.specs.Nodes.{NodeRow, low_behind}
use Rattle.tree_nodes.specs.Levels.{row_of}
use Rattle.log_trees.specs.Trees.{data_of}
use Rattle.log_trees.specs.Sound.{Home}
use Rattle.db_tree.specs.declared.node_at.NodeAt.{NodeAt}
use Rattle.db_tree.specs.Content.{kept_by}
use Rattle.db_tree.specs.Images.{Placed}
use Rattle.db_tree.proofs.Longer.{longer}
use Rattle.tree_images.specs.Fits.{HasSoundImage, IsUnlogged, AreImaged, IsRecorded, AreRecorded}
use Rattle.tree_images.specs.Laws.{AgreesUpTo, FittingTreesStay}
use Rattle.tree_images.proofs.Images.{data_stays, number_stays, images_stay}

pub has_stays : (es more : Placed) (home other : ℕ → Home) (last later d : ℕ) (rows : List NodeRow) (level : ℕ) (low : Name) (n : Node) → AgreesUpTo last home other → last ≤ later →
    HasSoundImage es home last d rows level low n → HasSoundImage (es ++ more) other later d rows level low n
has_stays es more home other last later d rows level low n agrees le h = (h.0, h.1, images_stay es more home other last later d level low (low_behind low (row_of rows level)) h.0 agrees le h.2)

pub imaged_stays : (es more : Placed) (home other : ℕ → Home) (last later d : ℕ) (due : List NodeAt) (rows : List NodeRow) → AgreesUpTo last home other → last ≤ later →
    AreImaged es home last d due rows → AreImaged (es ++ more) other later d due rows
imaged_stays es more home other last later d due rows agrees le is = record {
  numbers = λ level low n there. number_stays home other last later d n.number level low agrees le (is.numbers level low n there);
  images = λ level low n there waits among. by_image level low n (is.images level low n there waits among);
  top = is.top;
}
  where
    by_image : (level : ℕ) (low : Name) (n : Node) → HasSoundImage es home last d rows level low n ⊎ IsUnlogged rows level n → HasSoundImage (es ++ more) other later d rows level low n ⊎ IsUnlogged rows level n
    by_image level low n (inl h) = inl (has_stays es more home other last later d rows level low n agrees le h)
    by_image level low n (inr h) = inr h

pub cell_stays : (es more : Placed) (d : ℕ) (x : Name) (cell : Cell) → IsRecorded es d x cell → IsRecorded (es ++ more) d x cell
cell_stays es more d x cell is = record { committed = λ lsn version. data_stays es more d lsn x cell.«data» (is.committed lsn version); written = by_write cell.write is.written }
  where
    by_value : (at : ℕ) (o : Option (List ℕ)) → IfSome o (λ v. data_of es d x at ≡ Some v) → IfSome o (λ v. data_of (es ++ more) d x at ≡ Some v)
    by_value at None h = h
    by_value at (Some v) h = data_stays es more d at x v h

    by_write : (o : Option (Box Write Global)) → IfSome o (λ w. IfSome w.value.value (λ v. data_of es d x w.value.at ≡ Some v)) → IfSome o (λ w. IfSome w.value.value (λ v. data_of (es ++ more) d x w.value.at ≡ Some v))
    by_write None h = h
    by_write (Some w) h = by_value w.value.at w.value.value h

pub recorded_stays : (es more : Placed) (d : ℕ) (cells : List (Name × Cell)) → AreRecorded es d cells → AreRecorded (es ++ more) d cells
recorded_stays es more d cells is x cell there = cell_stays es more d x cell (is x cell there)

pub trees_stay : FittingTreesStay
trees_stay es more base newest newer home other last later d due rows cells le agrees more_numbers fits = record {
  tree = longer es more base newest newer rows (kept_by cells) le fits.tree;
  imaged = imaged_stays es more home other last later d due rows agrees more_numbers fits.imaged;
  recorded = recorded_stays es more d cells fits.recorded;
  exact = fits.exact;
}
