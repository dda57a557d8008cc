-- Trees where a change is redone.
use Rattle.std.proofs.Common.{◌≡◌, ◌≤◌, ◌<◌, ◌+◌, ◌^◌, ℕ, suc, List, [], Option, None, Some, refl, sym, subst, inl, inr, arith}
use Rattle.std.specs.Prelude.{IfSome}
use Rattle.std.proofs.lemmas.List.{append-nil}
use Rattle.je_order.specs.declared.name.Name.{Name}
use Rattle.record_map.specs.declared.cell.Cell.{Cell}
use Rattle.record_map.specs.Cells.{value_at}
use Rattle.tree_nodes.specs.Nodes.{NodeRow}
use Rattle.tree_nodes.specs.Levels.{AreParts}
use Rattle.tree_nodes.specs.Lows.{lows_of}
use Rattle.log_trees.specs.Sound.{Home}
use Rattle.log_trees.specs.Trees.{data_of}
use Rattle.db_tree.specs.declared.tree.DbTree.{DbTree}
use Rattle.db_tree.specs.Images.{Placed}
use Rattle.db_tree.specs.NodeSteps.{slot_splits}
use Rattle.db_tree.specs.Shapes.{shape_in}
use Rattle.db_tree.specs.Splits.{made_for}
use Rattle.db_tree.specs.Stored.{with_logged, HasLogged}
use Rattle.db_tree.specs.Trees.{cell_or_fresh}
use Rattle.tree_images.specs.Fits.{IsRecorded, AreRecorded, AreImaged}
use Rattle.tree_images.specs.Laws.{AgreesUpTo}
use Rattle.tree_images.specs.PlaceLaws.{home_with}
use Rattle.tree_images.specs.RedoSteps.{IsSplitFor, RedoneTreesFit}
use Rattle.tree_images.proofs.Grown.{homes_agree}
use Rattle.tree_images.proofs.Longer.{imaged_stays}
use Rattle.tree_images.proofs.NodeSteps.{same_imaged}
use Rattle.tree_images.proofs.PlacedTrees.{unlogged_imaged}
use Rattle.tree_images.proofs.Recorded.{cells_are_set, made_recorded, logged_recorded}

-- the nodes have images, with another home
abbrev HasHome : Placed → (ℕ → Home) → ℕ → ℕ → ℕ → List NodeRow → Type 0
HasHome es home last later d rows = (other : ℕ → Home) × AgreesUpTo last home other × AreImaged es other later d [] rows

-- with more numbers
more_numbers : (es : Placed) (home : ℕ → Home) (last later d : ℕ) (rows : List NodeRow) → last ≤ later → AreImaged es home last d [] rows → HasHome es home last later d rows
more_numbers es home last later d rows le imaged =
    (home, λ number within. refl, subst (λ (l : Placed). AreImaged l home later d [] rows) (append-nil es) (imaged_stays es [] home home last later d [] rows (λ number within. refl) le imaged))

split_home : (es : Placed) (home : ℕ → Home) (last later d fanout : ℕ) (number : Option ℕ) (x : Name) (made : ℕ) (old : DbTree) (rows : List NodeRow) → IfSome number (λ n. n ≡ suc last) → last + made ≤ later → later < 2 ^ 64 →
    AreParts old.levels → IsSplitFor fanout number x made old rows → AreImaged es home last d [] old.levels → HasHome es home last later d rows
split_home es home last later d fanout None x made old rows is few within parts split imaged =
    subst (HasHome es home last later d) (sym split.0) (more_numbers es home last later d old.levels (omega (arith, few)) imaged)
split_home es home last later d fanout (Some number) x made old rows is few within parts (inl split) imaged =
    subst (HasHome es home last later d) (sym split.0) (more_numbers es home last later d old.levels (omega (arith, few)) imaged)
split_home es home last later d fanout (Some number) x made old rows is few within parts (inr split) imaged =
    let made_is : made ≡ made_for (slot_splits fanout x (shape_in old)) (lows_of old.levels) = split.1 in
    let new : DbTree = record { cells = old.cells; levels = rows } in (
      home_with home number d (slot_splits fanout x (shape_in old)),
      homes_agree home last number d (slot_splits fanout x (shape_in old)) (omega (arith, is)),
      unlogged_imaged es home last d fanout x number later old new parts split.0 (omega (arith, is)) (omega (arith, is, few, made_is)) within imaged,
    )

recorded : (es : Placed) (d : ℕ) (old new : List (Name × Cell)) (x : Name) (value : Option (List ℕ)) (at : ℕ) → HasLogged old new x value at → IfSome value (λ v. data_of es d x at ≡ Some v) → AreRecorded es d old → AreRecorded es d new
recorded es d old new x value at h data_is all =
    cells_are_set es d old new x (Some (with_logged value at h.commit h.last (cell_or_fresh (value_at x old)))) h.cell
    (logged_recorded es d x value at h.commit h.last (cell_or_fresh (value_at x old)) data_is (made_recorded es d x (value_at x old) (own (value_at x old) refl))) all
  where
    own : (o : Option Cell) → value_at x old ≡ o → IfSome o (IsRecorded es d x)
    own None is = tt
    own (Some cell) is = all x cell is

pub redone_fit : RedoneTreesFit
redone_fit es base newest home last later d fanout number x value first at made old new is few within less redone data_is h fits =
    let made_home = split_home es home last later d fanout number x made old h.mid is few within h.was_parts h.split fits.imaged in (
      made_home.0,
      made_home.1,
      record {
        tree = h.keeps es base newest less redone fits.tree;
        imaged = same_imaged es made_home.0 later d [] h.mid new.levels h.nodes made_home.2;
        recorded = recorded es d old.cells new.cells x value at h.logged data_is fits.recorded;
        exact = h.exact [] fits.exact;
      },
    )
