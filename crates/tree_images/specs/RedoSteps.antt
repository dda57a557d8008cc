-- How one tree changes where a change is redone.
use Rattle.std.specs.Prelude.{◌≡◌, ◌≤◌, ◌<◌, ◌⊎◌, ◌+◌, ◌^◌, ℕ, suc, List, Option, None, Some, IfSome}
use Rattle.je_order.specs.declared.name.Name.{Name}
use Rattle.tree_nodes.specs.Nodes.{NodeRow}
use Rattle.tree_nodes.specs.Levels.{AreParts}
use Rattle.tree_nodes.specs.Lows.{lows_of}
use Rattle.log_trees.specs.Sound.{Home}
use Rattle.log_trees.specs.Trees.{data_of}
use Rattle.db_tree.specs.declared.tree.DbTree.{DbTree}
use Rattle.db_tree.specs.Dirty.{IsRedoneAt}
use Rattle.db_tree.specs.Images.{Placed}
use Rattle.db_tree.specs.NodeSteps.{AreSameNodes, AreSplitWaiting, slot_splits}
use Rattle.db_tree.specs.Shapes.{shape_in}
use Rattle.db_tree.specs.Splits.{made_for}
use Rattle.db_tree.specs.Stored.{HasLogged}
use Rattle.db_tree.specs.Trees.{IsTree}
use Rattle.tree_images.specs.Fits.{FitsTree}
use Rattle.tree_images.specs.TreeSteps.{KeepsExact}
use Rattle.tree_images.specs.Laws.{AgreesUpTo}

-- nodes were split for a name's slot, with numbers from a first one on, if there is one, and wait to be logged; so many were made
abbrev pub IsSplitFor : ℕ → Option ℕ → Name → ℕ → DbTree → List NodeRow → Type 0
IsSplitFor fanout None x made old rows = (rows ≡ old.levels) × (made ≡ 0)
IsSplitFor fanout (Some number) x made old rows =
    ((rows ≡ old.levels) × (made ≡ 0))
    ⊎ (AreSplitWaiting number (slot_splits fanout x (shape_in old)) old.levels rows × (made ≡ made_for (slot_splits fanout x (shape_in old)) (lows_of old.levels)))

-- a name has what was logged at an LSN, which a redo finds again from the LSN `first` on; nodes were split for its slot
pub record HasRedone (fanout : ℕ) (number : Option ℕ) (x : Name) (value : Option (List ℕ)) (first at made : ℕ) (old new : DbTree) : Type 0 where
  pub was_parts : AreParts old.levels
  pub parts : AreParts new.levels
  pub mid : List NodeRow
  pub split : IsSplitFor fanout number x made old mid
  pub nodes : AreSameNodes mid new.levels
  pub logged : HasLogged old.cells new.cells x value at
  pub exact : KeepsExact old new
  pub keeps : (es : Placed) (base : ℕ) (newest : Name → ℕ) → first < base → IsRedoneAt es base at → IsTree es base newest old.levels old.cells → IsTree es base newest new.levels new.cells

-- a tree fits a log with another home, where numbers that were allocated have their places as before
abbrev pub FitsAfter : Placed → ℕ → (Name → ℕ) → (ℕ → Home) → ℕ → ℕ → ℕ → DbTree → Type 0
FitsAfter es base newest home last later d tree = (other : ℕ → Home) × AgreesUpTo last home other × FitsTree es base newest other later d tree.levels tree.cells

-- a tree that fits a log fits it where a change of the log is redone in a life of the environment that begins behind it
abbrev pub RedoneTreesFit : Type 0
RedoneTreesFit = (es : Placed) (base : ℕ) (newest : Name → ℕ) (home : ℕ → Home) (last later d fanout : ℕ) (number : Option ℕ) (x : Name) (value : Option (List ℕ)) (first at made : ℕ) (old new : DbTree) →
    IfSome number (λ n. n ≡ suc last) → last + made ≤ later → later < 2 ^ 64 → first < base → IsRedoneAt es base at → IfSome value (λ v. data_of es d x at ≡ Some v) →
    HasRedone fanout number x value first at made old new → FitsTree es base newest home last d old.levels old.cells → FitsAfter es base newest home last later d new
