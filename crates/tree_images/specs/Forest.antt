-- The trees of all databases over the log of an environment that works: they fit it down to the images of their nodes.
use Rattle.std.specs.Prelude.{◌≡◌, ◌≤◌, ◌++◌, ℕ, max, true, List, [], ◌∷◌, Option, Some, IfSome, if◌then◌else◌}
use Rattle.je_order.specs.declared.name.Name.{Name}
use Rattle.record_map.specs.declared.cell.Cell.{Cell}
use Rattle.record_map.specs.declared.write.Write.{Write}
use Rattle.record_map.specs.Cells.{value_at}
use Rattle.tree_nodes.specs.Nodes.{NodeRow}
use Rattle.log_trees.specs.Changes.{LoggedChange, is_of}
use Rattle.log_trees.specs.Sound.{Home}
use Rattle.log_meaning.specs.Redo.{redone}
use Rattle.db_tree.specs.declared.node_image.NodeImage.{NodeImage}
use Rattle.db_tree.specs.declared.tree.DbTree.{DbTree}
use Rattle.db_tree.specs.Images.{Placed}
use Rattle.db_tree.specs.Trees.{IsTree}
use Rattle.tree_images.specs.Fits.{FitsTree}
use Rattle.tree_images.specs.LogLaws.{AreDue}
use Rattle.tree_images.specs.Notes.{HasNotes, has_changed}

-- ---- changes

-- the greatest LSN at which changes of a name were logged; 0 where there is none
abbrev pub latest_of : ℕ → Name → List LoggedChange → ℕ
latest_of d x [] = 0
latest_of d x (c ∷ changes) = if is_of d x c then max c.written.at (latest_of d x changes) else latest_of d x changes

-- of the changes that are committed, in this life of the environment, which begins at `base`
abbrev pub latest_at : ℕ → Placed → ℕ → Name → ℕ
latest_at base es d x = latest_of d x (redone base es).done

-- and of these with those of a transaction that wait for its Commit
abbrev pub logged_at : ℕ → Placed → ℕ → Name → ℕ → ℕ
logged_at base es d x t = latest_of d x ((redone base es).done ++ (redone base es).pending t)

-- a change in a name's cell was logged in this life, by its transaction, and is committed or waits for its transaction's Commit
pub record IsLoggedWrite (es : Placed) (base d : ℕ) (x : Name) (w : Write) : Type 0 where
  pub upto : w.at ≤ logged_at base es d x w.txn.0
  pub own : has_changed es base w.txn.0 w.at ≡ true

-- so it is with each change in a cell
abbrev pub AreLogged : Placed → ℕ → ℕ → List (Name × Cell) → Type 0
AreLogged es base d cells = (x : Name) (cell : Cell) → value_at x cells ≡ Some cell → IfSome cell.write (λ w. IsLoggedWrite es base d x w.value)

-- ---- trees

-- images of a tree's nodes are still to be logged; but for these the tree fits the log
pub record IsDue (es : Placed) (base : ℕ) (home : ℕ → Home) (last d : ℕ) (tree : DbTree) (images : List NodeImage) : Type 0 where
  pub before : List NodeRow
  pub due : AreDue es home last d before tree.levels tree.cells images
  pub is_tree : IsTree es base (latest_at base es d) tree.levels tree.cells

abbrev pub FitsDue : Placed → ℕ → (ℕ → Home) → ℕ → ℕ → DbTree → List NodeImage → Type 0
FitsDue es base home last d tree [] = FitsTree es base (latest_at base es d) home last d tree.levels tree.cells
FitsDue es base home last d tree (image ∷ images) = IsDue es base home last d tree (image ∷ images)

-- The trees of all databases fit a log but for images that are still to be logged, of each database some; what their cells have was logged, and
-- what a checkpoint noted is noted still. Node numbers were allocated up to `last`.
pub record ForestDue (es : Placed) (base last : ℕ) (trees : ℕ → Option DbTree) (due : ℕ → List NodeImage) : Type 0 where
  pub home : ℕ → Home
  pub fits : (d : ℕ) (tree : DbTree) → trees d ≡ Some tree → FitsDue es base home last d tree (due d)
  pub writes : (d : ℕ) (tree : DbTree) → trees d ≡ Some tree → AreLogged es base d tree.cells
  pub notes : (d : ℕ) (tree : DbTree) → trees d ≡ Some tree → HasNotes es base (due d) tree.levels

-- and so they do where none is
abbrev pub ForestFits : Placed → ℕ → ℕ → (ℕ → Option DbTree) → Type 0
ForestFits es base last trees = ForestDue es base last trees (λ d. [])
