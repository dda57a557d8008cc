-- What holds while images of nodes that were made together are logged, one after another.
use Rattle.std.specs.Prelude.{◌≡◌, ◌<◌, ◌≤◌, ℕ, List, [], ◌∷◌, ◌++◌, Some, IsSome, map}
use Rattle.std.specs.List.{AllByRecursion}
use Rattle.je_order.specs.declared.name.Name.{Name}
use Rattle.log_entry.specs.Body.{IsEntry}
use Rattle.record_map.specs.declared.cell.Cell.{Cell}
use Rattle.record_map.specs.Cells.{value_at, IsRising}
use Rattle.tree_nodes.specs.declared.node.Node.{Node}
use Rattle.tree_nodes.specs.Nodes.{NodeRow}
use Rattle.tree_nodes.specs.Levels.{row_of, AreParts}
use Rattle.tree_nodes.specs.Lows.{lows_of}
use Rattle.log_trees.specs.Sound.{Home}
use Rattle.db_tree.specs.declared.node_image.NodeImage.{NodeImage}
use Rattle.db_tree.specs.Content.{kept_by}
use Rattle.db_tree.specs.Dirty.{AreExact}
use Rattle.db_tree.specs.Images.{Placed}
use Rattle.db_tree.specs.NodeImages.{node_of, number_of, finished, IsNodeImage}
use Rattle.db_tree.specs.NodeSteps.{IsNoted}
use Rattle.db_tree.specs.Trees.{IsImageOf}
use Rattle.tree_images.specs.Fits.{AreImaged, AreRecorded}
use Rattle.tree_images.specs.PlaceLaws.{AreInOrder}

-- images are still to be logged, in their order, of nodes that have the lows and numbers that they had when the images were made; but for them
-- the tree fits
pub record AreDue (es : Placed) (home : ℕ → Home) (last d : ℕ) (before rows : List NodeRow) (cells : List (Name × Cell)) (images : List NodeImage) : Type 0 where
  pub parts : AreParts rows
  pub rising : IsRising cells
  pub imaged : AreImaged es home last d (map node_of images) rows
  pub recorded : AreRecorded es d cells
  pub exact : AreExact (map node_of images) rows cells
  pub order : AreInOrder rows (map node_of images)
  pub made : AllByRecursion (IsNodeImage d before cells) images
  pub lows : lows_of rows ≡ lows_of before
  pub numbers : (level : ℕ) (low : Name) → number_of before level low ≡ number_of rows level low

-- the first of them is logged at an LSN, and noted at its node: it has the node's content, and the others are still to be logged
pub record IsNextLogged (es : Placed) (home : ℕ → Home) (last d : ℕ) (before rows : List NodeRow) (cells : List (Name × Cell)) (image : NodeImage) (images : List NodeImage) (at : ℕ) : Type 0 where
  pub there : IsSome (value_at image.low (row_of rows image.level))
  pub content : (n : Node) → value_at image.low (row_of rows image.level) ≡ Some n → IsImageOf (es ++ (at, (finished rows image).entry) ∷ []) rows (kept_by cells) image.level (image.low, n) at
  pub next : (new : List NodeRow) → AreParts new → IsNoted rows new image.level image.low at → AreExact (map node_of images) new cells → AreDue (es ++ (at, (finished rows image).entry) ∷ []) home last d before new cells images

abbrev pub DueImagesAreLogged : Type 0
DueImagesAreLogged = (es : Placed) (home : ℕ → Home) (last d : ℕ) (before rows : List NodeRow) (cells : List (Name × Cell)) (image : NodeImage) (images : List NodeImage) (at : ℕ) →
    AreDue es home last d before rows cells (image ∷ images) → AllByRecursion (λ p. p.0 < at) es → ((x : Name) → (kept_by cells x).touched ≤ at) → IsEntry (finished rows image).entry → IsNextLogged es home last d before rows cells image images at
