-- The trees of all databases, and the roots that a checkpoint's end names.
use Rattle.std.specs.Prelude.{◌≡◌, ◌≤◌, ◌-◌, ℕ, Bool, true, false, List, Option, Some, None, length, option_map}
use Rattle.std.specs.Option.{option_and_then}
use Rattle.je_order.specs.declared.name.Name.{Name}
use Rattle.log_entry.specs.declared.root.Root.{Root}
use Rattle.log_entry.specs.Items.{rises, root_before}
use Rattle.record_map.specs.declared.cell.Cell.{Cell}
use Rattle.record_map.specs.Cells.{value_at}
use Rattle.record_tree.specs.Stored.{Stored}
use Rattle.tree_nodes.specs.declared.node.Node.{Node}
use Rattle.tree_nodes.specs.Nodes.{NodeRow, least, IsOver}
use Rattle.tree_nodes.specs.Levels.{row_of, AreParts}
use Rattle.log_trees.specs.Trees.{root_of}
use Rattle.log_trees.specs.Sound.{Home}
use Rattle.log_meaning.specs.Redo.{newest}
use Rattle.db_tree.specs.declared.tree.DbTree.{DbTree}
use Rattle.db_tree.specs.Images.{Placed}
use Rattle.db_tree.specs.Stored.{stored_under}
use Rattle.tree_images.specs.Fits.{FitsTree}

-- the LSN of a name's newest committed change in a database, in this life of the environment
abbrev pub newest_at : ℕ → Placed → ℕ → Name → ℕ
newest_at base es d x = (newest base es d x).at

-- each database's tree fits the log
abbrev pub FitsForest : Placed → ℕ → (ℕ → Home) → ℕ → (ℕ → Option DbTree) → Type 0
FitsForest es base home last trees = (d : ℕ) (tree : DbTree) → trees d ≡ Some tree → FitsTree es base (newest_at base es d) home last d tree.levels tree.cells

-- ---- roots

-- the topmost node of a tree
abbrev pub topmost : List NodeRow → Option Node
topmost rows = value_at least (row_of rows (length rows - 1))

-- where its last image stands
abbrev pub root_image : DbTree → Option ℕ
root_image tree = option_and_then (λ n. n.last) (topmost tree.levels)

-- the roots are the trees' topmost nodes that have an image, by their databases' numbers
pub record AreRootsOf (trees : ℕ → Option DbTree) (roots : List Root) : Type 0 where
  pub rise : rises root_before roots ≡ true
  pub each : (d : ℕ) → root_of d roots ≡ option_and_then root_image (trees d)

-- a tree may be named by a checkpoint's end: its topmost node does not wait if it has an image, and no mark is below the redo LSN
pub record MayBeRoot (redo : ℕ) (rows : List NodeRow) : Type 0 where
  pub parts : AreParts rows
  pub logged : (n : Node) (at : ℕ) → topmost rows ≡ Some n → n.last ≡ Some at → n.forced ≡ false
  pub marks : (level : ℕ) (x : Name) (e : Name × Node) (from : ℕ) → IsOver (row_of rows level) x e → e.1.from ≡ Some from → redo ≤ from

-- ---- records

-- the data that is committed under a name
abbrev pub data_under : Option Cell → Option (List ℕ)
data_under o = option_map (λ (s : Stored). s.value) (stored_under o)

abbrev pub data_in_tree : Name → Option DbTree → Option (List ℕ)
data_in_tree x None = None
data_in_tree x (Some tree) = data_under (value_at x tree.cells)

-- the records of each open database are those of its tree
abbrev pub AreRowsOf : (ℕ → Bool) → (ℕ → Name → Option (List ℕ)) → (ℕ → Option DbTree) → Type 0
AreRowsOf is_open rows trees = (d : ℕ) (x : Name) → is_open d ≡ true → rows d x ≡ data_in_tree x (trees d)
