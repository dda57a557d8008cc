-- Trees while a log is read again.
use Rattle.std.specs.Prelude.{◌≡◌, ◌≤◌, ◌<◌, ℕ, List, Option, None, Some}
use Rattle.std.specs.List.{AllByRecursion}
use Rattle.std.specs.Ordering.{nat_cmp}
use Rattle.std.specs.BTreeMap.{get}
use Rattle.je_order.specs.declared.name.Name.{Name}
use Rattle.record_tree.specs.LoadedNodes.{LoadedNode, AllNodes}
use Rattle.tree_nodes.specs.Levels.{AreParts}
use Rattle.log_trees.specs.Placed.{Placed}
use Rattle.db_tree.specs.declared.tree.DbTree.{DbTree}
use Rattle.db_tree.specs.Loading.{loaded_in}
use Rattle.tree_images.specs.Forest.{ForestFits}
use Rattle.in_tree.specs.Forest.{Forest}
use Rattle.in_tree.specs.Stored.{IsQuiet}
use Rattle.in_tree.specs.Waits.{waits_in}

-- ---- what always holds

-- the levels of each tree part all names
abbrev pub AreAllParts : Forest → Type 0
AreAllParts forest = (d : ℕ) (tree : DbTree) → get nat_cmp forest d ≡ Some tree → AreParts tree.levels

-- and no transaction has changed anything
pub record AreFormed (forest : Forest) : Type 0 where
  pub quiet : IsQuiet forest
  pub parts : AreAllParts forest

-- and no more nodes wait to be logged than are counted
pub record AreLoaded (forest : Forest) (count : ℕ) : Type 0 where
  pub formed : AreFormed forest
  pub waits : waits_in forest ≤ count

-- ---- nodes

abbrev pub node_in : Option DbTree → ℕ → Name → Option LoadedNode
node_in None level low = None
node_in (Some tree) level low = loaded_in tree.levels level low

-- the node of a level of a database with a low
abbrev pub nodes_of : Forest → AllNodes
nodes_of forest d level low = node_in (get nat_cmp forest d) level low

-- ---- what trees fit

-- the trees fit a log of earlier lives of the environment, with node numbers up to a last one, unless these have ended
abbrev pub FitsUpTo : ℕ → Forest → List Placed → ℕ → Type 0
FitsUpTo last forest es base = last < 0x7fffffffffffffff → AllByRecursion (λ p. p.0 < base) es → ForestFits es base last (λ d. get nat_cmp forest d)
