-- Nodes that are put into the trees of all databases.
use Rattle.std.specs.Prelude.{◌≡◌, ◌⊎◌, ℕ, false, refl, Option, None, Some, is_some, if◌then◌else◌}
use Rattle.std.specs.Ordering.{nat_cmp}
use Rattle.std.specs.BTreeMap.{get}
use Rattle.je_order.specs.declared.name.Name.{Name}
use Rattle.record_tree.specs.LoadedNodes.{LoadedNode}
use Rattle.db_tree.specs.declared.tree.DbTree.{DbTree}
use Rattle.db_tree.specs.Loading.{IsLoaded, loaded_in}
use Rattle.db_tree.specs.NodeSteps.{IsOneNode}
use Rattle.in_tree.specs.Forest.{Forest, IsSameForest, Replaces}
use Rattle.in_tree.specs.Loaded.{node_in}

-- a tree got a node as it was read
pub record HasLoadedIn (level : ℕ) (low : Name) (as_read : LoadedNode) (old new : DbTree) : Type 0 where
  pub loaded : IsLoaded old.levels new.levels level low as_read

-- a database that had no tree got one of a root with a number
pub record IsMadeIn (db number : ℕ) (old new : Forest) : Type 0 where
  pub none : get nat_cmp old db ≡ None
  pub tree : DbTree
  pub root : IsOneNode tree.levels number
  pub has : Replaces old new db (Some tree)

-- a database has a tree, as it had before, or a new one
abbrev pub IsEnsured : ℕ → ℕ → Forest → Forest → Type 0
IsEnsured db number old new = IsSameForest old new ⊎ IsMadeIn db number old new

-- a database without a tree has no nodes
pub no_nodes : (o : Option DbTree) (level : ℕ) (low : Name) → is_some o ≡ false → node_in o level low ≡ None
no_nodes None level low none = refl
no_nodes (Some tree) level low none = λ i. if none i then loaded_in tree.levels level low else None
