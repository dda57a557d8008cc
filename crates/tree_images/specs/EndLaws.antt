-- What the end of a checkpoint owes that is logged where the trees of all databases fit the log.
use Rattle.std.specs.Prelude.{◌≡◌, ◌≤◌, ◌<◌, ℕ, ◌/◌, ◌^◌, Bool, true, List, Option, Some}
use Rattle.std.specs.List.{AllByRecursion}
use Rattle.je_order.specs.declared.name.Name.{Name}
use Rattle.log_entry.specs.declared.root.Root.{Root}
use Rattle.log_trees.specs.Placed.{AreInOrder}
use Rattle.log_trees.specs.Changes.{LoggedChange}
use Rattle.log_meaning.specs.Ending.{MayEnd}
use Rattle.log_meaning.specs.Stands.{Stands}
use Rattle.db_tree.specs.declared.tree.DbTree.{DbTree}
use Rattle.db_tree.specs.Images.{Placed}
use Rattle.tree_images.specs.Forest.{ForestFits, latest_at}
use Rattle.tree_images.specs.Roots.{AreRootsOf, AreRowsOf, MayBeRoot, newest_at}

-- the change of a name with the greatest LSN is its newest one
abbrev pub LatestAreNewest : Type 0
LatestAreNewest = (es : Placed) (base next : ℕ) (is_open : ℕ → Bool) (rows : ℕ → Name → Option (List ℕ)) (is_live : ℕ → Bool) (logged : ℕ → List LoggedChange) (d : ℕ) (x : Name) →
    Stands es base next is_open rows is_live logged → AreInOrder es → latest_at base es d x ≤ newest_at base es d x

-- where a redo begins: in this life, up to the last entry, in a file that is there, and not behind an entry of a transaction under way
pub record IsRedoFrom (first base next redo : ℕ) (is_live : ℕ → Bool) (logged : ℕ → List LoggedChange) : Type 0 where
  pub from : base ≤ redo
  pub upto : redo ≤ next
  pub file : first ≤ redo / 2 ^ 32
  pub own : (t : ℕ) → is_live t ≡ true → AllByRecursion (λ c. redo ≤ c.written.at) (logged t)

-- a checkpoint's end may be logged that names the roots of trees that fit
abbrev pub ForestsMayEnd : Type 0
ForestsMayEnd = (first : ℕ) (es : Placed) (base next at : ℕ) (is_open : ℕ → Bool) (rows : ℕ → Name → Option (List ℕ)) (is_live : ℕ → Bool) (logged : ℕ → List LoggedChange) (redo : ℕ) (roots : List Root)
    (last : ℕ) (trees : ℕ → Option DbTree) →
    Stands es base next is_open rows is_live logged → AreInOrder es → AllByRecursion (λ p. p.0 < at) es → next < at → IsRedoFrom first base next redo is_live logged →
    ForestFits es base last trees → AreRootsOf trees roots → AreRowsOf is_open rows trees → ((d : ℕ) (tree : DbTree) → trees d ≡ Some tree → MayBeRoot redo tree.levels) →
    MayEnd first es base next at is_open rows is_live logged redo roots
