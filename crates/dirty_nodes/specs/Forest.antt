-- The nodes of the trees of all databases.
use Rattle.std.specs.Prelude.{◌≡◌, ◌⊎◌, ℕ, Bool, true, false, List, [], ◌∷◌, Option, None, Some}
use Rattle.std.specs.List.{AllByRecursion, list_any, sum_by}
use Rattle.std.specs.Ordering.{is_eq, nat_cmp}
use Rattle.std.specs.BTreeMap.{BTreeMap, get}
use Rattle.log_entry.specs.declared.root.Root.{Root}
use Rattle.record_map.specs.Cells.{IsRising}
use Rattle.record_tree.specs.declared.node_place.NodePlace.{NodePlace}
use Rattle.je_order.specs.declared.name.Name.{Name}
use Rattle.db_tree.specs.declared.tree.DbTree.{DbTree}
use Rattle.tree_nodes.specs.Nodes.{NodeRow}
use Rattle.tree_nodes.specs.Levels.{AreParts}
use Rattle.tree_nodes.specs.Noted.{AreNoted, count_all_due}
use Rattle.dirty_nodes.specs.Marks.{AllFrom, AllSince, IsMark, is_dirty_at, is_noted_at, is_to_note_at}

-- what holds of a place in the tree of its database
abbrev pub at_place : (List NodeRow → ℕ → Name → ℕ → Bool) → Option DbTree → NodePlace → Bool
at_place test None p = false
at_place test (Some tree) p = test tree.levels p.level p.low p.node

-- whether the node at a place is there and dirty
abbrev pub is_dirty_in : BTreeMap ℕ DbTree → NodePlace → Bool
is_dirty_in forest p = at_place is_dirty_at (get nat_cmp forest p.db) p

-- whether it is there and noted
abbrev pub is_noted_in : BTreeMap ℕ DbTree → NodePlace → Bool
is_noted_in forest p = at_place is_noted_at (get nat_cmp forest p.db) p

-- whether it is there, and dirty or above a dirty node
abbrev pub is_to_note_in : BTreeMap ℕ DbTree → NodePlace → Bool
is_to_note_in forest p = at_place is_to_note_at (get nat_cmp forest p.db) p

-- how many nodes are noted and dirty
abbrev pub left_in : BTreeMap ℕ DbTree → ℕ
left_in forest = sum_by (λ e. count_all_due e.1.levels) forest.entries

-- ---- noting

-- a database's tree has its dirty nodes noted and those above them, and no others; no record changed, and its levels part all names
pub record IsNotedTree (old new : DbTree) : Type 0 where
  pub noted : AreNoted old.levels new.levels
  pub cells : new.cells ≡ old.cells
  pub parts : AreParts new.levels

-- so it is with each database
abbrev pub IsNotedOne : Option DbTree → Option DbTree → Type 0
IsNotedOne None None = Unit {0}
IsNotedOne None (Some new) = ⊥
IsNotedOne (Some old) None = ⊥
IsNotedOne (Some old) (Some new) = IsNotedTree old new

abbrev pub AreNotedTrees : BTreeMap ℕ DbTree → BTreeMap ℕ DbTree → Type 0
AreNotedTrees old new = (d : ℕ) → IsNotedOne (get nat_cmp old d) (get nat_cmp new d)

-- a list has the number of each database
abbrev pub HasAllNumbers : BTreeMap ℕ DbTree → List ℕ → Type 0
HasAllNumbers forest dbs = (d : ℕ) (tree : DbTree) → get nat_cmp forest d ≡ Some tree → list_any (λ b. is_eq (nat_cmp b d)) dbs ≡ true

-- ---- marks

-- no node waits to be logged, and no image lacks what was logged before an LSN
abbrev pub IsSince : BTreeMap ℕ DbTree → ℕ → Type 0
IsSince forest since = AllByRecursion (λ e. AllSince since e.1.levels) forest.entries

-- the parts of each tree fit each other, its names rise, and no image lacks what was logged before an LSN
abbrev pub IsFrom : BTreeMap ℕ DbTree → ℕ → Type 0
IsFrom forest least = (d : ℕ) (tree : DbTree) → get nat_cmp forest d ≡ Some tree → AllFrom least tree.levels × AreParts tree.levels × IsRising tree.cells

-- the image of a node of one of the trees lacks what was logged from an LSN on
pub record IsMarkIn (forest : BTreeMap ℕ DbTree) (lsn : ℕ) : Type 0 where
  pub db : ℕ
  pub tree : DbTree
  pub there : get nat_cmp forest db ≡ Some tree
  pub mark : IsMark tree.levels lsn

abbrev pub IsMarkOrIn : ℕ → BTreeMap ℕ DbTree → ℕ → Type 0
IsMarkOrIn bound forest lsn = (lsn ≡ bound) ⊎ IsMarkIn forest lsn

-- the root of a database's tree, if it has an image
abbrev pub root_for : ℕ → Option ℕ → List Root
root_for db None = []
root_for db (Some image) = record { db = db; image = image } ∷ []
