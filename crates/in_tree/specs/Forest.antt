-- The trees of all databases, and what transactions see in them.
use Rattle.std.specs.Prelude.{◌≡◌, ◌⊎◌, ◌==◌, ◌&&◌, ℕ, Bool, false, refl, List, [], ◌∷◌, Option, Some, None, IsSome, is_some, if◌then◌else◌}
use Rattle.std.specs.Ordering.{is_eq, nat_cmp}
use Rattle.std.specs.BTreeMap.{BTreeMap, get}
use Rattle.std.proofs.lemmas.Map.Keys.{IsStrictlySortedBy-prop}
use mathlib.Core.HLevel.{Π_prop}
use Rattle.je_order.specs.Order.{name_cmp}
use Rattle.je_order.specs.declared.name.Name.{Name}
use Rattle.je_order.specs.declared.txn_id.TxnId.{TxnId}
use Rattle.record_map.specs.declared.cell.Cell.{Cell}
use Rattle.record_map.specs.declared.write.Write.{Write}
use Rattle.record_map.specs.Cells.{value_at, IsRising}
use Rattle.record_tree.specs.Occupied.{Occupied, AllCells, after_commit}
use Rattle.record_tree.specs.declared.tree_change.TreeChange.{TreeChange}
use Rattle.record_tree.specs.declared.tree_name.TreeName.{TreeName}
use Rattle.db_tree.specs.declared.tree.DbTree.{DbTree}
use Rattle.db_tree.specs.Seen.{occupied}
use Rattle.tree_images.specs.TreeSteps.{HasCommitted, HasGivenUp}

-- the trees by their databases' numbers
abbrev pub Forest : Type 0
Forest = BTreeMap ℕ DbTree

abbrev pub cells_of : Option DbTree → List (Name × Cell)
cells_of None = []
cells_of (Some tree) = tree.cells

-- the cells of a database, none where it has no tree
abbrev pub cells_at : Forest → ℕ → List (Name × Cell)
cells_at forest d = cells_of (get nat_cmp forest d)

abbrev pub is_there : Forest → ℕ → Bool
is_there forest d = is_some (get nat_cmp forest d)

-- the names of each database that are occupied
abbrev pub cells_seen : Forest → AllCells
cells_seen forest d = occupied (cells_at forest d)

-- the occupied names of each database are in order, of which there is one proof
abbrev pub AreOrdered : Forest → Type 0
AreOrdered forest = (d : ℕ) → IsRising (cells_seen forest d)

pub ordered_once : (forest : Forest) → IsProp (AreOrdered forest)
ordered_once forest = Π_prop (λ d. IsStrictlySortedBy-prop name_cmp _)

-- one name of one database changed
abbrev pub HasChange : AllCells → AllCells → ℕ → Name → (Option Occupied → Option Occupied) → Type 0
HasChange old new db name change =
    (d : ℕ) (x : Name) → value_at x (new d) ≡ (if d == db && is_eq (name_cmp name x) then change (value_at x (old d)) else value_at x (old d))

-- the map has another tree, or none, at a number, and all else as before
abbrev pub Replaces : Forest → Forest → ℕ → Option DbTree → Type 0
Replaces old new db o = (d : ℕ) → get nat_cmp new d ≡ (if is_eq (nat_cmp db d) then o else get nat_cmp old d)

-- a database's tree made a step, and all else is as before
pub record IsStepIn (db : ℕ) (Step : DbTree → DbTree → Type 0) (old new : Forest) : Type 0 where
  pub tree : DbTree
  pub next : DbTree
  pub was : get nat_cmp old db ≡ Some tree
  pub has : Replaces old new db (Some next)
  pub step : Step tree next

-- each database has the same tree, or none as before
abbrev pub IsSameForest : Forest → Forest → Type 0
IsSameForest old new = (d : ℕ) → get nat_cmp new d ≡ get nat_cmp old d

-- a database's tree made a step, if it has one
abbrev pub MayStepIn : ℕ → (DbTree → DbTree → Type 0) → Forest → Forest → Type 0
MayStepIn db Step old new = IsSameForest old new ⊎ IsStepIn db Step old new

-- each of some names made a step of the trees, one after the other
abbrev pub MakesSteps : (TreeName → Forest → Forest → Type 0) → List TreeName → Forest → Forest → Type 0
MakesSteps Step [] old new = IsSameForest old new
MakesSteps Step (n ∷ names) old new = (mid : Forest) × Step n old mid × MakesSteps Step names mid new

-- a name's change is committed by the Commit at an LSN, or given up
pub record CommitsName (at : ℕ) (n : TreeName) (old new : Forest) : Type 0 where
  pub step : MayStepIn n.db (HasCommitted n.name at) old new
  pub seen : HasChange (cells_seen old) (cells_seen new) n.db n.name after_commit

abbrev pub GivesUpName : TreeName → Forest → Forest → Type 0
GivesUpName n old new = MayStepIn n.db (HasGivenUp n.name) old new

-- each database has a tree as before
abbrev pub HasSameTrees : Forest → Forest → Type 0
HasSameTrees old new = (d : ℕ) → is_there new d ≡ is_there old d

-- each database but one has the same tree, or none as before
abbrev pub HasSameOthers : ℕ → Forest → Forest → Type 0
HasSameOthers db old new = (d : ℕ) → (d ≡ db → ⊥) → get nat_cmp new d ≡ get nat_cmp old d

-- no cell went
abbrev pub KeepsCells : Forest → Forest → Type 0
KeepsCells old new = (d : ℕ) (x : Name) → IsSome (value_at x (cells_at old d)) → IsSome (value_at x (cells_at new d))

-- no cell changed
abbrev pub HasSameCells : Forest → Forest → Type 0
HasSameCells old new = (d : ℕ) → cells_at new d ≡ cells_at old d

-- a name has a cell
abbrev pub HasOne : Forest → ℕ → Name → Type 0
HasOne forest db name = IsSome (value_at name (cells_at forest db))

-- the change that is to be kept in a cell, before it is logged
abbrev pub write_for : TxnId → TreeChange → Write
write_for txn c = record { txn = txn; at = 0; value = c.value }

-- nothing is seen of a database without a tree
pub none_seen : (o : Option DbTree) → is_some o ≡ false → occupied (cells_of o) ≡ []
none_seen None none = refl
none_seen (Some tree) none = λ i. if none i then occupied tree.cells else []
