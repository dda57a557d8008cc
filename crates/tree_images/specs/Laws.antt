-- What holds of all trees that fit a log.
use Rattle.std.specs.Prelude.{◌≡◌, ◌≤◌, ◌<◌, ℕ, true, List, [], ◌∷◌, ◌++◌, Bool, Option, Some, IfSome, Box, if◌then◌else◌}
use Rattle.std.specs.List.{AllByRecursion}
use Rattle.std.specs.Ordering.{is_eq}
use Rattle.std.specs.Global.{Global}
use Rattle.je_order.specs.Order.{name_cmp}
use Rattle.je_order.specs.declared.name.Name.{Name}
use Rattle.log_entry.specs.declared.root.Root.{Root}
use Rattle.record_map.specs.declared.cell.Cell.{Cell}
use Rattle.record_map.specs.declared.write.Write.{Write}
use Rattle.record_map.specs.Cells.{value_at, with_write, committed}
use Rattle.db_tree.specs.Trees.{cell_or_fresh, given_up}
use Rattle.db_tree.specs.Stored.{with_logged, loaded_cell}
use Rattle.log_trees.specs.Trees.{data_of}
use Rattle.tree_nodes.specs.Nodes.{NodeRow}
use Rattle.log_trees.specs.Changes.{unwritten, last_of}
use Rattle.log_trees.specs.Trees.{rows_of_roots, shows as shows_slot}
use Rattle.log_trees.specs.Bounds.{is_within}
use Rattle.log_trees.specs.Sound.{IsTreeAt, Home, at_home, IsRootAt}
use Rattle.log_meaning.specs.Stands.{Covered}
use Rattle.log_meaning.specs.Recovery.{AreRootsRead}
use Rattle.log_entry.specs.declared.entry.Entry.TheVariants.{CkptEnd}
use Rattle.je_order.specs.declared.txn_id.TxnId.{TxnId}
use Rattle.db_tree.specs.declared.node_at.NodeAt.{NodeAt}
use Rattle.db_tree.specs.declared.tree.DbTree.{DbTree}
use Rattle.db_tree.specs.Images.{Placed, shows, IsRead}
use Rattle.tree_images.specs.Sound.{IsSoundImage}
use Rattle.tree_images.specs.Fits.{IsRecorded, AreRecorded, FitsBut, FitsTree}
use Rattle.tree_images.specs.Roots.{newest_at, FitsForest, AreRootsOf, MayBeRoot, AreRowsOf}

-- ---- images

-- a sound image is the root of a right tree, as opening reads it
abbrev pub SoundImagesAreTrees : Type 0
SoundImagesAreTrees = (es : Placed) (home : ℕ → Home) (last d level : ℕ) (low : Name) (high : Option Name) (at : ℕ) → IsSoundImage es home last d level low high at →
    IsTreeAt es (at_home home d) d level low high at

-- which shows of each name within its bounds what the tree takes it to show
abbrev pub SoundImagesShow : Type 0
SoundImagesShow = (es : Placed) (home : ℕ → Home) (last d level : ℕ) (low : Name) (high : Option Name) (at : ℕ) (x : Name) → IsSoundImage es home last d level low high at → is_within low high x ≡ true →
    shows_slot es level at x ≡ shows es level at x

-- the images that are read for a name within the bounds are there
abbrev pub SoundImagesAreRead : Type 0
SoundImagesAreRead = (es : Placed) (home : ℕ → Home) (last d level : ℕ) (low : Name) (high : Option Name) (at : ℕ) (x : Name) → IsSoundImage es home last d level low high at → is_within low high x ≡ true → IsRead es level at x

-- a home and another one agree on the numbers that were allocated
abbrev pub AgreesUpTo : ℕ → (ℕ → Home) → (ℕ → Home) → Type 0
AgreesUpTo last home other = (number : ℕ) → number ≤ last → other number ≡ home number

-- a sound image is sound in a longer log, and with more numbers
abbrev pub SoundImagesStay : Type 0
SoundImagesStay = (es more : Placed) (home other : ℕ → Home) (last later d level : ℕ) (low : Name) (high : Option Name) (at : ℕ) → AgreesUpTo last home other → last ≤ later →
    IsSoundImage es home last d level low high at → IsSoundImage (es ++ more) other later d level low high at

-- ---- trees

-- a tree fits a longer log, whatever it got, and with more numbers
abbrev pub FittingTreesStay : Type 0
FittingTreesStay = (es more : Placed) (base : ℕ) (newest newer : Name → ℕ) (home other : ℕ → Home) (last later d : ℕ) (due : List NodeAt) (rows : List NodeRow) (cells : List (Name × Cell)) →
    ((x : Name) → newest x ≤ newer x) → AgreesUpTo last home other → last ≤ later →
    FitsBut es base newest home last d due rows cells → FitsBut (es ++ more) base newer other later d due rows cells

-- where the log got entries and one database's tree, or none, took the place of another one, the trees of all fit if that one does
abbrev pub ForestsStay : Type 0
ForestsStay = (es more : Placed) (base : ℕ) (home other : ℕ → Home) (last later d : ℕ) (old new : ℕ → Option DbTree) → FitsForest es base home last old →
    ((b : ℕ) (x : Name) → newest_at base es b x ≤ newest_at base (es ++ more) b x) → AgreesUpTo last home other → last ≤ later → ((b : ℕ) → (b ≡ d → ⊥) → new b ≡ old b) →
    ((tree : DbTree) → new d ≡ Some tree → FitsTree (es ++ more) base (newest_at base (es ++ more) d) other later d tree.levels tree.cells) → FitsForest (es ++ more) base other later new

-- ---- cells

-- one name's cell is another one, or none, and all else is as before
abbrev pub HasSet : List (Name × Cell) → List (Name × Cell) → Name → Option Cell → Type 0
HasSet old new name o = (x : Name) → value_at x new ≡ (if is_eq (name_cmp name x) then o else value_at x old)

-- a name's cell that is set is recorded, and the others are as they were
abbrev pub CellsAreSet : Type 0
CellsAreSet = (es : Placed) (d : ℕ) (old new : List (Name × Cell)) (name : Name) (o : Option Cell) → HasSet old new name o → IfSome o (IsRecorded es d name) → AreRecorded es d old → AreRecorded es d new

-- a name's cell, or one that is made for it
abbrev pub MadeCellsAreRecorded : Type 0
MadeCellsAreRecorded = (es : Placed) (d : ℕ) (x : Name) (o : Option Cell) → IfSome o (IsRecorded es d x) → IsRecorded es d x (cell_or_fresh o)

-- a cell with a change whose data stands where it was logged
abbrev pub WritesAreRecorded : Type 0
WritesAreRecorded = (es : Placed) (d : ℕ) (x : Name) (cell : Cell) (w : Box Write Global) → IfSome w.value.value (λ v. data_of es d x w.value.at ≡ Some v) → IsRecorded es d x cell → IsRecorded es d x (with_write (Some w) cell)

-- a cell whose change is committed, or given up
abbrev pub CommittedCellsAreRecorded : Type 0
CommittedCellsAreRecorded = (es : Placed) (d : ℕ) (x : Name) (cell : Cell) (at : ℕ) (last : Option ℕ) → IsRecorded es d x cell → IsRecorded es d x (committed at last cell)

abbrev pub GivenUpCellsAreRecorded : Type 0
GivenUpCellsAreRecorded = (es : Placed) (d : ℕ) (x : Name) (o : Option Cell) → IfSome o (IsRecorded es d x) → IfSome (given_up o) (IsRecorded es d x)

-- a cell with what was logged at an LSN, or deleted there
abbrev pub LoggedCellsAreRecorded : Type 0
LoggedCellsAreRecorded = (es : Placed) (d : ℕ) (x : Name) (value : Option (List ℕ)) (at commit : ℕ) (last : Option ℕ) (cell : Cell) → IfSome value (λ v. data_of es d x at ≡ Some v) →
    IsRecorded es d x cell → IsRecorded es d x (with_logged value at commit last cell)

-- the cell of a record that a BIN's image shows
abbrev pub LoadedCellsAreRecorded : Type 0
LoadedCellsAreRecorded = (es : Placed) (d : ℕ) (x : Name) (at : ℕ) (value : List ℕ) → data_of es d x at ≡ Some value → IsRecorded es d x (loaded_cell at value)

-- ---- checkpoints

-- what a checkpoint's end owes that names the roots of trees: they are right, and what they lack is redone
pub record AreRightRoots (es : Placed) (base at : ℕ) (is_open : ℕ → Bool) (rows : ℕ → Name → Option (List ℕ)) (home : ℕ → Home) (redo : ℕ) (roots : List Root) : Type 0 where
  pub covered : Covered es base is_open rows (λ d x. last_of d x (rows_of_roots es at roots) unwritten) redo
  pub right : AllByRecursion (IsRootAt es home at) roots

abbrev pub RootsOfFittingTreesAreRight : Type 0
RootsOfFittingTreesAreRight = (es : Placed) (base at : ℕ) (is_open : ℕ → Bool) (rows : ℕ → Name → Option (List ℕ)) (home : ℕ → Home) (last redo : ℕ) (trees : ℕ → Option DbTree) (roots : List Root) →
    AllByRecursion (λ p. p.0 < at) es → base ≤ redo → FitsForest es base home last trees → AreRootsOf trees roots → AreRowsOf is_open rows trees →
    ((d : ℕ) (tree : DbTree) → trees d ≡ Some tree → MayBeRoot redo tree.levels) → AreRightRoots es base at is_open rows home redo roots

-- and they are read with no corruption from a log with that end behind it
abbrev pub RootsOfFittingTreesAreRead : Type 0
RootsOfFittingTreesAreRead = (es : Placed) (base at : ℕ) (is_open : ℕ → Bool) (rows : ℕ → Name → Option (List ℕ)) (home : ℕ → Home) (redo : ℕ) (trees : ℕ → Option DbTree) (roots : List Root)
    (number start : ℕ) (last_txn : TxnId) (last_node last_db : ℕ) (summary : Option ℕ) →
    AreRootsOf trees roots → AreRightRoots es base at is_open rows home redo roots → AreRootsRead (es ++ (at, CkptEnd number start redo last_txn last_node last_db summary roots) ∷ [])
