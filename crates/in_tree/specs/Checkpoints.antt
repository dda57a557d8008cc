-- What a checkpoint logs of the trees.
use Rattle.std.specs.Prelude.{◌≡◌, ◌≤◌, ◌<◌, ◌++◌, ℕ, false, List, [], ◌∷◌, Option, Some, IsSome, map}
use Rattle.std.specs.Ordering.{nat_cmp}
use Rattle.std.specs.BTreeMap.{get}
use Rattle.je_disk.specs.DiskMeaning.{DiskMeaning}
use Rattle.je_lsn.specs.Naming.{last_file}
use Rattle.je_order.specs.declared.name.Name.{Name}
use Rattle.log_entry.specs.Body.{IsEntry}
use Rattle.log_entry.specs.Encoding.{size_of}
use Rattle.log_entry.specs.declared.entry.Entry.{Entry}
use Rattle.log_entry.specs.declared.entry.Entry.TheVariants.{CkptStart, CkptEnd}
use Rattle.log_entry.specs.declared.root.Root.{Root}
use Rattle.log_buffer.specs.declared.buffer.LogBuffer.{LogBuffer}
use Rattle.log_buffer.specs.Buffer.{end_of, file_max_of, IsUnchanged}
use Rattle.log_buffer.specs.Flip.{placed_at, pos_lsn}
use Rattle.record_map.specs.Cells.{value_at, IsRising}
use Rattle.record_tree.specs.declared.checkpoint_end.CheckpointEnd.{CheckpointEnd}
use Rattle.record_tree.specs.declared.node_place.NodePlace.{NodePlace}
use Rattle.record_tree.specs.Nodes.{ends_at}
use Rattle.tree_nodes.specs.Nodes.{NodeRow}
use Rattle.tree_nodes.specs.Levels.{row_of, AreParts}
use Rattle.tree_nodes.specs.declared.node.Node.{Node}
use Rattle.db_tree.specs.declared.node_image.NodeImage.{NodeImage}
use Rattle.db_tree.specs.declared.tree.DbTree.{DbTree}
use Rattle.db_tree.specs.NodeImages.{AreBelowLogged, IsLoggable, IsNodeImage}
use Rattle.tree_images.specs.Roots.{AreRootsOf, MayBeRoot}
use Rattle.tree_nodes.specs.Nodes.{is_dirty}
use Rattle.dirty_nodes.specs.Forest.{IsFrom, IsMarkOrIn}
use Rattle.in_tree.specs.declared.trees.Trees.{Trees}
use Rattle.in_tree.specs.Forest.{Forest}
use Rattle.in_tree.specs.Growing.{trees_at}
use Rattle.in_tree.specs.Limits.{GrewFitting, commit_sizes, end_behind}

-- an entry of a checkpoint, but for images of nodes
abbrev pub IsCheckpointEntry : Entry → Type 0
IsCheckpointEntry (CkptStart number) = Unit {0}
IsCheckpointEntry (CkptEnd number start redo last_txn last_node last_db summary roots) = Unit {0}
IsCheckpointEntry entry = ⊥

-- the node of a level with a low is not dirty
abbrev pub IsClean : List NodeRow → ℕ → Name → Type 0
IsClean rows level low = (n : Node) → value_at low (row_of rows level) ≡ Some n → is_dirty n ≡ false

module _ {D : Type 0} where
  -- entries, with so many Commits behind them, would pass the last file
  abbrev pub IsFullFor : LogBuffer D → List Entry → ℕ → Type 0
  IsFullFor log entries owed = last_file < end_behind log (map size_of entries ++ commit_sizes owed)

  -- a checkpoint's end may name these roots of trees, with a redo from an LSN on, which is before the log's end
  pub record MayEndTrees (log : LogBuffer D) (trees : ℕ → Option DbTree) (redo : ℕ) (roots : List Root) : Type 0 where
    pub roots_are : AreRootsOf trees roots
    pub each : (d : ℕ) (tree : DbTree) → trees d ≡ Some tree → MayBeRoot redo tree.levels
    pub rising : (d : ℕ) (tree : DbTree) → trees d ≡ Some tree → IsRising tree.cells
    pub below : redo < pos_lsn (end_of log)

-- An image is that of the node at a place, none of whose children waits; it may be logged.
pub record IsAloneOf (tree : DbTree) (place : NodePlace) (image : NodeImage) : Type 0 where
  pub level : image.level ≡ place.level
  pub low : image.low ≡ place.low
  pub there : IsSome (value_at image.low (row_of tree.levels image.level))
  pub made : IsNodeImage place.db tree.levels tree.cells image
  pub loggable : IsLoggable image.entry
  pub below : AreBelowLogged tree.levels image.level image.children.items
  pub parts : AreParts tree.levels
  pub rising : IsRising tree.cells

abbrev pub IsAloneIn : Forest → NodePlace → NodeImage → Type 0
IsAloneIn forest place image = (tree : DbTree) × (get nat_cmp forest place.db ≡ Some tree) × IsAloneOf tree place image

-- An entry is the end of a checkpoint that names the roots of the trees. Its redo LSN is the least of a bound and of those from which on an image of
-- a node lacks something.
pub record IsEndEntry {D : Type 0} (log : LogBuffer D) (trees : Trees) (end : CheckpointEnd) (bound redo : ℕ) (entry : Entry) : Type 0 where
  pub roots : List Root
  pub entry_is : entry ≡ ends_at end redo trees.last_node roots
  pub is_entry : IsEntry entry
  pub upto : redo ≤ bound
  pub all : IsFrom trees.forest redo
  pub some : IsMarkOrIn bound trees.forest redo
  pub roots_are : AreRootsOf (trees_at trees.forest) roots
  pub below : bound < pos_lsn (end_of log)

module _ {D : Type 0} (meaning : DiskMeaning D) where
  -- the log got an entry at an LSN, behind what it had
  pub record HasGot (old new : LogBuffer D) (entry : Entry) (at : ℕ) : Type 0 where
    pub mid : LogBuffer D
    pub same : IsUnchanged old mid
    pub grew : GrewFitting meaning mid new (entry ∷ [])
    pub at_is : at ≡ pos_lsn (placed_at (file_max_of mid) (end_of mid) (size_of entry))
