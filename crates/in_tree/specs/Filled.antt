-- A new database's tree that is filled before it is one of the trees: as it is once the images of its nodes and its changes are logged.
use Rattle.std.specs.Prelude.{◌≡◌, ◌==◌, ◌<◌, ◌≤◌, ◌+◌, ◌^◌, ◌++◌, nat_lt, ℕ, false, List, [], ◌∷◌, Option, Some, IsSome, map, length, min, if◌then◌else◌, Vec, Box}
use Rattle.std.specs.List.{AllByRecursion}
use Rattle.std.specs.Global.{Global}
use Rattle.std.specs.Ordering.{is_eq}
use Rattle.je_disk.specs.DiskMeaning.{DiskMeaning}
use Rattle.je_order.specs.Order.{name_cmp}
use Rattle.je_order.specs.declared.name.Name.{Name}
use Rattle.je_order.specs.declared.txn_id.TxnId.{TxnId}
use Rattle.je_lsn.specs.Naming.{last_file}
use Rattle.log_entry.specs.Encoding.{size_of}
use Rattle.log_entry.specs.declared.entry.Entry.{Entry}
use Rattle.log_file.specs.Placed.{AreInOrder}
use Rattle.log_buffer.specs.declared.buffer.LogBuffer.{LogBuffer}
use Rattle.log_buffer.specs.declared.log_pos.LogPos.{LogPos}
use Rattle.log_buffer.specs.declared.next_place.NextPlace.{NextPlace}
use Rattle.log_buffer.specs.Buffer.{end_of, file_max_of}
use Rattle.log_buffer.specs.Flip.{end_after_all}
use Rattle.log_buffer.specs.Laws.{placed_by}
use Rattle.log_buffer.specs.NextPlaces.{IsBehind, IsTakenAt}
use Rattle.log_trees.specs.Laws.{AreBehind}
use Rattle.log_trees.specs.Sound.{Home, at_home}
use Rattle.record_map.specs.Cells.{value_at, IsRising}
use Rattle.record_map.specs.declared.write.Write.{Write}
use Rattle.record_tree.specs.declared.tree_change.TreeChange.{TreeChange}
use Rattle.record_tree.specs.declared.tree_err.TreeErr.{TreeErr}
use Rattle.record_tree.specs.declared.tree_err.TreeErr.TheVariants.{IdsEnded}
use Rattle.record_tree.specs.Logged.{entry_for}
use Rattle.record_tree.specs.Occupied.{AllCells, AreWritten, Occupied}
use Rattle.tree_nodes.specs.declared.node.Node.{Node}
use Rattle.tree_nodes.specs.Nodes.{least}
use Rattle.tree_nodes.specs.Levels.{row_of, AreParts}
use Rattle.tree_nodes.specs.Lows.{lows_of}
use Rattle.db_tree.specs.declared.node_at.NodeAt.{NodeAt}
use Rattle.db_tree.specs.declared.node_image.NodeImage.{NodeImage}
use Rattle.db_tree.specs.declared.slot_room.SlotRoom.{SlotRoom}
use Rattle.db_tree.specs.declared.tree.DbTree.{DbTree}
use Rattle.db_tree.specs.Content.{kept_by}
use Rattle.db_tree.specs.Dirty.{AreExact}
use Rattle.db_tree.specs.Images.{Placed}
use Rattle.db_tree.specs.NodeImages.{finished, sizes_in, IsLoggable}
use Rattle.db_tree.specs.NodeSteps.{IsLoggedUp, IsNoted}
use Rattle.db_tree.specs.Seen.{occupied, with_change}
use Rattle.db_tree.specs.Shapes.{count_in, made_by, new_shape, shape_in}
use Rattle.db_tree.specs.Trees.{IsImageOf, IsTree}
use Rattle.db_tree.specs.Waiting.{still_waiting, waiting_of}
use Rattle.tree_images.specs.Forest.{AreLogged}
use Rattle.tree_images.specs.Laws.{AgreesUpTo}
use Rattle.tree_images.specs.TreeSteps.{HasSlot, HasWritten, IsNewTree}
use Rattle.in_tree.specs.declared.filled.Filled.{Filled}
use Rattle.in_tree.specs.declared.logged_trees.LogTrees.{LogTrees}
use Rattle.in_tree.specs.Filling.{is_filled_too_high, numbers_filled, sizes_filled}
use Rattle.in_tree.specs.Forest.{Forest, cells_seen, HasChange, HasSameOthers, HasSameTrees, Replaces}
use Rattle.in_tree.specs.Growing.{IsFitDue}
use Rattle.in_tree.specs.Logging.{LogsChange}
use Rattle.in_tree.specs.Limits.{change_size, commit_sizes, end_behind, limit_behind, one_made, GrewFitting, HasRoomFor}
use Rattle.in_tree.specs.Placing.{first_behind, room_sizes, IsFittedIn, IsPlacedIn}
use Rattle.in_tree.specs.Waits.{waits_in}

-- ---- a log that gets entries

-- entries stand behind those of a log, and in this life of the environment, which begins at `base`, and they pass no last file
pub record CanFollow (es : Placed) (base file_max : ℕ) (end : LogPos) (entries : List Entry) : Type 0 where
  pub behind : AllByRecursion (λ p. AreBehind p.0 (placed_by file_max end entries)) es
  pub order : AreInOrder (placed_by file_max end entries)
  pub begun : AllByRecursion (λ p. base ≤ p.0) (placed_by file_max end entries)
  pub files : (end_after_all file_max end (map size_of entries)).file ≤ last_file

-- The tree of a database fits each log that ends at a place and gets entries there, but for images that are due. `number` is that of its root, and
-- `last` the one allocated last
abbrev pub FitsAhead : ℕ → LogPos → ℕ → ℕ → ℕ → List Entry → DbTree → List NodeImage → Type 0
FitsAhead file_max end d number last entries tree due =
    (es : Placed) (base : ℕ) (home : ℕ → Home) → at_home home d number 0 least → last ≤ 0x7fffffffffffffff → CanFollow es base file_max end entries →
    (other : ℕ → Home) × AgreesUpTo number home other × IsFitDue other last d tree due (es ++ placed_by file_max end entries) base × AreLogged (es ++ placed_by file_max end entries) base d tree.cells

-- an entry of so many bytes took the next place, at an LSN
abbrev pub IsTaken : NextPlace → NextPlace → ℕ → ℕ → Type 0
IsTaken before after size at = (file_max : ℕ) (end : LogPos) (sizes : List ℕ) → IsBehind file_max end sizes before → IsTakenAt file_max end sizes size at × IsBehind file_max end (sizes ++ size ∷ []) after

-- ---- the tree

-- what noting an image at its node did
pub record HasNoted (image : NodeImage) (at : ℕ) (before after : DbTree) : Type 0 where
  pub cells : after.cells ≡ before.cells
  pub parts : AreParts after.levels
  pub noted : IsSome (value_at image.low (row_of before.levels image.level)) → IsNoted before.levels after.levels image.level image.low at
  pub up : IsSome (value_at image.low (row_of before.levels image.level)) → IsLoggedUp before.levels after.levels image.level image.low at
  pub exact : (es : Placed) (due : List NodeAt) → ((n : Node) → value_at image.low (row_of before.levels image.level) ≡ Some n → IsImageOf es before.levels (kept_by before.cells) image.level (image.low, n) at) →
      AreExact (record { level = image.level; low = image.low } ∷ due) before.levels before.cells → AreExact due after.levels after.cells
  pub keeps : (es : Placed) (base : ℕ) (newest : Name → ℕ) → ((n : Node) → value_at image.low (row_of before.levels image.level) ≡ Some n → IsImageOf es before.levels (kept_by before.cells) image.level (image.low, n) at) →
      IsTree es base newest before.levels before.cells → IsTree es base newest after.levels after.cells

-- an image took the next place, and its node has it
pub record IsImageTaken (image : NodeImage) (old new : DbTree) (before after : NextPlace) (e : Entry) : Type 0 where
  pub at : ℕ
  pub entry : e ≡ (finished old.levels image).entry
  pub loggable : IsLoggable e
  pub size : size_of e ≡ size_of image.entry
  pub noted : HasNoted image at old new
  pub taken : IsTaken before after (size_of e) at
  pub lows : lows_of new.levels ≡ lows_of old.levels
  pub waits : waiting_of new.levels ≡ still_waiting (record { level = image.level; low = image.low } ∷ []) 0 (waiting_of old.levels)

-- so did images, one after the other
pub record AreImagesTaken (images : List NodeImage) (old new : DbTree) (before after : NextPlace) (entries : List Entry) : Type 0 where
  pub loggable : AllByRecursion IsLoggable entries
  pub sizes : map size_of entries ≡ sizes_in images
  pub cells : new.cells ≡ old.cells
  pub shape : count_in old ≡ 0 → shape_in new ≡ shape_in old
  pub next : (file_max : ℕ) (end : LogPos) (sizes : List ℕ) → IsBehind file_max end sizes before → IsBehind file_max end (sizes ++ map size_of entries) after
  pub fits : (file_max : ℕ) (end : LogPos) (d number last : ℕ) (front : List Entry) (rest : List NodeImage) → IsBehind file_max end (map size_of front) before →
      FitsAhead file_max end d number last front old (images ++ rest) → FitsAhead file_max end d number last (front ++ entries) new rest

-- so did a change of a transaction, and its name's cell has it
pub record IsChangeTaken (txn : TxnId) (c : TreeChange) (old new : DbTree) (before after : NextPlace) : Type 0 where
  pub write : Box Write Global
  pub at : ℕ
  pub write_is : write.value ≡ record { txn = txn; at = at; value = c.value }
  pub step : HasWritten c.name write old new
  pub seen : (x : Name) → value_at x (occupied new.cells) ≡ (if is_eq (name_cmp c.name x) then with_change write.value (value_at x (occupied old.cells)) else value_at x (occupied old.cells))
  pub rising : IsRising (occupied new.cells)
  pub next : (file_max : ℕ) (end : LogPos) (sizes : List ℕ) → IsBehind file_max end sizes before → IsBehind file_max end (sizes ++ change_size c ∷ []) after
  pub fits : (file_max : ℕ) (end : LogPos) (d number last : ℕ) (front : List Entry) → c.db ≡ d → IsBehind file_max end (map size_of front) before →
      FitsAhead file_max end d number last front old [] → FitsAhead file_max end d number last (front ++ entry_for txn c.db c.name c.value ∷ []) new []

-- a change got its slot in a tree that is filled, and then images and the change took their places
pub record IsRowFilled (fanout : ℕ) (txn : TxnId) (c : TreeChange) (old new : Filled) (before after : NextPlace) : Type 0 where
  pub room : SlotRoom
  pub own : Vec Entry Global
  pub placed : DbTree
  pub mid : DbTree
  pub between : NextPlace
  pub slot : HasSlot fanout (first_behind old.last) c.db c.name room old.tree placed
  pub taken : AreImagesTaken room.images.items placed mid before between own.items
  pub change : IsChangeTaken txn c mid new.tree between after
  pub images : new.images.items ≡ old.images.items ++ own ∷ []
  pub last : new.last ≡ min (old.last + made_by room) 0xffffffffffffffff

-- ---- the whole

-- the entries of changes, each behind images
abbrev pub entries_with : TxnId → List TreeChange → List (Vec Entry Global) → List Entry
entries_with txn [] images = []
entries_with txn (c ∷ rows) [] = []
entries_with txn (c ∷ rows) (own ∷ images) = own.items ++ entry_for txn c.db c.name c.value ∷ entries_with txn rows images

abbrev pub AreAllLoggable : List (Vec Entry Global) → Type 0
AreAllLoggable images = AllByRecursion (λ own. AllByRecursion IsLoggable own.items) images

-- one database has other cells
abbrev pub with_cells : ℕ → List (Name × Occupied) → AllCells → AllCells
with_cells d cells others e = if e == d then cells else others e

-- a tree has the changes of a transaction, and fits a log that gets their entries behind an end, each with the images before it. `number` is that of its root
pub record IsFilled (fanout file_max : ℕ) (end : LogPos) (txn : TxnId) (number : ℕ) (rows : List TreeChange) (filled : Filled) : Type 0 where
  pub exact : ℕ
  pub last_is : filled.last ≡ min exact 0xffffffffffffffff
  pub numbers : exact ≡ number + numbers_filled fanout new_shape rows
  pub low : is_filled_too_high fanout new_shape rows ≡ false
  pub paired : length filled.images.items ≡ length rows
  pub loggable : AreAllLoggable filled.images.items
  pub sizes : map size_of (entries_with txn rows filled.images.items) ≡ sizes_filled fanout new_shape rows
  pub quiet : count_in filled.tree ≡ 0
  pub rising : IsRising (occupied filled.tree.cells)
  pub written : (d : ℕ) (others : AllCells) → AllByRecursion (λ r. r.db ≡ d) rows → AreWritten txn rows (with_cells d [] others) (with_cells d (occupied filled.tree.cells) others)
  pub fits : (d : ℕ) → AllByRecursion (λ r. r.db ≡ d) rows → FitsAhead file_max end d number exact (entries_with txn rows filled.images.items) filled.tree []

-- ---- ready to be logged

-- the sizes of all that is logged: of the change that makes the database, of the others, and of the Commits that are owed
abbrev pub first_sizes : TreeChange → SlotRoom → List ℕ
first_sizes c room = room_sizes room ++ change_size c ∷ []

abbrev pub all_sizes : TxnId → TreeChange → List TreeChange → SlotRoom → Filled → ℕ → List ℕ
all_sizes txn c rows room filled owed = first_sizes c room ++ (map size_of (entries_with txn rows filled.images.items) ++ commit_sizes owed)

-- a database got the tree of a new one
pub record IsMadeNew (db number : ℕ) (old new : Forest) : Type 0 where
  pub tree : DbTree
  pub is_new : IsNewTree number tree
  pub has : Replaces old new db (Some tree)
  pub width : db < 2 ^ 32

module _ {D : Type 0} where
  -- where the log ends behind the change that makes the database
  abbrev pub end_first : LogBuffer D → TreeChange → SlotRoom → LogPos
  end_first log c room = end_after_all (file_max_of log) (end_of log) (first_sizes c room)

  -- the limit behind the slot of that change: `number` is that of the new root, or the greatest one of 64 bits where it is above that
  abbrev pub limit_filled : LogBuffer D → ℕ → TreeChange → List TreeChange → SlotRoom → ℕ → ℕ → Option TreeErr
  limit_filled log fanout c rows room number owed =
      if is_filled_too_high fanout new_shape rows then Some IdsEnded
      else limit_behind log (first_sizes c room ++ (sizes_filled fanout new_shape rows ++ commit_sizes owed)) (min (number + numbers_filled fanout new_shape rows) 0xffffffffffffffff)

  -- the number of the new root, behind the nodes that were made for the slot
  abbrev pub root_behind : LogTrees D → TreeChange → SlotRoom → ℕ
  root_behind x c room = min (x.trees.last_node + (made_by room + one_made c.makes)) 0xffffffffffffffff

  abbrev pub limit_behind_slot : LogTrees D → TreeChange → List TreeChange → SlotRoom → ℕ → Option TreeErr
  limit_behind_slot x c rows room owed = limit_filled x.log x.trees.fanout c rows room (root_behind x c room) owed

  -- a tree is filled behind that change, and all meets no limit
  pub record IsTriedToFill (x : LogTrees D) (txn : TxnId) (c : TreeChange) (rows : List TreeChange) (room : SlotRoom) (number owed : ℕ) (filled : Filled) (sizes : List ℕ) : Type 0 where
    pub is_filled : IsFilled x.trees.fanout (file_max_of x.log) (end_first x.log c room) txn number rows filled
    pub sizes_are : sizes ≡ all_sizes txn c rows room filled owed
    pub files : nat_lt last_file (end_behind x.log (all_sizes txn c rows room filled owed)) ≡ false
    pub ids : filled.last ≤ 0x7fffffffffffffff

  -- and the log has room; the database has the tree of a new one
  pub record IsFilledUp (old new : LogTrees D) (txn : TxnId) (c : TreeChange) (rows : List TreeChange) (room : SlotRoom) (db owed : ℕ) (filled : Filled) : Type 0 where
    pub is_filled : IsFilled old.trees.fanout (file_max_of old.log) (end_first old.log c room) txn (root_behind old c room) rows filled
    pub made : IsMadeNew db (root_behind old c room) old.trees.forest new.trees.forest
    pub last : new.trees.last_node ≡ filled.last
    pub ids : filled.last ≤ 0x7fffffffffffffff
    pub waits : waits_in new.trees.forest ≤ waits_in old.trees.forest
    pub has_room : HasRoomFor new.log (all_sizes txn c rows room filled owed)

  -- the change that makes the database has its slot, and all is ready
  pub record IsReadyToFill (old new : LogTrees D) (txn : TxnId) (c : TreeChange) (rows : List TreeChange) (db owed : ℕ) (room : SlotRoom) (filled : Filled) : Type 0 where
    pub mid : LogTrees D
    pub placed : IsPlacedIn old.trees.fanout c.db c.name room old.trees.forest mid.trees.forest
    pub fitted : IsFittedIn old.trees.fanout (first_behind old.trees.last_node) c.db c.name room old.trees.forest mid.trees.forest
    pub log : mid.log ≡ old.log
    pub last : mid.trees.last_node ≡ old.trees.last_node
    pub fanout : mid.trees.fanout ≡ old.trees.fanout
    pub up : IsFilledUp mid new txn c rows room db owed filled

  module _ (meaning : DiskMeaning D) where
    -- the change that makes the database was logged behind the images of its slot, then the others, and the database has the filled tree
    pub record IsLoggedNew (txn : TxnId) (c : TreeChange) (rows : List TreeChange) (db : ℕ) (room : SlotRoom) (filled : Filled) (old new : LogTrees D) : Type 0 where
      pub log : LogBuffer D
      pub forest : Forest
      pub first : LogsChange meaning room.images.items txn c old.log log old.trees.forest forest
      pub changed : (at : ℕ) × HasChange (cells_seen old.trees.forest) (cells_seen forest) c.db c.name (with_change (record { txn = txn; at = at; value = c.value }))
      pub others : HasSameOthers c.db old.trees.forest forest
      pub trees : HasSameTrees old.trees.forest forest
      pub waits : waits_in forest ≤ waits_in old.trees.forest
      pub rest : GrewFitting meaning log new.log (entries_with txn rows filled.images.items)
      pub has : Replaces forest new.trees.forest db (Some filled.tree)
      pub last : new.trees.last_node ≡ old.trees.last_node
