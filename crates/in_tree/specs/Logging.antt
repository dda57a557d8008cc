-- What the log gets while changes are written: images of nodes, and the entries of changes behind them.
use Rattle.std.specs.Prelude.{◌≡◌, ◌++◌, ◌∷◌, ℕ, List, [], Option, Some, map}
use Rattle.je_disk.specs.DiskMeaning.{DiskMeaning}
use Rattle.je_order.specs.declared.txn_id.TxnId.{TxnId}
use Rattle.log_entry.specs.Encoding.{size_of}
use Rattle.log_entry.specs.declared.entry.Entry.{Entry}
use Rattle.log_buffer.specs.declared.buffer.LogBuffer.{LogBuffer}
use Rattle.log_buffer.specs.Buffer.{end_of, file_max_of}
use Rattle.log_buffer.specs.Laws.{placed_by}
use Rattle.record_tree.specs.declared.tree_change.TreeChange.{TreeChange}
use Rattle.record_tree.specs.Logged.{entry_for, first_change, IsImage, AreImages, IsFront}
use Rattle.db_tree.specs.declared.node_image.NodeImage.{NodeImage}
use Rattle.db_tree.specs.declared.tree.DbTree.{DbTree}
use Rattle.db_tree.specs.NodeImages.{sizes_in}
use Rattle.in_tree.specs.Forest.{Forest}
use Rattle.in_tree.specs.Growing.{GrewTree, GrewSlot}
use Rattle.in_tree.specs.Limits.{TriedFitting}

-- the LSN that the log gives the first of some entries that is no image, if it gets them
abbrev pub first_in : {D : Type 0} → LogBuffer D → List Entry → Option ℕ
first_in log entries = first_change (placed_by (file_max_of log) (end_of log) entries)

module _ {D : Type 0} (meaning : DiskMeaning D) where
  -- the log got an image that was due, or failed with one
  abbrev pub LogsImage : NodeImage → LogBuffer D → LogBuffer D → DbTree → DbTree → Type 0
  LogsImage image old new before after = (e : Entry) × IsImage e × (size_of e ≡ size_of image.entry) × GrewTree meaning old new before after (image ∷ []) [] (e ∷ [])

  abbrev pub TriesImage : LogBuffer D → LogBuffer D → Type 0
  TriesImage old new = (e : Entry) × IsImage e × TriedFitting meaning old new (e ∷ [])

  -- the log got the images that were due of a tree, or failed with some
  abbrev pub LogsImages : List NodeImage → LogBuffer D → LogBuffer D → DbTree → DbTree → Type 0
  LogsImages due old new before after =
      (images : List Entry) × AreImages images × (map size_of images ≡ sizes_in due) × GrewTree meaning old new before after due [] images

  abbrev pub TriesImages : LogBuffer D → LogBuffer D → Type 0
  TriesImages old new = (images : List Entry) × AreImages images × TriedFitting meaning old new images

  -- the log got the images that were due for a slot of a database
  abbrev pub LogsRoom : ℕ → List NodeImage → LogBuffer D → LogBuffer D → Forest → Forest → Type 0
  LogsRoom db due old new before after =
      (images : List Entry) × AreImages images × (map size_of images ≡ sizes_in due) × GrewSlot meaning old new before after db due images

  -- the log got a change's entry behind the images that were due for its slot
  abbrev pub LogsChange : List NodeImage → TxnId → TreeChange → LogBuffer D → LogBuffer D → Forest → Forest → Type 0
  LogsChange due txn c old new before after =
      (images : List Entry) × AreImages images × (map size_of images ≡ sizes_in due)
      × GrewSlot meaning old new before after c.db due (images ++ entry_for txn c.db c.name c.value ∷ [])

  -- and this entry stands at an LSN, whatever comes behind it
  abbrev pub LogsChangeAt : List NodeImage → TxnId → TreeChange → ℕ → LogBuffer D → LogBuffer D → Forest → Forest → Type 0
  LogsChangeAt due txn c at old new before after =
      (logs : LogsChange due txn c old new before after) × ((rest : List Entry) → first_in old (logs.0 ++ entry_for txn c.db c.name c.value ∷ rest) ≡ Some at)

  -- or the log failed with some of these
  abbrev pub TriesChange : TxnId → TreeChange → LogBuffer D → LogBuffer D → Type 0
  TriesChange txn c old new =
      (images : List Entry) × (front : List Entry) × AreImages images × IsFront front (images ++ entry_for txn c.db c.name c.value ∷ []) × TriedFitting meaning old new front
