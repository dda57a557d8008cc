-- What the steps of a checkpoint come to.
use Rattle.std.specs.Prelude.{ℕ, ◌≡◌, ◌<◌, ◌≤◌, ◌&&◌, Bool, false, List, [], ◌∷◌, Option, None, Some, Result, Ok, Err}
use Rattle.log_entry.specs.declared.entry.Entry.{Entry}
use Rattle.log_entry.specs.declared.root.Root.{Root}
use Rattle.record_tree.specs.Logged.{IsFront, IsImage}
use Rattle.record_tree.specs.Nodes.{IsNext, NamesEnd}
use Rattle.record_tree.specs.declared.checkpoint_end.CheckpointEnd.{CheckpointEnd}
use Rattle.record_tree.specs.declared.node_place.NodePlace.{NodePlace}
use Rattle.record_tree.specs.declared.tree_err.TreeErr.{TreeErr}
use Rattle.record_tree.specs.declared.tree_err.TreeErr.TheVariants.{Fault, Full, IdsEnded, Memory}
use Rattle.checkpointer.specs.declared.ended.Ended.{Ended}
use Rattle.checkpointer.specs.declared.ended.Ended.TheVariants.{Done, Left}
use Rattle.checkpointer.specs.declared.finish.Finish.{Finish}
use Rattle.checkpointer.specs.declared.under_way.UnderWay.{UnderWay}
use Rattle.checkpointer.specs.Numbers.{earlier_of}

-- what the end of a checkpoint under way says
abbrev pub end_of : Finish → UnderWay → CheckpointEnd
end_of f w = record { number = w.number; start = w.start; last_txn = f.last_txn; last_db = f.last_db }

module _ {T : Type 0} (is_noted is_dirty : T → NodePlace → Bool) (left : T → ℕ) (is_since is_mark : T → ℕ → Type 0) (may_end : T → ℕ → List Root → Type 0) (last_node : T → ℕ) (gets fails : T → T → List Entry → Type 0)
    (has_room : T → ℕ → Type 0) (is_full : T → List Entry → ℕ → Type 0) where
  -- the node that is logged next, of those that are noted and dirty
  abbrev pub IsNextIn : T → Option NodePlace → Type 0
  IsNextIn x found = IsNext (λ p. is_noted x p && is_dirty x p) found

  -- there is one
  abbrev pub HasNext : T → Type 0
  HasNext x = (place : NodePlace) × IsNextIn x (Some place)

  -- the next node's image was logged; it is clean then, and the same nodes are noted
  pub record HasFlushed (old new : T) (node owed : ℕ) : Type 0 where
    pub place : NodePlace
    pub number : place.node ≡ node
    pub next : IsNextIn old (Some place)
    pub clean : is_dirty new place ≡ false
    pub noted : (p : NodePlace) → is_noted new p ≡ is_noted old p
    pub image : Entry
    pub is_image : IsImage image
    pub grew : gets old new (image ∷ [])
    pub room : has_room new owed

  -- the next node was logged, or there is none; or the disk failed, there is no room, or no memory
  abbrev pub Flushes : ℕ → T → T → Result (Option ℕ) TreeErr → Type 0
  Flushes owed old new (Ok (Some node)) = HasFlushed old new node owed
  Flushes owed old new (Ok None) = (new ≡ old) × IsNextIn old None
  Flushes owed old new (Err Fault) = HasNext old × ((image : Entry) × (front : List Entry) × IsImage image × IsFront front (image ∷ []) × fails old new front)
  Flushes owed old new (Err Full) = HasNext old × ((image : Entry) × IsImage image × is_full old (image ∷ []) owed) × gets old new []
  Flushes owed old new (Err IdsEnded) = ⊥
  Flushes owed old new (Err Memory) = gets old new []

  -- an entry is the end of the checkpoint under way, with a redo LSN that is at or above the one from which images lack something
  abbrev pub IsEnd : Finish → UnderWay → T → ℕ → Entry → Type 0
  IsEnd f w x redo entry = NamesEnd is_since is_mark may_end last_node (end_of f w) (earlier_of w.start f.first) x redo entry × (f.since ≤ redo)

  -- its end was logged, where no noted node is dirty; or so many are; or the disk failed, there is no room, or no memory
  abbrev pub Finishes : Finish → UnderWay → T → T → Result Ended TreeErr → Type 0
  Finishes f w old new (Ok (Done redo)) = (left old ≡ 0) × ((entry : Entry) × IsEnd f w old redo entry × gets old new (entry ∷ [])) × has_room new f.owed
  Finishes f w old new (Ok (Left n)) = (new ≡ old) × (0 < n) × (n ≡ left old)
  Finishes f w old new (Err Fault) = (left old ≡ 0) × ((entry : Entry) × (front : List Entry) × ((redo : ℕ) × IsEnd f w old redo entry) × IsFront front (entry ∷ []) × fails old new front)
  Finishes f w old new (Err Full) = (left old ≡ 0) × ((entry : Entry) × ((redo : ℕ) × IsEnd f w old redo entry) × is_full old (entry ∷ []) f.owed) × gets old new []
  Finishes f w old new (Err IdsEnded) = ⊥
  Finishes f w old new (Err Memory) = gets old new []
