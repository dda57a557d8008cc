-- The nodes of an environment's trees, and what a checkpoint logs of them.
use Rattle.std.specs.Prelude.{ℕ, ◌≡◌, ◌≤◌, ◌⊎◌, Bool, true, false, List, Option, None, Some}
use Rattle.std.specs.Ordering.{is_lt, nat_cmp, ordering_then}
use Rattle.std.specs.declared.cmp.Ordering.{Ordering}
use Rattle.log_entry.specs.declared.entry.Entry.{Entry}
use Rattle.log_entry.specs.declared.entry.Entry.TheVariants.{CkptEnd}
use Rattle.log_entry.specs.declared.root.Root.{Root}
use Rattle.record_tree.specs.declared.checkpoint_end.CheckpointEnd.{CheckpointEnd}
use Rattle.record_tree.specs.declared.node_place.NodePlace.{NodePlace}

-- the order in which nodes are logged: by level, then by database, then by number
abbrev pub place_cmp : NodePlace → NodePlace → Ordering
place_cmp a b = ordering_then (nat_cmp a.level b.level) (ordering_then (nat_cmp a.db b.db) (nat_cmp a.node b.node))

-- the next node to be logged is due, and no other node that is due comes before it; there is none where no node is due
abbrev pub IsNext : (NodePlace → Bool) → Option NodePlace → Type 0
IsNext is_due None = (q : NodePlace) → is_due q ≡ false
IsNext is_due (Some p) = (is_due p ≡ true) × ((q : NodePlace) → is_due q ≡ true → is_lt (place_cmp q p) ≡ false)

-- the entry of a checkpoint's end
abbrev pub ends_at : CheckpointEnd → ℕ → ℕ → List Root → Entry
ends_at end redo last_node roots = CkptEnd end.number end.start redo (record { 0 = end.last_txn }) last_node end.last_db None roots

-- A checkpoint's end names the roots of trees that it may name. Its redo LSN is at or below a bound: it is that one, or one from which on a node's
-- image lacks something; and where no image lacks what was logged before an LSN up to the bound, it is not before that one.
pub record NamesEnd {T : Type 0} (is_since is_mark : T → ℕ → Type 0) (may_end : T → ℕ → List Root → Type 0) (last_node : T → ℕ) (end : CheckpointEnd) (bound : ℕ) (x : T) (redo : ℕ) (entry : Entry) : Type 0 where
  pub roots : List Root
  pub entry_is : entry ≡ ends_at end redo (last_node x) roots
  pub upto : redo ≤ bound
  pub least : (redo ≡ bound) ⊎ is_mark x redo
  pub from : (since : ℕ) → is_since x since → since ≤ bound → since ≤ redo
  pub may : may_end x redo roots
