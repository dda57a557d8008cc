-- Reading the trees of a checkpoint's roots.
use Rattle.std.proofs.Common.{◌≡◌, ℕ, ◌==◌, List, [], Ok, refl, ap}
use Rattle.std.specs.List.{list_any}
use Rattle.record_map.specs.Cells.{value_at}
use Rattle.record_tree.specs.Stored.{AllStored}
use Rattle.log_trees.specs.Placed.{Placed}
use Rattle.log_trees.specs.Walk.{Walk, read_roots}
use Rattle.log_meaning.specs.Checkpoint.{Checkpoint}
use Rattle.recovery_je.specs.Recovering.{IsWalked}
use Rattle.recovery_je.specs.Walking.{IsWalking}

-- no tree was read yet
pub walk_begins : (stored : AllStored) (seen : List ℕ) → ((d : ℕ) → stored d ≡ []) → seen ≡ [] → IsWalking stored seen 0 0 (record { seen = []; rows = [] })
walk_begins stored seen empty none = record {
  seen_is = λ m. ap (λ (l : List ℕ). list_any (λ k. k == m) l) none;
  node_is = refl;
  db_is = refl;
  records = λ d x. ap (value_at x) (empty d);
}

-- all were read
pub walk_ends : (files : List ℕ) (es : List Placed) (end : Checkpoint) (stored : AllStored) (seen : List ℕ) (node db : ℕ) → (w : Walk) × (read_roots files es end.at end.roots ≡ Ok w) × IsWalking stored seen node db w →
    (walk : Walk) × IsWalked files es end (record { node = node; db = db }) stored walk
walk_ends files es end stored seen node db is = (is.0, record { read = is.1; node = is.2.node_is; db = is.2.db_is; records = is.2.records })
