-- The records that trees have once changes are committed in them.
use Rattle.std.proofs.Common.{◌≡◌, ◌||◌, ℕ, Bool, false, cond, List, Option, None, ap, sym, subst, ◌∙◌}
use mathlib.Core.Path.{fun_ext}
use Rattle.record_map.specs.Cells.{IsRising}
use Rattle.log_replay.specs.Rows.{Rows, numbers_of}
use Rattle.log_replay.proofs.MapRows.{rising_from_keys}
use Rattle.record_tree.specs.declared.tree_change.TreeChange.{TreeChange}
use Rattle.record_tree.specs.Logged.{is_made, last_change, value_changed}
use Rattle.record_tree.specs.Occupied.{AllCells, AreSame}
use Rattle.in_tree.specs.declared.logged_trees.LogTrees.{LogTrees}
use Rattle.in_tree.specs.Observed.{cells_of, has_tree_of}
use Rattle.txn_core.specs.Known.{committed, committed_rows, has_number, IsQuiet}
use Rattle.txn_core.specs.Transactions.{HasCommitted, HasTreesAfter, is_gone}
use Rattle.txn_core.proofs.ReadingLaws.{committed_at, committed_rises}
use Rattle.engine.specs.Contents.{rows_after}
use Rattle.engine.specs.Whole.{AreTrees}
use Rattle.engine.proofs.PlannedRows.{rows_by_name}

-- they are those that the changes leave
pub committed_after : (changes : List TreeChange) (gone : Option ℕ) (old new : AllCells) → ((d : ℕ) → IsRising (old d)) → ((d : ℕ) → IsRising (new d)) → HasCommitted changes gone old new →
    (d : ℕ) → committed new d ≡ rows_after changes gone (committed old) d
committed_after changes gone old new up_old up_new has d =
    rows_by_name changes gone (committed old) (committed new)
    (λ e. rising_from_keys (committed_rows (old e)) (committed_rises (old e) (up_old e)))
    (λ e. rising_from_keys (committed_rows (new e)) (committed_rises (new e) (up_new e)))
    (λ e x. committed_at x (new e) (up_new e) ∙ has e x
    ∙ ap (λ (v : Option (List ℕ)). cond (is_gone e gone) None (value_changed (last_change e x changes) v)) (sym (committed_at x (old e) (up_old e)))) d

-- nothing changed of them
pub committed_same : (old new : AllCells) → AreSame old new → (d : ℕ) → committed new d ≡ committed old d
committed_same old new same d = ap committed_rows (same d)

-- ---- trees

module _ {D : Type 0} where
  -- the databases that are named have trees once changes are committed
  pub trees_named : (old new : LogTrees D) (planned : List TreeChange) (gone : Option ℕ) → AreTrees old → IsQuiet (cells_of new) → HasTreesAfter planned gone (has_tree_of old) (has_tree_of new) →
      ((d : ℕ) → has_number (numbers_of (committed (cells_of new))) d ≡ cond (is_gone d gone) false (is_made d planned || has_number (numbers_of (committed (cells_of old))) d)) → AreTrees new
  trees_named old new planned gone trees quiet has named = record {
    quiet = quiet;
    made = λ d. has d
        ∙ ap (λ (t : Bool). cond (is_gone d gone) false (is_made d planned || t)) (trees.made d)
        ∙ sym (named d);
  }

  -- nothing changed in them
  pub trees_same : (old new : LogTrees D) → AreTrees old → AreSame (cells_of old) (cells_of new) → ((d : ℕ) → has_tree_of new d ≡ has_tree_of old d) → AreTrees new
  trees_same old new trees same made = record {
    quiet = subst IsQuiet (sym (fun_ext same)) trees.quiet;
    made = λ d. made d ∙ trees.made d ∙ sym (ap (λ (r : Rows). has_number (numbers_of r) d) (fun_ext (committed_same (cells_of old) (cells_of new) same)));
  }
