use Rattle.std.proofs.Common.{◌≡◌, ◌<◌, ◌^◌, ℕ, List, reverse, length}
use Rattle.std.specs.List.{AllByRecursion}
use Rattle.log_trees.specs.Placed.{Placed}
use Rattle.log_trees.specs.Changes.{LoggedChange}
use Rattle.recovery_je.specs.Putting.{IsLogged}
use Rattle.recovery_je.proofs.FitLaws.{AreLeft}
use Rattle.je_order.specs.declared.name.Name.{Name}
use Rattle.record_map.specs.Cells.{value_at}
use Rattle.recovery_je.specs.Redoing.{stored_after}
use Rattle.recovery_je.proofs.redoing.make_changes.Given as goal

abbrev pub invariant-loop-change : goal.invariant-loop-change
invariant-loop-change g l = record {
  made : (d : ℕ) (x : Name) → stored_after d x (reverse l.left.items) (value_at x (g.T.Loads.stored l.trees d)) ≡ stored_after d x l.fn.changes (value_at x (g.T.Loads.stored l.initial.trees d));
  fits : (es : List Placed) (base : ℕ) → base < 2 ^ 64 → AllByRecursion (IsLogged es base) l.fn.changes → g.T.Loads.fits l.initial.trees es base → AreLeft (g.T.Loads.fits l.trees es base) (IsLogged es base) (λ (c : LoggedChange). l.first < base) (reverse l.left.items);
}

abbrev pub decreases-loop-change : goal.decreases-loop-change
decreases-loop-change g l = length l.left.items
