use Rattle.std.proofs.Common.{◌≡◌, ◌≤◌, ◌+◌, ◌*◌, ℕ, take}
use Rattle.je_order.specs.declared.name.Name.{Name}
use Rattle.db_tree.specs.Images.{Placed}
use Rattle.db_tree.specs.NodeSteps.{AreWaiting}
use Rattle.db_tree.specs.Notes.{AreUnnotedSince}
use Rattle.db_tree.specs.Trees.{IsTree}
use Rattle.db_tree.specs.Waiting.{waiting_of, count_lows, halves_of}
use Rattle.db_tree.proofs.tree.DbTree.wait_each.Given as goal

abbrev pub invariant-loop-level : goal.invariant-loop-level
invariant-loop-level l = record {
  few : count_lows (waiting_of l.self.levels) ≤ count_lows (waiting_of l.initial.self.levels) + 2 * l.level;
  waiting : AreWaiting (halves_of 0 (take l.level l.initial.splits)) l.initial.self.levels l.self.levels;
  since : AreUnnotedSince l.initial.mark l.initial.self.levels → AreUnnotedSince l.initial.mark l.self.levels;
  cells : l.self.cells ≡ l.initial.self.cells;
  tree : (es : Placed) (base : ℕ) (newest : Name → ℕ) → IsTree es base newest l.initial.self.levels l.initial.self.cells → IsTree es base newest l.self.levels l.self.cells;
}
