use Rattle.std.proofs.Common.{◌≡◌, ◌≤◌, ◌+◌, length}
use Rattle.db_tree.specs.Seen.{occupied}
use Rattle.db_tree.proofs.reading.last_occupied.Given as goal

abbrev pub invariant-loop-i : goal.invariant-loop-i
invariant-loop-i l = record {
  same : occupied l.cells ≡ occupied l.initial.cells;
  few : length l.cells + l.i ≤ l.count;
}
