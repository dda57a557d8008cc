use Rattle.std.proofs.Common.{◌≡◌, ◌≤◌, ◌+◌, length}
use Rattle.je_order.specs.declared.name.Name.{Name}
use Rattle.db_tree.specs.Loading.{HasMore}
use Rattle.db_tree.specs.Waiting.{waiting_of, count_lows}
use Rattle.db_tree.proofs.loading.raise_to.Given as goal

abbrev pub invariant-loop-i : goal.invariant-loop-i
invariant-loop-i l = record {
  height : length l.levels ≡ l.i;
  more : (low : Name) → HasMore l.initial.levels l.levels l.level low;
  made : l.made ≤ l.i;
  bound : l.made ≤ 256;
  few : count_lows (waiting_of l.levels) ≤ count_lows (waiting_of l.initial.levels) + l.made;
}
