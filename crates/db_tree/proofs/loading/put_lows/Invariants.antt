use Rattle.std.proofs.Common.{◌≡◌, ◌<◌, ◌≤◌, ◌+◌, ℕ, suc, IsSome, length}
use Rattle.record_map.specs.Cells.{value_at}
use Rattle.tree_nodes.specs.Levels.{row_of}
use Rattle.db_tree.specs.Loading.{HasMore}
use Rattle.db_tree.specs.Waiting.{waiting_of, count_lows}
use Rattle.db_tree.proofs.loading.put_lows.Given as goal

abbrev pub invariant-loop-k : goal.invariant-loop-k
invariant-loop-k l = record {
  there : l.level < length l.levels;
  more : HasMore l.initial.levels l.levels l.level l.low;
  nested : (j : ℕ) → l.k ≡ suc j → IsSome (value_at l.low (row_of l.levels j));
  made : l.made ≤ l.k;
  bound : l.made ≤ l.level;
  few : count_lows (waiting_of l.levels) ≤ count_lows (waiting_of l.initial.levels) + l.made;
}
