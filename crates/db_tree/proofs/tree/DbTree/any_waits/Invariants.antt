use Rattle.std.proofs.Common.{◌≡◌, false, take}
use Rattle.std.specs.List.{list_any}
use Rattle.db_tree.specs.Waiting.{waits_at}
use Rattle.db_tree.proofs.tree.DbTree.any_waits.Given as goal

abbrev pub invariant-loop-low : goal.invariant-loop-low
invariant-loop-low l = list_any (waits_at l.self.levels l.level) (take l.low-index l.lows) ≡ false
