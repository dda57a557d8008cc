use Rattle.std.proofs.Common.{take, option_copied}
use Rattle.record_tree.specs.LoadedSlots.{shows_deletion_inside}
use Rattle.db_tree.specs.Loading.{GetsDeletions}
use Rattle.db_tree.proofs.loading.put_deletions.Given as goal

abbrev pub invariant-loop-marked : goal.invariant-loop-marked
invariant-loop-marked l = GetsDeletions (shows_deletion_inside l.low (option_copied l.high) (take l.marked-index l.slots)) l.at l.initial.cells l.cells
