use Rattle.std.proofs.Common.{reverse}
use Rattle.waits_for.specs.Walk.{is_seen, IsWalk, left}
use Rattle.waits_for.proofs.search.find_cycle.Given as goal

abbrev pub invariant-loop-x : goal.invariant-loop-x
invariant-loop-x l = IsWalk l.edges l.from (is_seen l.seen) (reverse l.path.items) (reverse l.todo.items)

abbrev pub decreases-loop-x : goal.decreases-loop-x
decreases-loop-x l = left l.edges (is_seen l.seen) l.todo.items
