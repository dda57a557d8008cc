use Rattle.std.proofs.Common.{◌≡◌, reverse, length}
use Rattle.waits_for.specs.Walk.{back_to}
use Rattle.waits_for.proofs.search.back_to.Given as goal

abbrev pub invariant-loop-x : goal.invariant-loop-x
invariant-loop-x l = back_to l.x (reverse l.path.items) ≡ back_to l.x (reverse l.initial.path.items)

abbrev pub decreases-loop-x : goal.decreases-loop-x
decreases-loop-x l = length l.path.items
