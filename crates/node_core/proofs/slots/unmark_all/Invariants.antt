use Rattle.std.proofs.Common.{◌≡◌, ◌++◌, take, drop, map}
use Rattle.node_core.specs.Changes.{unmarked}
use Rattle.node_core.proofs.slots.unmark_all.Given as goal

abbrev pub invariant-loop-m : goal.invariant-loop-m
invariant-loop-m l = l.m-items ≡ map unmarked (take l.m-index l.initial.m-items) ++ drop l.m-index l.initial.m-items
