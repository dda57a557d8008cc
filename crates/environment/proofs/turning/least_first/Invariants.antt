use Rattle.environment.proofs.LeastFirst.{IsLeastSoFar}
use Rattle.environment.proofs.turning.least_first.Given as goal

abbrev pub invariant-loop-own : goal.invariant-loop-own
invariant-loop-own l = IsLeastSoFar l.written.entries l.own-iterator l.least
