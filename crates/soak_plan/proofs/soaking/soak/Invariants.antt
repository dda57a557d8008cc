use Rattle.std.proofs.Common.{◌≡◌, ◌≤◌, ◌+◌, ◌-◌, ◌*◌, ◌++◌}
use Rattle.soak_plan.specs.Rounds.{soak_of, rounds_from}
use Rattle.soak_plan.proofs.soaking.soak.Given as goal

abbrev pub invariant-loop-done : goal.invariant-loop-done
invariant-loop-done l = (l.line ≤ 2 * l.done + 3) × (soak_of l.seed ≡ l.lines.items ++ rounds_from (4000 - l.done) (l.done + 1) l.line l.state)
