use Rattle.std.proofs.Common.{◌≡◌, ◌++◌, ◌-◌}
use Rattle.in_tree.specs.Limits.{commit_sizes}
use Rattle.in_tree.proofs.writing.push_commits.Given as goal

abbrev pub invariant-loop-i : goal.invariant-loop-i
invariant-loop-i l = l.sizes.items ++ commit_sizes (l.owed - l.i) ≡ l.initial.sizes.items ++ commit_sizes l.owed
