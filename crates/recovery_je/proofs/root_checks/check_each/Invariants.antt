use Rattle.std.proofs.Common.{map, drop}
use Rattle.check_laws.specs.Trees.{check_root}
use Rattle.recovery_je.proofs.TreeCheckLaws.{ChecksOn}
use Rattle.recovery_je.proofs.root_checks.check_each.Given as goal

abbrev pub invariant-loop-root : goal.invariant-loop-root
invariant-loop-root g l = ChecksOn g.T.Loads.stored (check_root (map (λ f. f.0) l.files) l.entries l.end) l.roots (drop l.root-index l.roots) l.initial.check l.check
