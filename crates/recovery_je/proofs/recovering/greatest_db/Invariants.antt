use Rattle.std.proofs.Common.{◌≡◌, max, drop}
use Rattle.log_meaning.specs.Meaning.{most}
use Rattle.recovery_je.proofs.recovering.greatest_db.Given as goal

abbrev pub invariant-loop-root : goal.invariant-loop-root
invariant-loop-root l = max l.greatest (most (λ r. r.db) (drop l.root-index l.roots)) ≡ most (λ r. r.db) l.roots
