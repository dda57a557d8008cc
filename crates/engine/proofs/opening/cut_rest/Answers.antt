use Rattle.std.proofs.Common.{rules}
use Rattle.engine.proofs.opening.cut_rest.Goals as goal

pub returns-then-end-last-clause-done : goal.returns-then-end-last-clause-done
returns-then-end-last-clause-done g c = search rules

pub returns-then-end-last-clause-moments : goal.returns-then-end-last-clause-moments
returns-then-end-last-clause-moments g c = search rules
