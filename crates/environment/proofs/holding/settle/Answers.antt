use Rattle.environment.specs.Catalog.{names_gone}
use Rattle.environment.proofs.holding.settle.Goals as goal

pub returns-then-logged-clause-done : goal.returns-then-logged-clause-done
returns-then-logged-clause-done c = λ logged was has named. c.rename.ensures (names_gone c.args.held.gone was) (c.forget.ensures.names was has) named
