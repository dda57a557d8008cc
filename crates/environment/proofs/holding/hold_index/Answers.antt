use Rattle.std.proofs.Common.{◌∙◌, Some, sym}
use Rattle.environment.specs.Catalog.{named_next}
use Rattle.environment.proofs.HoldingLaws.{gone_again}
use Rattle.environment.proofs.holding.hold_index.Goals as goal

pub returns-in-Err-clause-names_err : goal.returns-in-Err-clause-names_err
returns-in-Err-clause-names_err c = λ was has none n.
    c.remove.ensures (named_next c.args.last_db c.args.db.now was) (c.in_ok-number.ensures.ok was has) n
    ∙ gone_again (Some c.in-Some.number) c.args.last_db c.args.db.now was n (sym c.in-Some.is ∙ c.in_ok-number.ensures.number) none
