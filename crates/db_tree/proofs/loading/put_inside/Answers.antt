use Rattle.std.proofs.Common.{◌∙◌, option_copied, sym}
use Rattle.db_tree.proofs.Ending.{ok_then}
use Rattle.db_tree.proofs.LoadingLaws.{gets_inside, gets_outside}
use Rattle.db_tree.proofs.loading.put_inside.Goals as goal

pub returns-then-not-is_inside-clause-got : goal.returns-then-not-is_inside-clause-got
returns-then-not-is_inside-clause-got c =
    gets_outside c.args.low.now (option_copied c.args.high) c.args.name.now c.args.at c.args.cells.now (sym c.is_inside.ensures ∙ c.if-not-is_inside.true)

pub returns-clause-got : goal.returns-clause-got
returns-clause-got c =
    ok_then c.put_deletion.result
    (gets_inside c.args.low.now (option_copied c.args.high) c.args.name.now c.args.at c.args.cells.now c.put_deletion.new.cells (sym c.is_inside.ensures ∙ c.if-not-is_inside.false)) c.put_deletion.ensures.got
