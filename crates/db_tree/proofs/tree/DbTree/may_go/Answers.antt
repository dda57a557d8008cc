use Rattle.std.proofs.Common.{◌∙◌, sym}
use Rattle.db_tree.proofs.BackLaws.{split_not_least}
use Rattle.db_tree.proofs.tree.DbTree.may_go.Goals as goal

pub returns-then-is_least-clause-split : goal.returns-then-is_least-clause-split
returns-then-is_least-clause-split c =
    λ before is. absurd (split_not_least before c.args.self.now.levels c.args.level c.args.middle.now is (sym c.is_least.ensures ∙ c.if-is_least.true))
