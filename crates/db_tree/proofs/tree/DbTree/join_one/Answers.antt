use Rattle.std.proofs.Common.{◌∙◌, sym}
use Rattle.std.proofs.lemmas.Bool.{true≢false}
use Rattle.db_tree.proofs.BackLaws.{split_back}
use Rattle.db_tree.proofs.tree.DbTree.join_one.Goals as goal

pub returns-then-may_go-clause-back : goal.returns-then-may_go-clause-back
returns-then-may_go-clause-back c =
    λ before is. split_back before c.args.self.now.levels c.join_node.new.self.levels c.args.level c.args.middle.now is c.join_node.ensures.parts c.join_node.ensures.height c.join_node.ensures.back

pub returns-else-may_go-clause-back : goal.returns-else-may_go-clause-back
returns-else-may_go-clause-back c = λ before is. absurd (true≢false (sym (c.may_go.ensures.split before is) ∙ c.if-may_go.false))
