use Rattle.std.proofs.Common.{◌∙◌, sym}
use Rattle.in_tree.proofs.LoadedLaws.{ensured}
use Rattle.in_tree.proofs.loading.ensure_tree.Goals as goal

pub returns-clause-made : goal.returns-clause-made
returns-clause-made c =
    ensured c.make.result c.args.db c.args.number c.args.trees.now c.make.new.trees (sym c.has_tree.ensures ∙ c.if-has_tree.false) c.make.ensures.tree c.make.ensures.others
