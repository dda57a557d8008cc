use Rattle.std.proofs.Common.{◌∙◌, option_copied}
use Rattle.tree_nodes.specs.Levels.{row_of}
use Rattle.db_tree.proofs.Contents.{above_if_some}
use Rattle.db_tree.proofs.Ending.{value_then}
use Rattle.db_tree.proofs.ImageLaws.{children_none, children_are}
use Rattle.db_tree.proofs.tree.DbTree.children_of.Goals as goal

pub slots-requires-clause-forward : goal.slots-requires-clause-forward
slots-requires-clause-forward c = above_if_some c.upper_bound-high.result c.args.low.now (row_of c.args.self.now.levels c.args.level) c.upper_bound-high.ensures

pub returns-then-level-eq0 : goal.returns-then-level-eq0
returns-then-level-eq0 c = c.new.ensures.items ∙ children_none c.args.level c.args.low.now c.args.self.now.levels c.if-level-eq0.true

pub returns : goal.returns
returns c =
    value_then c.lows_in.result _ _
    (λ lows is. is ∙ children_are c.args.level c.args.low.now (option_copied c.upper_bound-high.result) c.args.self.now.levels c.in_ok-slots.slots c.if-level-eq0.false c.upper_bound-high.ensures c.in_ok-slots.ensures)
    c.lows_in.ensures
