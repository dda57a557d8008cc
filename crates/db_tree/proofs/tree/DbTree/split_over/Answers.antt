use Rattle.std.proofs.Common.{◌∙◌, sym, Some, option_copied}
use Rattle.tree_nodes.specs.Levels.{row_of}
use Rattle.tree_nodes.specs.Lows.{lows_of}
use Rattle.db_tree.specs.Splits.{slot_names}
use Rattle.db_tree.proofs.Contents.{above_if_some}
use Rattle.db_tree.proofs.SplitPlans.{split_found, split_made}
use Rattle.db_tree.proofs.tree.DbTree.split_over.Goals as goal

pub middle_within-requires-clause-forward : goal.middle_within-requires-clause-forward
middle_within-requires-clause-forward c = above_if_some c.upper_bound-high.result c.over.result.0.now (row_of c.args.self.now.levels c.args.level) c.upper_bound-high.ensures

pub returns-in_default : goal.returns-in_default
returns-in_default c =
    split_found c.args.fanout c.args.name.now (slot_names c.args.self.now.cells (lows_of c.args.self.now.levels) c.args.level) c.args.self.now.levels c.args.level
    c.over.result.0.now (option_copied c.upper_bound-high.result) _ c.over.ensures.low c.upper_bound-high.ensures (sym c.in_default.is ∙ c.in_ok-middle.ensures)

pub returns : goal.returns
returns c =
    split_made c.in_ok-copy.field-0 c.over.result.0.now _ c.in-Some.middle c.in_ok-copy_bound.field-0 (option_copied c.upper_bound-high.result) c.in_ok-copy.ensures c.middle.view_is c.in_ok-copy_bound.ensures
    ∙ split_found c.args.fanout c.args.name.now (slot_names c.args.self.now.cells (lows_of c.args.self.now.levels) c.args.level) c.args.self.now.levels c.args.level
    c.over.result.0.now (option_copied c.upper_bound-high.result) (Some c.in-Some.middle) c.over.ensures.low c.upper_bound-high.ensures (sym c.in-Some.is ∙ c.in_ok-middle.ensures)
