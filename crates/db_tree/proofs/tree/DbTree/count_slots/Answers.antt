use Rattle.std.proofs.Common.{◌∙◌, ap, length, option_copied}
use Rattle.je_order.specs.Edges.{is_between}
use Rattle.je_order.specs.Edges.Edge.{At}
use Rattle.record_map.specs.Cells.{count_if, upper_edge}
use Rattle.tree_nodes.specs.Lows.{lows_of}
use Rattle.db_tree.proofs.SplitPlans.{bins_counted, in_names}
use Rattle.db_tree.proofs.tree.DbTree.count_slots.Goals as goal

pub returns-then-level-eq0 : goal.returns-then-level-eq0
returns-then-level-eq0 c =
    c.count_if.ensures
    ∙ ap (count_if c.args.fanout)
    (bins_counted (is_between (At c.args.low.now) (upper_edge (option_copied c.args.high))) c.args.self.now.cells (lows_of c.args.self.now.levels) c.args.level c.if-level-eq0.true)

pub returns : goal.returns
returns c =
    c.at_least.ensures
    ∙ ap (count_if c.args.fanout)
    (c.count_between.ensures ∙ ap length (in_names (is_between (At c.args.low.now) (upper_edge (option_copied c.args.high))) c.args.self.now.cells c.args.self.now.levels c.args.level c.if-level-eq0.false))
