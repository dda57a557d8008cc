use Rattle.std.proofs.Common.{filter, option_copied}
use Rattle.je_order.specs.Edges.{is_between}
use Rattle.je_order.specs.Edges.Edge.{At}
use Rattle.record_map.specs.Cells.{upper_edge}
use Rattle.tree_nodes.specs.Lows.{lows_of}
use Rattle.db_tree.specs.Splits.{slot_names}
use Rattle.db_tree.proofs.SplitPlans.{middle_none, middle_some}
use Rattle.db_tree.proofs.tree.DbTree.middle_within.Goals as goal

pub returns-in_default : goal.returns-in_default
returns-in_default c =
    middle_none c.args.fanout (filter (is_between (At c.args.low.now) (upper_edge (option_copied c.args.high))) (slot_names c.args.self.now.cells (lows_of c.args.self.now.levels) c.args.level)) c.count_slots.result c.in_default.is c.count_slots.ensures

pub returns : goal.returns
returns c =
    middle_some c.args.fanout c.in-Some.count (filter (is_between (At c.args.low.now) (upper_edge (option_copied c.args.high))) (slot_names c.args.self.now.cells (lows_of c.args.self.now.levels) c.args.level)) c.count_slots.result c.in_ok-nth_slot.field-0 c.in-Some.is c.count_slots.ensures c.in_ok-nth_slot.ensures
