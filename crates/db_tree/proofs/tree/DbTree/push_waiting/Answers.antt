use Rattle.std.proofs.Common.{◌++◌, ◌∙◌, List, ap, option_copied}
use Rattle.tree_nodes.specs.Levels.{row_of}
use Rattle.db_tree.specs.declared.node_at.NodeAt.{NodeAt}
use Rattle.db_tree.proofs.Ending.{ok_then}
use Rattle.db_tree.proofs.LoggedLaws.{forward_is, waiting_found}
use Rattle.db_tree.proofs.tree.DbTree.push_waiting.Goals as goal

pub slots-requires-clause-forward : goal.slots-requires-clause-forward
slots-requires-clause-forward c = forward_is c.upper_of.result c.args.top.now.high c.args.top.now.low c.upper_of.ensures (c.has_names.ensures c.if-not-has_names.false)

pub returns : goal.returns
returns c =
    ok_then c.push_each.result
    (λ is. is ∙ ap (λ (l : List NodeAt). c.args.nodes.now.items ++ l)
    (waiting_found (row_of c.args.self.now.levels c.args.level) c.args.level c.args.top.now c.args.split.now (option_copied c.upper_of.result) c.in_ok-slots.slots c.in_ok-lows_in.field-0.items c.upper_of.ensures c.in_ok-slots.ensures c.in_ok-lows_in.ensures))
    c.push_each.ensures
