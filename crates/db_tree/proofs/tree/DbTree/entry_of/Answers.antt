use Rattle.std.proofs.Common.{◌∙◌, ◌+◌, ap, option_copied}
use Rattle.log_entry.specs.declared.entry.Entry.TheVariants.{In, Bin}
use Rattle.tree_nodes.specs.Levels.{row_of}
use Rattle.db_tree.specs.Content.{record_slots}
use Rattle.db_tree.proofs.Contents.{above_if_some}
use Rattle.db_tree.proofs.ImageLaws.{bin_is, in_is}
use Rattle.db_tree.proofs.tree.DbTree.entry_of.Goals as goal

pub between-requires : goal.between-requires
between-requires c = above_if_some c.upper_bound-high.result c.args.low.now (row_of c.args.self.now.levels c.args.level) c.upper_bound-high.ensures

pub slots-requires-clause-forward : goal.slots-requires-clause-forward
slots-requires-clause-forward c = above_if_some c.upper_bound-high.result c.args.low.now (row_of c.args.self.now.levels c.args.level) c.upper_bound-high.ensures

pub returns-then-level-eq0 : goal.returns-then-level-eq0
returns-then-level-eq0 c =
    ap (Bin c.args.db c.args.number) (c.in_ok-slots.ensures ∙ ap record_slots c.between.ensures.cells)
    ∙ bin_is c.args.db c.args.number c.args.level c.args.low.now (option_copied c.upper_bound-high.result) c.args.self.now.levels c.args.self.now.cells c.if-level-eq0.true c.upper_bound-high.ensures

pub returns : goal.returns
returns c =
    ap (In c.args.db c.args.number (c.args.level + 1)) c.in_ok-kept_children.ensures
    ∙ in_is c.args.db c.args.number c.args.level c.args.low.now (option_copied c.upper_bound-high.result) c.args.self.now.levels c.args.self.now.cells c.in_ok-slots-2.slots c.if-level-eq0.false c.upper_bound-high.ensures c.in_ok-slots-2.ensures
