use Rattle.std.proofs.Common.{◌∙◌, Option, ap, refl, sym}
use Rattle.db_tree.specs.declared.node_split.NodeSplit.{NodeSplit}
use Rattle.db_tree.specs.Waiting.{waiting_before, waiting_of}
use Rattle.db_tree.proofs.LoggedLaws.{last_is, waiting_end, some_length}
use Rattle.db_tree.proofs.tree.DbTree.waiting_before.Goals as goal

pub returns : goal.returns
returns c =
    waiting_end c.args.self.now.levels c.index-splits-splits.result c.args.splits.now c.loop-level.level c.loop-level.nodes.items _ c.loop-level-test.false c.loop-level.invariant
    ∙ ap (λ (o : Option NodeSplit). waiting_before o c.args.splits.now (waiting_of c.args.self.now.levels))
    (sym (last_is c.args.splits.now c.index-splits-splits.result _ refl (some_length c.args.splits.now c.if-splits-eq0.false) c.index-splits-splits.is))
