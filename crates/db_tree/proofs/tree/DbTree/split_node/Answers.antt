use Rattle.std.proofs.Common.{◌∙◌, ap, subst, sym}
use Rattle.tree_nodes.specs.declared.node.Node.{Node}
use Rattle.tree_nodes.specs.Levels.{row_of}
use Rattle.db_tree.specs.Trees.{IsMark}
use Rattle.db_tree.proofs.NotingLaws.{over_from, over_noted}
use Rattle.db_tree.specs.Content.{kept_by}
use Rattle.db_tree.proofs.Marking.{marked_or_split}
use Rattle.db_tree.proofs.SplitLaws.{split_is_mark}
use Rattle.db_tree.proofs.WaitLaws.{put_number, split_waits}
use Rattle.db_tree.proofs.tree.DbTree.split_node.Goals as goal

pub returns-clause-put : goal.returns-clause-put
returns-clause-put c = (
  c.split_off-right.result,
  c.in_ok-split.ensures.ok,
  λ e over. (
    ap (λ (n : Node). n.noted) c.split_off-right.ensures ∙ over_noted (row_of c.args.self.now.levels c.args.level) c.args.middle (c.over.result.0.now, c.over.result.1.now) e c.over.ensures.over over,
    ap (λ (n : Node). n.from) c.split_off-right.ensures ∙ over_from (row_of c.args.self.now.levels c.args.level) c.args.middle (c.over.result.0.now, c.over.result.1.now) e c.over.ensures.over over,
  ),
)

pub returns-clause-tree : goal.returns-clause-tree
returns-clause-tree c = λ es base newest tree.
    marked_or_split es base newest c.args.self.now.levels c.split.new.self (kept_by c.args.self.now.cells) c.args.level c.over.result.0.now c.args.middle c.over.result.1.now c.split_off-right.result
    c.over.ensures.over c.in_ok-split.ensures.ok
    (subst (λ (n : Node). IsMark c.over.result.1.now n) (sym c.split_off-right.ensures) (split_is_mark c.over.result.1.now c.args.number c.args.slots)) tree

pub returns-clause-waits : goal.returns-clause-waits
returns-clause-waits c =
    split_waits c.args.self.now.levels c.split.new.self c.args.level c.args.middle c.split_off-right.result c.requires.there c.requires.free c.in_ok-split.ensures.ok (ap (λ (n : Node). n.forced) c.split_off-right.ensures) c.in_ok-split.ensures.low

pub returns-clause-number : goal.returns-clause-number
returns-clause-number c = put_number c.args.self.now.levels c.split.new.self c.args.level c.args.middle c.split_off-right.result c.in_ok-split.ensures.ok ∙ ap (λ (n : Node). n.number) c.split_off-right.ensures
