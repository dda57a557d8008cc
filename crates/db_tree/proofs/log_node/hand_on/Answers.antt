use Rattle.std.proofs.Common.{suc, subst, add-one, ◌+◌, inr}
use Rattle.tree_nodes.specs.Levels.{HasMarkedAt}
use Rattle.db_tree.proofs.NodeLogging.{handed_on}
use Rattle.db_tree.proofs.Records.{marks}
use Rattle.db_tree.proofs.WaitLaws.{mark_alike}
use Rattle.db_tree.proofs.NodeSteps.{nodes_marked}
use Rattle.db_tree.proofs.NotingLaws.{notes_marked}
use Rattle.db_tree.proofs.log_node.hand_on.Goals as goal

pub returns-clause-notes : goal.returns-clause-notes
returns-clause-notes c = notes_marked c.args.levels.now c.mark.new.self (c.args.level + 1) c.args.low.now c.mark_above.result c.mark.ensures.marked

pub returns-clause-handed : goal.returns-clause-handed
returns-clause-handed c = λ p over.
    handed_on c.args.levels.now c.mark.new.self c.args.level c.args.low.now c.args.node.now c.args.at
    (subst (λ from. HasMarkedAt c.args.levels.now c.mark.new.self (suc c.args.level) c.args.low.now from) c.mark_above.ensures
    (subst (λ l. HasMarkedAt c.args.levels.now c.mark.new.self l c.args.low.now c.mark_above.result) (add-one c.args.level) c.mark.ensures.marked)) p over

pub returns-clause-tree : goal.returns-clause-tree
returns-clause-tree c = λ es base newest held tree.
    marks es base newest c.args.levels.now c.mark.new.self held (c.args.level + 1) c.args.low.now c.mark_above.result c.mark.ensures.marked tree

pub returns-clause-others : goal.returns-clause-others
returns-clause-others c =
    (subst (λ l. HasMarkedAt c.args.levels.now c.mark.new.self l c.args.low.now c.mark_above.result) (add-one c.args.level) c.mark.ensures.marked).put.others

pub returns-clause-alike : goal.returns-clause-alike
returns-clause-alike c = mark_alike c.args.levels.now c.mark.new.self (c.args.level + 1) c.args.low.now c.mark_above.result c.height-height.ensures.parts c.mark.ensures.parts c.mark.ensures.marked

pub returns-clause-nodes : goal.returns-clause-nodes
returns-clause-nodes c = nodes_marked c.args.levels.now c.mark.new.self (c.args.level + 1) c.args.low.now c.mark_above.result c.height-height.ensures.parts c.mark.ensures.parts c.mark.ensures.marked

pub returns-clause-up : goal.returns-clause-up
returns-clause-up c =
    inr (subst (λ from. HasMarkedAt c.args.levels.now c.mark.new.self (suc c.args.level) c.args.low.now from) c.mark_above.ensures
    (subst (λ l. HasMarkedAt c.args.levels.now c.mark.new.self l c.args.low.now c.mark_above.result) (add-one c.args.level) c.mark.ensures.marked))
