use Rattle.std.proofs.Common.{Some, ◌∙◌, ap, sym}
use Rattle.db_tree.specs.Content.{kept_by}
use Rattle.db_tree.proofs.Records.{waits}
use Rattle.db_tree.proofs.WaitCounts.{put_few}
use Rattle.db_tree.proofs.WaitingNodes.{waiting_none, waiting_put}
use Rattle.db_tree.proofs.SinceLaws.{waits_since}
use Rattle.db_tree.proofs.tree.DbTree.wait.Goals as goal

pub returns-clause-tree : goal.returns-clause-tree
returns-clause-tree c = λ es base newest tree.
    waits es base newest c.args.self.now.levels c.set.new.self (kept_by c.args.self.now.cells) c.args.level c.args.low.now c.copy-node.result c.waiting.result c.args.mark
    (sym c.in-Some.ensures ∙ ap Some (sym c.copy-node.ensures)) c.set.ensures.put c.waiting.ensures.last c.waiting.ensures.from tree

pub returns-clause-few : goal.returns-clause-few
returns-clause-few c =
    put_few c.args.self.now.levels c.set.new.self c.args.level c.args.low.now c.copy-node.result c.waiting.result c.height.ensures.parts c.set.ensures.parts (sym c.in-Some.ensures ∙ ap Some (sym c.copy-node.ensures)) c.set.ensures.put

pub returns-in-None-clause-waiting : goal.returns-in-None-clause-waiting
returns-in-None-clause-waiting c = waiting_none c.args.self.now.levels c.args.level c.args.low.now (sym c.in-None.ensures)

pub returns-clause-waiting : goal.returns-clause-waiting
returns-clause-waiting c =
    waiting_put c.args.self.now.levels c.set.new.self c.args.level c.args.low.now c.copy-node.result c.waiting.result c.height.ensures.parts c.set.ensures.parts (sym c.in-Some.ensures ∙ ap Some (sym c.copy-node.ensures))
    c.set.ensures.put c.waiting.ensures.number c.waiting.ensures.last c.waiting.ensures.forced

pub returns-clause-since : goal.returns-clause-since
returns-clause-since c =
    waits_since c.args.self.now.levels c.set.new.self c.args.level c.args.low.now c.copy-node.result c.waiting.result c.args.mark (sym c.in-Some.ensures ∙ ap Some (sym c.copy-node.ensures)) c.set.ensures.put
    c.waiting.ensures.noted c.waiting.ensures.from
