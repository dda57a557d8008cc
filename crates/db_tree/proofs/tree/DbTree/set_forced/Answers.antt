use Rattle.std.proofs.Common.{Some, ◌≤◌, ◌∙◌, ℕ, ap, sym, subst}
use Rattle.tree_nodes.specs.declared.node.Node.{Node}
use Rattle.tree_nodes.specs.Levels.{HasPutAt}
use Rattle.db_tree.specs.Content.{kept_by}
use Rattle.db_tree.proofs.ForcedLaws.{force_put, force_none, force_past, force_tree}
use Rattle.db_tree.proofs.tree.DbTree.set_forced.Goals as goal

pub returns-then-level-height-clause-forced : goal.returns-then-level-height-clause-forced
returns-then-level-height-clause-forced c = force_past c.args.forced c.args.self.now.levels c.args.level c.args.low.now c.height-height.ensures.parts
    (subst (λ (n : ℕ). n ≤ c.args.level) c.height-height.ensures.value c.if-level-height.true)

pub returns-in-None-clause-forced : goal.returns-in-None-clause-forced
returns-in-None-clause-forced c = force_none c.args.forced c.args.self.now.levels c.args.level c.args.low.now c.height-height.ensures.parts (sym c.in-None.ensures)

pub returns-clause-forced : goal.returns-clause-forced
returns-clause-forced c =
    force_put c.args.forced c.args.self.now.levels c.set.new.self c.args.level c.args.low.now c.copy-node.result c.height-height.ensures.parts c.set.ensures.parts
    (sym c.in-Some.ensures ∙ ap Some (sym c.copy-node.ensures)) (subst (λ (n : Node). HasPutAt c.args.self.now.levels c.set.new.self c.args.level c.args.low.now n) c.with_forced.ensures c.set.ensures.put)

pub returns-clause-tree : goal.returns-clause-tree
returns-clause-tree c = λ es base newest tree.
    force_tree c.args.forced es base newest c.args.self.now.levels c.set.new.self (kept_by c.args.self.now.cells) c.args.level c.args.low.now c.copy-node.result
    (sym c.in-Some.ensures ∙ ap Some (sym c.copy-node.ensures)) (subst (λ (n : Node). HasPutAt c.args.self.now.levels c.set.new.self c.args.level c.args.low.now n) c.with_forced.ensures c.set.ensures.put) tree
