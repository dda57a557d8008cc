use Rattle.std.proofs.Common.{◌∙◌, List, ap, subst, sym}
use Rattle.std.proofs.lemmas.Bool.{true≢false}
use Rattle.tree_nodes.specs.Nodes.{NodeRow}
use Rattle.tree_nodes.specs.Lows.{lows_of}
use Rattle.db_tree.specs.NodeSteps.{AreSameNodes}
use Rattle.db_tree.specs.Waiting.{waiting_of}
use Rattle.db_tree.proofs.NodeSteps.{nodes_stay}
use Rattle.db_tree.proofs.tree.DbTree.redo.Goals as goal

pub returns-then-has_logged-clause-waits : goal.returns-then-has_logged-clause-waits
returns-then-has_logged-clause-waits c = record { lows = ap lows_of c.redo_again.ensures.levels; waits = ap waiting_of c.redo_again.ensures.levels }

pub returns-then-has_logged-clause-nodes : goal.returns-then-has_logged-clause-nodes
returns-then-has_logged-clause-nodes c = subst (λ (rows : List NodeRow). AreSameNodes c.args.self.now.levels rows) (sym c.redo_again.ensures.levels) (nodes_stay c.args.self.now.levels)

pub returns-clause-already : goal.returns-clause-already
returns-clause-already c = λ already. absurd (true≢false (sym (c.has_logged.ensures.no already) ∙ c.if-has_logged.false))

pub returns-then-has_logged-clause-tree : goal.returns-then-has_logged-clause-tree
returns-then-has_logged-clause-tree c = λ es base newest behind redone tree. c.redo_again.ensures.tree es base newest tree
