use Rattle.std.proofs.Common.{subst, sym}
use Rattle.tree_nodes.specs.Levels.{AreParts}
use Rattle.tree_nodes.proofs.LevelLaws.{parts_raised}
use Rattle.tree_nodes.proofs.levels.Levels.raise.Goals as goal

pub invariant_of-self-2 : goal.invariant_of-self-2
invariant_of-self-2 c =
    subst AreParts (sym c.in_ok-push.ensures.items) (parts_raised c.self.inside.levels.items c.in_ok-level.level c.args.root c.self.invariant c.in_ok-level.ensures.root c.in_ok-level.ensures.rising)

pub returns-clause-parts : goal.returns-clause-parts
returns-clause-parts c =
    subst AreParts (sym c.in_ok-push.ensures.items) (parts_raised c.self.inside.levels.items c.in_ok-level.level c.args.root c.self.invariant c.in_ok-level.ensures.root c.in_ok-level.ensures.rising)
