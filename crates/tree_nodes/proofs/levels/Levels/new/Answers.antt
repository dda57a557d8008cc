use Rattle.std.proofs.Common.{◌∙◌, ◌++◌, ◌∷◌, [], List, ap, subst, sym}
use Rattle.tree_nodes.specs.Nodes.{NodeRow}
use Rattle.tree_nodes.specs.Levels.{AreParts}
use Rattle.tree_nodes.proofs.LevelLaws.{parts_new}
use Rattle.tree_nodes.proofs.levels.Levels.new.Goals as goal

pub invariant_of-result : goal.invariant_of-result
invariant_of-result c =
    subst AreParts (sym (c.in_ok-push.ensures.items ∙ ap (λ (rows : List NodeRow). rows ++ c.in_ok-with_root.field-0 ∷ []) c.new-levels.ensures.items))
    (parts_new c.in_ok-with_root.field-0 c.args.root c.in_ok-with_root.ensures.root c.in_ok-with_root.ensures.rising)
