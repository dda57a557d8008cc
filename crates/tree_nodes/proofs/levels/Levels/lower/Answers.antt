use Rattle.std.proofs.Common.{◌≡◌, ◌<◌, ◌-◌, length, take, vec_len, arith, subst, sym, List}
use Rattle.tree_nodes.specs.Nodes.{NodeRow}
use Rattle.tree_nodes.specs.Levels.{AreParts}
use Rattle.tree_nodes.proofs.LevelLaws.{parts_lowered}
use Rattle.tree_nodes.proofs.levels.Levels.lower.Goals as goal

pub invariant_of-self : goal.invariant_of-self
invariant_of-self c =
    let len : length c.self.inside.levels.items ≡ vec_len c.self.inside.levels = omega (arith, c.self.inside.levels.ok.0) in
    subst AreParts (sym c.pop.ensures.rest)
    (subst (λ count. AreParts (take (count - 1) c.self.inside.levels.items)) len
    (parts_lowered c.self.inside.levels.items c.self.invariant (subst (λ (rows : List NodeRow). 1 < length rows) (sym c.self.view_is) c.requires)))

pub returns-clause-parts : goal.returns-clause-parts
returns-clause-parts c =
    let len : length c.self.inside.levels.items ≡ vec_len c.self.inside.levels = omega (arith, c.self.inside.levels.ok.0) in
    subst AreParts (sym c.pop.ensures.rest)
    (subst (λ count. AreParts (take (count - 1) c.self.inside.levels.items)) len
    (parts_lowered c.self.inside.levels.items c.self.invariant (subst (λ (rows : List NodeRow). 1 < length rows) (sym c.self.view_is) c.requires)))
