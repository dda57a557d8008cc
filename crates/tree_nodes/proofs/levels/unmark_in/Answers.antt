use Rattle.std.proofs.Common.{set, subst, sym, IsSome, refl, []}
use Rattle.std.proofs.lemmas.List.{get_or_default}
use Rattle.record_map.specs.Cells.{value_at}
use Rattle.tree_nodes.specs.Nodes.{NodeRow, without_mark}
use Rattle.tree_nodes.proofs.LevelLaws.{parts_set, put_at, rises_at}
use Rattle.tree_nodes.proofs.levels.unmark_in.Goals as goal

pub returns-clause-parts : goal.returns-clause-parts
returns-clause-parts c =
    let old = c.args.levels.now in
    let l = c.args.level in
    let now = c.unmark.new.self in
    let m = c.unmark.ensures.unmarked in
    parts_set old (set old l now) l m.e.0 (without_mark m.e.1) c.requires.parts (put_at old l c.index-levels-level.result now m.e.0 (without_mark m.e.1) c.requires.there m.put)
    (rises_at old l now c.requires.there c.unmark.ensures.rising)
    (subst (λ (row : NodeRow). IsSome (value_at m.e.0 row)) (get_or_default old l c.index-levels-level.result [] c.requires.there) (subst IsSome (sym m.over.there) refl))
