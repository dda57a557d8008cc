use Rattle.std.proofs.Common.{set}
use Rattle.tree_nodes.proofs.LevelLaws.{parts_taken, taken_at, rises_at}
use Rattle.tree_nodes.proofs.levels.remove_in.Goals as goal

pub returns-clause-parts : goal.returns-clause-parts
returns-clause-parts c =
    let old = c.args.levels.now in
    let l = c.args.level in
    let now = c.remove.new.self in
    parts_taken old (set old l now) l c.args.low.now c.requires.parts (taken_at old l c.index-levels-level.result now c.args.low.now c.requires.there c.remove.ensures.taken)
    (rises_at old l now c.requires.there c.remove.ensures.rising) c.requires.above c.requires.low
