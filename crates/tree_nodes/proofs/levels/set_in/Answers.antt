use Rattle.std.proofs.Common.{set}
use Rattle.tree_nodes.proofs.LevelLaws.{parts_set, put_at, rises_at, is_level}
use Rattle.tree_nodes.proofs.levels.set_in.Goals as goal

pub returns-clause-parts : goal.returns-clause-parts
returns-clause-parts c =
    let old = c.args.levels.now in
    let l = c.args.level in
    let now = c.set.new.self in
    let less = is_level old l c.args.low.now c.requires.there in
    parts_set old (set old l now) l c.args.low.now c.args.node c.requires.parts (put_at old l c.index-levels-level.result now c.args.low.now c.args.node less c.set.ensures.put)
    (rises_at old l now less c.set.ensures.rising) c.requires.there
