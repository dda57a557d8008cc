use Rattle.std.proofs.Common.{set}
use Rattle.tree_nodes.proofs.LevelLaws.{parts_put, put_at, rises_at}
use Rattle.std.proofs.Common.{[], ◌∙◌, ap}
use Rattle.std.proofs.lemmas.List.{get_or_default}
use Rattle.std.specs.BTreeSet.{insert_key}
use Rattle.std.specs.Map.{keys_of}
use Rattle.je_order.specs.Order.{name_cmp}
use Rattle.tree_nodes.specs.Nodes.{NodeRow}
use Rattle.tree_nodes.proofs.LowLaws.{low_put}
use Rattle.tree_nodes.proofs.levels.split_in.Goals as goal

pub returns-clause-parts : goal.returns-clause-parts
returns-clause-parts c =
    let old = c.args.levels.now in
    let l = c.args.level in
    let now = c.put.new.self in
    parts_put old (set old l now) l c.args.middle c.args.node c.requires.parts (put_at old l c.index-levels-level.result now c.args.middle c.args.node c.requires.there c.in_ok-put.ensures.put)
    (rises_at old l now c.requires.there c.put.ensures.rising) c.requires.nested

pub returns-clause-low : goal.returns-clause-low
returns-clause-low c =
    low_put c.args.levels.now c.args.level c.put.new.self c.args.middle
    (c.in_ok-put.ensures.low ∙ ap (λ (row : NodeRow). insert_key name_cmp (keys_of row) c.args.middle) (get_or_default c.args.levels.now c.args.level c.index-levels-level.result [] c.requires.there))
