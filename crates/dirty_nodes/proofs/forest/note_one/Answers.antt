use Rattle.std.proofs.Common.{ap, is_some, sym}
use Rattle.dirty_nodes.proofs.NotedTrees.{for_one}
use Rattle.dirty_nodes.proofs.forest.note_one.Goals as goal

pub returns-in-Some : goal.returns-in-Some
returns-in-Some c =
    for_one c.args.forest.now (c.get_mut.follows.lender c.note_dirty.new.self) c.args.db.now c.in-Some.tree.now c.note_dirty.new.self c.in-Some.ensures.value
    ((c.get_mut.follows.holds c.note_dirty.new.self).3 (sym (ap is_some c.in-Some.ensures.value))).0 (record { noted = c.note_dirty.ensures.noted; cells = c.note_dirty.ensures.cells; parts = c.note_dirty.ensures.parts })
