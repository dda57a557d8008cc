use Rattle.std.proofs.Common.{ap, is_some, sym}
use Rattle.in_tree.proofs.Placings.{taken_back}
use Rattle.in_tree.proofs.forest.take_back.Goals as goal

pub returns-in-Some : goal.returns-in-Some
returns-in-Some c = λ fanout before placed.
    taken_back fanout c.args.db c.args.name.now c.args.room.now before c.args.trees.now (c.get_mut.follows.lender c.take_back.new.self) c.in-Some.tree.now c.take_back.new.self c.in-Some.ensures.value
    ((c.get_mut.follows.holds c.take_back.new.self).3 (sym (ap is_some c.in-Some.ensures.value))).0 c.take_back.ensures.levels c.take_back.ensures.cells placed
