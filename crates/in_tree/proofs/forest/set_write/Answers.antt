use Rattle.std.proofs.Common.{ap, is_some, sym}
use Rattle.in_tree.proofs.Waits.{tree_waits_same, same_levels}
use Rattle.in_tree.proofs.forest.set_write.Goals as goal

pub returns-in-Some-clause-waits : goal.returns-in-Some-clause-waits
returns-in-Some-clause-waits c =
    tree_waits_same c.args.trees.now (c.get_mut.follows.lender c.put_write.new.self) c.args.db c.in-Some.tree.now c.put_write.new.self c.in-Some.ensures.value
    ((c.get_mut.follows.holds c.put_write.new.self).3 (sym (ap is_some c.in-Some.ensures.value))).0 c.ranges.db.fits (same_levels c.in-Some.tree.now c.put_write.new.self c.put_write.ensures.levels)
