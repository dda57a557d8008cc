use Rattle.std.proofs.Common.{ap, inr, is_some, sym}
use Rattle.in_tree.proofs.Waits.{tree_waits_same, same_levels}
use Rattle.in_tree.proofs.forest.abort.Goals as goal

pub returns-in-Some-clause-waits : goal.returns-in-Some-clause-waits
returns-in-Some-clause-waits c =
    tree_waits_same c.args.trees.now (c.get_mut.follows.lender c.abort.new.self) c.args.db c.in-Some.tree.now c.abort.new.self c.in-Some.ensures.value
    ((c.get_mut.follows.holds c.abort.new.self).3 (sym (ap is_some c.in-Some.ensures.value))).0 c.ranges.db.fits (same_levels c.in-Some.tree.now c.abort.new.self c.abort.ensures.levels)

pub returns-in-Some-clause-step : goal.returns-in-Some-clause-step
returns-in-Some-clause-step c =
    inr
    (record {
      tree = c.in-Some.tree.now;
      next = c.abort.new.self;
      was = sym c.in-Some.ensures.value;
      has = ((c.get_mut.follows.holds c.abort.new.self).3 (sym (ap is_some c.in-Some.ensures.value))).0;
      step = record { levels = c.abort.ensures.levels; set = c.abort.ensures.cells; exact = c.abort.ensures.exact; keeps = c.abort.ensures.tree };
    })
