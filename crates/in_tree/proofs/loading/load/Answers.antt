use Rattle.std.proofs.Common.{Some, is_some, is_eq, ap, sym, refl}
use Rattle.je_order.specs.Order.{name_cmp}
use Rattle.record_tree.specs.Stored.{stored_at}
use Rattle.db_tree.specs.Stored.{loaded_cell}
use Rattle.db_tree.proofs.Ending.{ok_then}
use Rattle.in_tree.proofs.StoredLaws.{read_put, slots_change, slots_put, stored_put, stored_change}
use Rattle.in_tree.proofs.Waits.{tree_waits_same, same_levels}
use Rattle.in_tree.proofs.loading.load.Goals as goal

pub returns-clause-stored : goal.returns-clause-stored
returns-clause-stored c =
    ok_then c.load.result
    (λ has. stored_put c.args.trees.now (c.get_mut.follows.lender c.load.new.self) c.args.db c.in-Some.tree.now c.load.new.self c.args.name (stored_at c.args.at (Some c.args.value.now)) c.in-Some.ensures.value
    ((c.get_mut.follows.holds c.load.new.self).3 (sym (ap is_some c.in-Some.ensures.value))).0
    (stored_change c.in-Some.tree.now.cells c.load.new.self.cells c.args.name (loaded_cell c.args.at c.args.value.now) c.load.ensures.was_rising c.load.ensures.rising has))
    c.load.ensures.cell

pub returns-clause-waits : goal.returns-clause-waits
returns-clause-waits c =
    tree_waits_same c.args.trees.now (c.get_mut.follows.lender c.load.new.self) c.args.db c.in-Some.tree.now c.load.new.self c.in-Some.ensures.value
    ((c.get_mut.follows.holds c.load.new.self).3 (sym (ap is_some c.in-Some.ensures.value))).0 c.ranges.db.fits (same_levels c.in-Some.tree.now c.load.new.self c.load.ensures.levels)

pub returns-clause-slots : goal.returns-clause-slots
returns-clause-slots c =
    ok_then c.load.result
    (λ has. slots_put c.args.trees.now (c.get_mut.follows.lender c.load.new.self) c.args.db c.in-Some.tree.now c.load.new.self (λ x. is_eq (name_cmp c.args.name x)) c.in-Some.ensures.value
    ((c.get_mut.follows.holds c.load.new.self).3 (sym (ap is_some c.in-Some.ensures.value))).0
    (slots_change c.in-Some.tree.now.cells c.load.new.self.cells c.args.name (loaded_cell c.args.at c.args.value.now) refl has))
    c.load.ensures.cell

pub returns-clause-read : goal.returns-clause-read
returns-clause-read c =
    ok_then c.load.result
    (λ has. read_put c.args.trees.now (c.get_mut.follows.lender c.load.new.self) c.args.db c.in-Some.tree.now c.load.new.self c.args.name c.args.at c.args.value.now c.in-Some.ensures.value
    ((c.get_mut.follows.holds c.load.new.self).3 (sym (ap is_some c.in-Some.ensures.value))).0 has)
    c.load.ensures.cell
