use Rattle.std.proofs.Common.{◌*◌, ℕ, Option, is_some, is_eq, ap, subst, sym}
use Rattle.je_order.specs.Order.{name_cmp}
use Rattle.record_tree.specs.Stored.{stored_at}
use Rattle.db_tree.proofs.Ending.{ok_then}
use Rattle.in_tree.proofs.StoredLaws.{slots_logged, slots_put, stored_put, logged_change}
use Rattle.db_tree.specs.Seen.{with_value}
use Rattle.db_tree.specs.Stored.{IsLoggedAlready}
use Rattle.db_tree.specs.declared.tree.DbTree.{DbTree}
use Rattle.in_tree.specs.Forest.{cells_of}
use Rattle.in_tree.proofs.LoadedLaws.{nodes_still}
use Rattle.in_tree.proofs.Checked.{if_ok_then}
use Rattle.in_tree.proofs.Forests.{tree_change, tree_same}
use Rattle.in_tree.proofs.Written.{err_then}
use Rattle.in_tree.proofs.Waits.{tree_waits_more}
use Rattle.in_tree.proofs.forest.redo.Goals as goal

pub returns-clause-stored : goal.returns-clause-stored
returns-clause-stored c =
    ok_then c.redo_in.result
    (λ logged. stored_put c.args.trees.now (c.get_mut.follows.lender c.redo_in.new.tree) c.args.db c.in-Some.tree.now c.redo_in.new.tree c.args.name.now (stored_at c.args.at c.args.value) c.in-Some.ensures.value
    ((c.get_mut.follows.holds c.redo_in.new.tree).3 (sym (ap is_some c.in-Some.ensures.value))).0
    (logged_change c.in-Some.tree.now.cells c.redo_in.new.tree.cells c.args.name.now c.args.value c.args.at c.redo_in.ensures.was_rising c.redo_in.ensures.rising logged))
    c.redo_in.ensures.logged

pub returns-clause-waits : goal.returns-clause-waits
returns-clause-waits c =
    if_ok_then c.redo_in.result
    (λ (made : ℕ) most. tree_waits_more c.args.trees.now (c.get_mut.follows.lender c.redo_in.new.tree) c.args.db c.in-Some.tree.now c.redo_in.new.tree (2 * made) c.in-Some.ensures.value
    ((c.get_mut.follows.holds c.redo_in.new.tree).3 (sym (ap is_some c.in-Some.ensures.value))).0 c.ranges.db.fits most) c.redo_in.ensures.waits

pub returns-clause-most : goal.returns-clause-most
returns-clause-most c =
    tree_waits_more c.args.trees.now (c.get_mut.follows.lender c.redo_in.new.tree) c.args.db c.in-Some.tree.now c.redo_in.new.tree 128 c.in-Some.ensures.value
    ((c.get_mut.follows.holds c.redo_in.new.tree).3 (sym (ap is_some c.in-Some.ensures.value))).0 c.ranges.db.fits c.redo_in.ensures.most

pub returns-clause-cells : goal.returns-clause-cells
returns-clause-cells c =
    ok_then c.redo_in.result
    (tree_change c.args.trees.now (c.get_mut.follows.lender c.redo_in.new.tree) c.args.db c.in-Some.tree.now c.redo_in.new.tree c.args.name.now (with_value c.args.value) c.in-Some.ensures.value
    ((c.get_mut.follows.holds c.redo_in.new.tree).3 (sym (ap is_some c.in-Some.ensures.value))).0)
    c.redo_in.ensures.cells

pub returns-clause-same : goal.returns-clause-same
returns-clause-same c =
    err_then c.redo_in.result
    (tree_same c.args.trees.now (c.get_mut.follows.lender c.redo_in.new.tree) c.args.db c.in-Some.tree.now c.redo_in.new.tree c.in-Some.ensures.value
    ((c.get_mut.follows.holds c.redo_in.new.tree).3 (sym (ap is_some c.in-Some.ensures.value))).0)
    c.redo_in.ensures.same

pub returns-clause-slots : goal.returns-clause-slots
returns-clause-slots c =
    ok_then c.redo_in.result
    (λ logged. slots_put c.args.trees.now (c.get_mut.follows.lender c.redo_in.new.tree) c.args.db c.in-Some.tree.now c.redo_in.new.tree (λ x. is_eq (name_cmp c.args.name.now x)) c.in-Some.ensures.value
    ((c.get_mut.follows.holds c.redo_in.new.tree).3 (sym (ap is_some c.in-Some.ensures.value))).0
    (slots_logged c.in-Some.tree.now.cells c.redo_in.new.tree.cells c.args.name.now c.args.value c.args.at logged))
    c.redo_in.ensures.logged

pub returns-clause-already : goal.returns-clause-already
returns-clause-already c = λ already.
    ok_then c.redo_in.result
    (nodes_still c.args.trees.now (c.get_mut.follows.lender c.redo_in.new.tree) c.args.db c.in-Some.tree.now c.redo_in.new.tree (sym c.in-Some.ensures.value)
    ((c.get_mut.follows.holds c.redo_in.new.tree).3 (sym (ap is_some c.in-Some.ensures.value))).0)
    (c.redo_in.ensures.already (subst (λ (o : Option DbTree). IsLoggedAlready (cells_of o) c.args.name.now c.args.at c.args.value) (sym c.in-Some.ensures.value) already))
