use Rattle.std.proofs.Common.{ap, is_some, option_copied, sym, take}
use Rattle.db_tree.specs.Splits.{one_if}
use Rattle.db_tree.specs.declared.new_waits.NewWaits.{NewWaits}
use Rattle.in_tree.proofs.Checked.{if_ok_then}
use Rattle.in_tree.proofs.Waits.{tree_waits_more, tree_waits_net}
use Rattle.record_tree.specs.LoadedSlots.{shows_deletion_inside}
use Rattle.db_tree.proofs.Ending.{ok_then}
use Rattle.in_tree.proofs.StoredLaws.{deletions_quiet, deletions_slots, deletions_stored, quiet_put, read_gone, slots_put, stored_still}
use Rattle.in_tree.proofs.loading.put_image.Goals as goal

pub returns-clause-waits : goal.returns-clause-waits
returns-clause-waits c =
    if_ok_then c.put_in.result
    (λ (waits : NewWaits) most. tree_waits_net c.args.trees.now (c.get_mut.follows.lender c.put_in.new.tree) c.args.db c.in-Some.tree.now c.put_in.new.tree waits.more (one_if waits.replaced) c.in-Some.ensures.value
    ((c.get_mut.follows.holds c.put_in.new.tree).3 (sym (ap is_some c.in-Some.ensures.value))).0 c.ranges.db.fits most) c.put_in.ensures.few

pub returns-clause-most : goal.returns-clause-most
returns-clause-most c =
    tree_waits_more c.args.trees.now (c.get_mut.follows.lender c.put_in.new.tree) c.args.db c.in-Some.tree.now c.put_in.new.tree 513 c.in-Some.ensures.value
    ((c.get_mut.follows.holds c.put_in.new.tree).3 (sym (ap is_some c.in-Some.ensures.value))).0 c.ranges.db.fits c.put_in.ensures.most

pub returns-clause-stored : goal.returns-clause-stored
returns-clause-stored c =
    stored_still c.args.trees.now (c.get_mut.follows.lender c.put_in.new.tree) c.args.db c.in-Some.tree.now c.put_in.new.tree c.in-Some.ensures.value
    ((c.get_mut.follows.holds c.put_in.new.tree).3 (sym (ap is_some c.in-Some.ensures.value))).0
    (deletions_stored (shows_deletion_inside c.args.low.now (option_copied c.args.high) (take c.put_in.ensures.some.0 c.args.image.now.slots)) c.args.at c.in-Some.tree.now.cells c.put_in.new.tree.cells c.put_in.ensures.was_rising c.put_in.ensures.rising c.put_in.ensures.some.1)

pub returns-clause-quiet : goal.returns-clause-quiet
returns-clause-quiet c =
    quiet_put c.args.trees.now (c.get_mut.follows.lender c.put_in.new.tree) c.args.db c.in-Some.tree.now c.put_in.new.tree c.in-Some.ensures.value
    ((c.get_mut.follows.holds c.put_in.new.tree).3 (sym (ap is_some c.in-Some.ensures.value))).0
    (deletions_quiet (shows_deletion_inside c.args.low.now (option_copied c.args.high) (take c.put_in.ensures.some.0 c.args.image.now.slots)) c.args.at c.in-Some.tree.now.cells c.put_in.new.tree.cells c.put_in.ensures.rising c.put_in.ensures.some.1)

pub returns-clause-slots : goal.returns-clause-slots
returns-clause-slots c =
    ok_then c.put_in.result
    (λ got. slots_put c.args.trees.now (c.get_mut.follows.lender c.put_in.new.tree) c.args.db c.in-Some.tree.now c.put_in.new.tree (shows_deletion_inside c.args.low.now (option_copied c.args.high) c.args.image.now.slots) c.in-Some.ensures.value
    ((c.get_mut.follows.holds c.put_in.new.tree).3 (sym (ap is_some c.in-Some.ensures.value))).0
    (deletions_slots (shows_deletion_inside c.args.low.now (option_copied c.args.high) c.args.image.now.slots) c.args.at c.in-Some.tree.now.cells c.put_in.new.tree.cells got))
    c.put_in.ensures.slots

pub returns-clause-read : goal.returns-clause-read
returns-clause-read c =
    ok_then c.put_in.result
    (λ got. read_gone c.args.trees.now (c.get_mut.follows.lender c.put_in.new.tree) c.args.db c.in-Some.tree.now c.put_in.new.tree (shows_deletion_inside c.args.low.now (option_copied c.args.high) c.args.image.now.slots) c.args.at c.in-Some.ensures.value
    ((c.get_mut.follows.holds c.put_in.new.tree).3 (sym (ap is_some c.in-Some.ensures.value))).0 got)
    c.put_in.ensures.slots
