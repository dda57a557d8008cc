use Rattle.log_entry.specs.Items.{rises_from}
use Rattle.log_entry.proofs.ItemLaws.{rising_goes_on, rising_ends}
use Rattle.db_tree.proofs.image_slot.rises_from.Goals as goal

pub loop-slot-preserved : goal.loop-slot-preserved
loop-slot-preserved g c =
    rising_goes_on g.T.ImageSlot.before c.args.slots.now c.loop-slot.slot-index c.loop-slot.last.now c.slot-item.result (rises_from g.T.ImageSlot.before c.args.first.now c.args.slots.now)
    c.loop-slot-test.true c.slot-item.is c.if-not-comes_before.ensures c.loop-slot.invariant

pub returns : goal.returns
returns g c =
    rising_ends g.T.ImageSlot.before c.args.slots.now c.loop-slot.slot-index c.loop-slot.last.now (rises_from g.T.ImageSlot.before c.args.first.now c.args.slots.now) c.loop-slot-test.false c.loop-slot.invariant
