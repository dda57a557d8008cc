use Rattle.std.proofs.Common.{subst, sym}
use Rattle.std.proofs.lemmas.List.{drop_all}
use Rattle.std.specs.List.{AllByRecursion}
use Rattle.db_tree.proofs.Ending.{next_left}
use Rattle.db_tree.proofs.image_slot.each_fits.Goals as goal

pub loop-slot-preserved : goal.loop-slot-preserved
loop-slot-preserved g c = λ rest.
    c.loop-slot.invariant
    (subst (AllByRecursion g.T.ImageSlot.IsSlot) (sym (next_left c.args.slots.now c.loop-slot.slot-index c.slot-item.result c.loop-slot-test.true c.slot-item.is)) (c.fits.ensures c.if-not-fits.false, rest))

pub returns : goal.returns
returns g c = λ is. c.loop-slot.invariant (subst (AllByRecursion g.T.ImageSlot.IsSlot) (sym (drop_all c.loop-slot.slot-index c.args.slots.now c.loop-slot-test.false)) tt)
