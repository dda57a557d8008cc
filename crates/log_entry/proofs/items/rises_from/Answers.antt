use Rattle.log_entry.specs.Items.{rises_from}
use Rattle.log_entry.proofs.ItemLaws.{rising_goes_on, rising_ends}
use Rattle.log_entry.proofs.items.rises_from.Goals as goal

pub loop-item-preserved : goal.loop-item-preserved
loop-item-preserved g c =
    rising_goes_on g.T.Item.before c.args.items.now c.loop-item.item-index c.loop-item.last.now c.item-item.result (rises_from g.T.Item.before c.args.first.now c.args.items.now)
    c.loop-item-test.true c.item-item.is c.if-not-comes_before.ensures c.loop-item.invariant

pub returns : goal.returns
returns g c =
    rising_ends g.T.Item.before c.args.items.now c.loop-item.item-index c.loop-item.last.now (rises_from g.T.Item.before c.args.first.now c.args.items.now) c.loop-item-test.false c.loop-item.invariant
