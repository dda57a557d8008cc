use Rattle.log_entry.specs.Items.{items_in}
use Rattle.log_entry.proofs.ItemLaws.{none_found, some_found, reading_fails, reading_goes_on, reading_ends}
use Rattle.log_entry.proofs.items.read_items.Goals as goal

pub returns-in_default : goal.returns-in_default
returns-in_default g c =
    let item_in = g.T.Item.item_in in
    reading_fails item_in c.args.count c.loop-i.i c.loop-i.items.items c.loop-i.reader (items_in item_in c.args.count c.args.reader.now) c.loop-i-test.true
    (none_found item_in c.in_ok-item.field-0 c.loop-i.reader c.read.new.reader c.in_default.is c.in_ok-item.ensures) c.loop-i.invariant

pub loop-i-preserved : goal.loop-i-preserved
loop-i-preserved g c =
    let item_in = g.T.Item.item_in in
    reading_goes_on item_in c.args.count c.loop-i.i c.loop-i.items.items c.push.new.self.items c.in-Some.item c.loop-i.reader c.read.new.reader (items_in item_in c.args.count c.args.reader.now) c.loop-i-test.true
    (some_found item_in c.in_ok-item.field-0 c.in-Some.item c.loop-i.reader c.read.new.reader c.in-Some.is c.in_ok-item.ensures) c.in_ok-push.ensures.items c.loop-i.invariant

pub returns : goal.returns
returns g c =
    let item_in = g.T.Item.item_in in
    reading_ends item_in c.args.count c.loop-i.i c.loop-i.items.items c.loop-i.reader (items_in item_in c.args.count c.args.reader.now) c.loop-i-test.false c.loop-i.invariant
