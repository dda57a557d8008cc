use Rattle.std.proofs.Common.{sym}
use Rattle.node_log.proofs.NodeFromSlots.{with_none, with_some}
use Rattle.node_log.proofs.reading.with_records.Goals as goal

pub returns-then-not-branch : goal.returns-then-not-branch
returns-then-not-branch c =
    sym (with_none c.args.node c.args.full c.args.records.now c.in_ok-slots.slots c.in_ok-put_slots.field-0 c.in_ok-slots.ensures c.in_ok-put_slots.ensures.room c.if-not-branch.true)

pub returns : goal.returns
returns c =
    let put = c.in_ok-put_slots.ensures in
    sym (with_some c.args.node c.put_slots.new.node c.args.full c.args.records.now c.in_ok-slots.slots c.in_ok-put_slots.field-0 c.in_ok-slots.ensures put.room c.if-not-branch.false put.db put.number put.level (put.slots c.if-not-branch.false))
