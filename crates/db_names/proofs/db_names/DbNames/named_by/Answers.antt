use Rattle.std.proofs.Common.{take}
use Rattle.record_tree.specs.Stored.{lent}
use Rattle.db_names.proofs.Changes.{next_named}
use Rattle.db_names.proofs.db_names.DbNames.named_by.Goals as goal

pub loop-record-preserved : goal.loop-record-preserved
loop-record-preserved c =
    let i = c.loop-record.record-index in
    next_named c.args.records.now i c.record-item.result c.put_named.new.self c.loop-record-test.true c.record-item.is
    (c.in_ok-put_named.ensures (lent (take i c.args.records.now)) c.loop-record.invariant)
