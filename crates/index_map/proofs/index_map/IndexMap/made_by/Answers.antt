use Rattle.std.proofs.Common.{◌<◌, length, arith}
use Rattle.index_map.proofs.Changes.{read_more}
use Rattle.index_map.proofs.index_map.IndexMap.made_by.Goals as goal

pub loop-record-preserved : goal.loop-record-preserved
loop-record-preserved c =
    let within : c.loop-record.record-index < length c.args.records.now = omega arith in
    read_more c.args.records.now c.loop-record.record-index c.record-item.result c.loop-record.map c.add_made.new.self within c.record-item.is c.loop-record.invariant c.in_ok-add_made.ensures
