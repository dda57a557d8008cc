use Rattle.std.proofs.Common.{rules}
use Rattle.std.proofs.lemmas.List.Sorted.{IsPartitionPoint-from_clause}
use Rattle.node_core.proofs.SlotPositions.{is_under, partitioned, place_from}
use Rattle.node_core.proofs.slots.rank_in.Goals as goal

pub returns : goal.returns
returns c =
    let x = c.args.at.now in
    let ms = c.args.marked.now in
    place_from x ms c.partition_point.result c.partition_point.ensures.bound
    (IsPartitionPoint-from_clause (is_under x) ms c.partition_point.result c.partition_point.ensures.partitioned (partitioned x ms c.requires) (λ a r f called. search rules))
