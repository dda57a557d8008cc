use Rattle.std.proofs.Common.{◌≡◌, Option, subst, arith}
use Rattle.std.specs.Prelude.{IfOk}
use Rattle.node_core.specs.declared.node.Node.{Node}
use Rattle.node_log.proofs.NodeFromSlots.{entry_shown}
use Rattle.node_log.proofs.reading.with_change.Goals as goal

pub returns-else-number-node : goal.returns-else-number-node
returns-else-number-node c =
    let db : c.in-BinDelta.db ≡ c.args.node.db = omega arith in
    let number : c.in-BinDelta.number ≡ c.args.node.number = omega arith in
    subst (λ (o : Option Node). IfOk c.with_records.result (λ found. found ≡ o))
    (entry_shown c.args.node c.args.delta.now c.in-BinDelta.db c.in-BinDelta.number c.in-BinDelta.full c.in-BinDelta.slots c.as_slice.result.now c.in-BinDelta.is c.as_slice.ensures db number)
    c.with_records.ensures
