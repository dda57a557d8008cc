use Rattle.std.proofs.Common.{drop, map, Box}
use Rattle.std.specs.Global.{Global}
use Rattle.record_map.specs.declared.write.Write.{Write}
use Rattle.in_tree.proofs.Written.{WritesLeft}
use Rattle.in_tree.proofs.writing.write_each.Given as goal

abbrev pub invariant-loop-change : goal.invariant-loop-change
invariant-loop-change g l =
    WritesLeft g.D.Disk.meaning l.txn l.initial.log l.log l.initial.trees l.trees l.changes (drop l.change-index l.changes) l.fn.rooms.items l.rooms.rest.items
    (map (λ (b : Box Write Global). b.value) l.writes.rest.items)
    l.first
