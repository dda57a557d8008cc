use Rattle.std.proofs.Common.{◌≡◌, ◌++◌, map, drop, Box}
use Rattle.std.specs.Global.{Global}
use Rattle.record_map.specs.declared.write.Write.{Write}
use Rattle.in_tree.specs.Forest.{write_for}
use Rattle.in_tree.proofs.preparing.writes_for.Given as goal

abbrev pub invariant-loop-change : goal.invariant-loop-change
invariant-loop-change l = map (λ (b : Box Write Global). b.value) l.writes.items ++ map (write_for l.txn) (drop l.change-index l.changes) ≡ map (write_for l.txn) l.changes
