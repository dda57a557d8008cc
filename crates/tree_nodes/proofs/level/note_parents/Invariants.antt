use Rattle.std.proofs.Common.{◌<◌, IsSome, length}
use Rattle.std.specs.List.{AllByRecursion}
use Rattle.record_map.specs.Cells.{IsRising, value_at}
use Rattle.tree_nodes.specs.Nodes.{least}
use Rattle.tree_nodes.proofs.NoteLaws.{IsNotedAbove}
use Rattle.tree_nodes.proofs.level.note_parents.Given as goal

abbrev pub invariant-loop-low : goal.invariant-loop-low
invariant-loop-low l =
    IsNotedAbove l.fn.lows.entries l.low-iterator l.nodes l.initial.row l.row × IsSome (value_at least l.row) × IsRising l.row × AllByRecursion (λ e. e.1 < length l.nodes) l.low-iterator
