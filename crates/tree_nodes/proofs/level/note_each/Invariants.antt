use Rattle.std.proofs.Common.{◌≤◌, ℕ, List, length}
use Rattle.je_order.specs.declared.name.Name.{Name}
use Rattle.tree_nodes.specs.Due.{AreDueKept}
use Rattle.tree_nodes.proofs.NoteLaws.{IsNotedUpTo}
use Rattle.tree_nodes.proofs.level.note_each.Given as goal

abbrev pub invariant-loop-place : goal.invariant-loop-place
invariant-loop-place l =
    IsNotedUpTo l.initial.nodes l.nodes l.place × (length l.nodes ≤ length l.due) × ((lows : List (Name × ℕ)) → AreDueKept lows l.initial.nodes l.names l.initial.due → AreDueKept lows l.nodes l.names l.due)
