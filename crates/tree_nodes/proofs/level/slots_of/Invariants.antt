use Rattle.std.proofs.Common.{◌≡◌, ◌<◌, ◌++◌, ℕ, map, length}
use Rattle.std.specs.List.{AllByRecursion}
use Rattle.je_order.specs.declared.name.Name.{Name}
use Rattle.tree_nodes.specs.Levels.{slot_of}
use Rattle.tree_nodes.specs.Nodes.{placed}
use Rattle.tree_nodes.proofs.level.slots_of.Given as goal

abbrev pub invariant-loop-name : goal.invariant-loop-name
invariant-loop-name l =
    AllByRecursion (λ (e : Name × ℕ). e.1 < length l.nodes) l.name-iterator
    × (l.slots.items ++ map slot_of (placed l.name-iterator l.nodes) ≡ map slot_of (placed l.initial.name-iterator l.nodes))
