use Rattle.std.proofs.Common.{◌-◌, ℕ, take, length}
use Rattle.in_tree.specs.Forest.{Forest}
use Rattle.in_tree.specs.Placing.{ArePlaced}
use Rattle.in_tree.proofs.preparing.take_back_all.Given as goal

abbrev pub invariant-loop-i : goal.invariant-loop-i
invariant-loop-i l =
    (fanout : ℕ) (before : Forest) → ArePlaced fanout (take (length l.rooms) l.changes) l.rooms before l.initial.trees → ArePlaced fanout (take (length l.rooms - l.i) l.changes) (take (length l.rooms - l.i) l.rooms) before l.trees
