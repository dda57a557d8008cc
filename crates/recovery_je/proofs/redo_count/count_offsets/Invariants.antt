use Rattle.std.proofs.Common.{◌≡◌, ◌≤◌, ◌+◌, ℕ, List, nat_le, drop}
use Rattle.std.specs.List.{count_by}
use Rattle.log_trees.specs.Placed.{Placed}
use Rattle.recovery_je.specs.LogRead.{AreStanding}
use Rattle.recovery_je.proofs.redo_count.count_offsets.Given as goal

abbrev pub invariant-loop-at : goal.invariant-loop-at
invariant-loop-at l =
    ((bytes : List ℕ) (es : List Placed) → AreStanding l.number.0 bytes l.offsets es →
    (left : List Placed) × AreStanding l.number.0 bytes (drop l.at-index l.offsets) left × (l.count + count_by (λ (p : Placed). nat_le l.redo p.0) left ≡ count_by (λ (p : Placed). nat_le l.redo p.0) es))
    × (l.count ≤ l.at-index)
