use Rattle.std.proofs.Common.{◌≡◌, List, drop}
use Rattle.log_trees.specs.Placed.{Placed}
use Rattle.recovery_je.specs.LogRead.{AreStanding}
use Rattle.recovery_je.specs.Numbers.{numbers_over}
use Rattle.recovery_je.proofs.numbers.Numbers.with_each.Given as goal

abbrev pub invariant-loop-at : goal.invariant-loop-at
invariant-loop-at l = (es : List Placed) → AreStanding l.number.0 l.bytes l.offsets es →
    (left : List Placed) × AreStanding l.number.0 l.bytes (drop l.at-index l.offsets) left × (numbers_over l.redo left l.numbers ≡ numbers_over l.redo es l.initial.numbers)
