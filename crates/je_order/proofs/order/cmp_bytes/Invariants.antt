use Rattle.std.proofs.Common.{◌≡◌, ◌≤◌, length, take, min, ◌-◌, Equal}
use Rattle.je_order.specs.Order.{bytes_cmp}
use Rattle.je_order.proofs.order.cmp_bytes.Given as goal

abbrev pub invariant-loop-at : goal.invariant-loop-at
invariant-loop-at l =
    (l.both ≡ min (length l.a) (length l.b)) × (8 ≤ l.both) × (l.at ≤ l.both) × (bytes_cmp (take l.at l.a) (take l.at l.b) ≡ Equal)

abbrev pub decreases-loop-at : goal.decreases-loop-at
decreases-loop-at l = l.both - l.at
