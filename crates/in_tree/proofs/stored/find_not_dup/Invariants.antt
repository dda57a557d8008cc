use Rattle.std.proofs.Common.{◌≡◌, ◌==◌, ◌&&◌, not, nat_le, length, find}
use Rattle.db_tree.specs.Stored.{stored_in}
use Rattle.in_tree.proofs.stored.find_not_dup.Given as goal

abbrev pub invariant-loop-name : goal.invariant-loop-name
invariant-loop-name l = find (λ r. not ((length r.1.value == 0) && nat_le (length r.0.dup) l.limit)) (stored_in l.name-iterator) ≡ find (λ r. not ((length r.1.value == 0) && nat_le (length r.0.dup) l.limit)) (stored_in l.initial.name-iterator)
