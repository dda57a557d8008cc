use Rattle.std.proofs.Common.{◌≡◌, ◌==◌, not, length, find}
use Rattle.db_tree.specs.Stored.{stored_in}
use Rattle.in_tree.proofs.stored.find_dup.Given as goal

abbrev pub invariant-loop-name : goal.invariant-loop-name
invariant-loop-name l = find (λ r. not (length r.0.dup == 0)) (stored_in l.name-iterator) ≡ find (λ r. not (length r.0.dup == 0)) (stored_in l.initial.name-iterator)
