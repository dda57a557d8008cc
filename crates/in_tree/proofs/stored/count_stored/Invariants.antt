use Rattle.std.proofs.Common.{◌≡◌, ◌≤◌, ◌+◌, length}
use Rattle.db_tree.specs.Stored.{stored_in}
use Rattle.in_tree.proofs.stored.count_stored.Given as goal

abbrev pub invariant-loop-name : goal.invariant-loop-name
invariant-loop-name l = record {
  counted : l.count + length (stored_in l._name-iterator) ≡ length (stored_in l.initial._name-iterator);
  few : length l._name-iterator + l.count ≤ l.limit;
}
