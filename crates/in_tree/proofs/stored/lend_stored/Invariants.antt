use Rattle.std.proofs.Common.{◌≡◌, ◌++◌}
use Rattle.record_tree.specs.Stored.{lent, values_of}
use Rattle.db_tree.specs.Stored.{stored_in}
use Rattle.in_tree.proofs.stored.lend_stored.Given as goal

abbrev pub invariant-loop-name : goal.invariant-loop-name
invariant-loop-name l = lent l.records.items ++ values_of (stored_in l.name-iterator) ≡ values_of (stored_in l.initial.name-iterator)
