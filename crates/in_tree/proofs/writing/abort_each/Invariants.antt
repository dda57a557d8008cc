use Rattle.std.proofs.Common.{drop}
use Rattle.record_tree.specs.Occupied.{after_abort}
use Rattle.in_tree.specs.Forest.{GivesUpName}
use Rattle.in_tree.proofs.Names.{NamesLeft}
use Rattle.in_tree.proofs.writing.abort_each.Given as goal

abbrev pub invariant-loop-name : goal.invariant-loop-name
invariant-loop-name l = NamesLeft GivesUpName l.initial.trees l.trees l.names (drop l.name-index l.names) after_abort
