use Rattle.std.proofs.Common.{drop}
use Rattle.record_tree.specs.Occupied.{after_commit}
use Rattle.in_tree.specs.Forest.{CommitsName}
use Rattle.in_tree.proofs.Names.{NamesLeft}
use Rattle.in_tree.proofs.writing.commit_each.Given as goal

abbrev pub invariant-loop-name : goal.invariant-loop-name
invariant-loop-name l = NamesLeft (CommitsName l.fn.at) l.initial.trees l.trees l.names (drop l.name-index l.names) after_commit
