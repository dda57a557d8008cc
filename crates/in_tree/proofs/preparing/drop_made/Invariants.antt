use Rattle.std.proofs.Common.{drop}
use Rattle.in_tree.proofs.Preparation.{DropsLeft}
use Rattle.in_tree.proofs.preparing.drop_made.Given as goal

abbrev pub invariant-loop-change : goal.invariant-loop-change
invariant-loop-change l = DropsLeft l.initial.trees l.trees l.changes (drop l.change-index l.changes)
