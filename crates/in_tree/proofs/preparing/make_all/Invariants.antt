use Rattle.std.proofs.Common.{drop}
use Rattle.in_tree.proofs.Preparation.{MakesLeft, RootsLeft}
use Rattle.in_tree.proofs.preparing.make_all.Given as goal

abbrev pub invariant-loop-i : goal.invariant-loop-i
invariant-loop-i l = MakesLeft l.initial.trees l.trees l.changes (drop l.i l.changes) × RootsLeft l.fn.last l.initial.trees l.trees l.changes (drop l.i l.changes) l.rooms (drop l.i l.rooms) l.last
