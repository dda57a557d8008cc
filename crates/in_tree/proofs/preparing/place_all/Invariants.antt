use Rattle.std.proofs.Common.{take, drop}
use Rattle.in_tree.proofs.Placings.{PlacesLeft}
use Rattle.in_tree.proofs.preparing.place_all.Given as goal

abbrev pub invariant-loop-change : goal.invariant-loop-change
invariant-loop-change l = PlacesLeft l.fanout l.fn.last l.initial.trees l.trees (take l.change-index l.changes) (drop l.change-index l.changes) l.placed
