use Rattle.std.proofs.Common.{◌≡◌, ◌++◌, take, drop}
use Rattle.active_txns.specs.Marks.{marked_for}
use Rattle.active_txns.proofs.marking.mark_in.Given as goal

abbrev pub invariant-loop-at : goal.invariant-loop-at
invariant-loop-at l = take l.at l.actives ++ marked_for l.session l.cycle (drop l.at l.actives) ≡ marked_for l.session l.cycle l.initial.actives
