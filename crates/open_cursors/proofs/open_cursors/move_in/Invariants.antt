use Rattle.std.proofs.Common.{◌≡◌, ◌++◌, take, drop}
use Rattle.open_cursors.specs.Places.{moved_in}
use Rattle.open_cursors.proofs.open_cursors.move_in.Given as goal

abbrev pub invariant-loop-index : goal.invariant-loop-index
invariant-loop-index l = take l.index l.cursors ++ moved_in l.session l.cursor l.at (drop l.index l.cursors) ≡ moved_in l.session l.cursor l.at l.initial.cursors
