use Rattle.std.proofs.Common.{◌≤◌, length}
use Rattle.dir_disk.proofs.pieces.fill.Given as goal

abbrev pub invariant-loop : goal.invariant-loop
invariant-loop g l = l.count ≤ length l.into
