use Rattle.std.proofs.Common.{◌≡◌, ◌+◌, drop}
use Rattle.log_buffer.specs.Buffer.{room_for}
use Rattle.log_buffer.proofs.reserving.room.Given as goal

abbrev pub invariant-loop-size : goal.invariant-loop-size
invariant-loop-size l = l.bytes + room_for (drop l.size-index l.sizes) ≡ room_for l.sizes
