use Rattle.std.proofs.Common.{ℕ, [], take}
use Rattle.log_buffer.specs.declared.log_pos.LogPos.{LogPos}
use Rattle.log_buffer.specs.NextPlaces.{IsBehind}
use Rattle.in_tree.proofs.making_new.place_behind.Given as goal

abbrev pub invariant-loop-size : goal.invariant-loop-size
invariant-loop-size l = (file_max : ℕ) (end : LogPos) → IsBehind file_max end [] l.initial.place → IsBehind file_max end (take l.size-index l.sizes) l.place
