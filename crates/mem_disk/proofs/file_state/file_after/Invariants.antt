use Rattle.std.proofs.Common.{◌≡◌, drop}
use Rattle.mem_disk.specs.CrashStates.{view_of, file_in, traced}
use Rattle.mem_disk.specs.Replay.{replay}
use Rattle.mem_disk.proofs.file_state.file_after.Given as goal

abbrev pub invariant-loop-change : goal.invariant-loop-change
invariant-loop-change l = traced l.f.0 (view_of l.file) (drop l.change-index l.changes) ≡ file_in l.f.0 (replay l.changes)
