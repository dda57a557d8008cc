use Rattle.std.proofs.Common.{◌≡◌, drop}
use Rattle.mem_disk.specs.Replay.{replay, listed, held, held_from}
use Rattle.mem_disk.proofs.file_map.FileMap.with_files.Given as goal

abbrev pub invariant-loop-f : goal.invariant-loop-f
invariant-loop-f l = held_from (replay l.file_map.changes.items) (listed (drop l.f-index l.files)) ≡ held (listed l.files)
