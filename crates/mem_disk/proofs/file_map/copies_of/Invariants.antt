use Rattle.std.proofs.Common.{◌≡◌, ◌++◌, drop}
use Rattle.mem_disk.specs.Replay.{read_at, listed, files_at}
use Rattle.mem_disk.proofs.file_map.copies_of.Given as goal

abbrev pub invariant-loop-f : goal.invariant-loop-f
invariant-loop-f l = listed l.copies.items ++ files_at (read_at l.files) (drop l.f-index l.numbers) ≡ files_at (read_at l.files) l.numbers
