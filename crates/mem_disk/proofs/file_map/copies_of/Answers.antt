use Rattle.std.proofs.Common.{arith, ◌<◌, length, ◌∙◌}
use Rattle.mem_disk.specs.Replay.{read_at, files_at}
use Rattle.mem_disk.proofs.ChangeReplay.{copies-step}
use Rattle.mem_disk.proofs.file_map.copies_of.Goals as goal

pub loop-f-preserved : goal.loop-f-preserved
loop-f-preserved c = let within : c.loop-f.f-index < length c.args.numbers.now = omega arith in
    copies-step (read_at c.args.files.now) c.loop-f.copies.items c.push.new.self.items c.args.numbers.now c.loop-f.f-index c.in_ok-bytes.bytes (files_at (read_at c.args.files.now) c.args.numbers.now)
    within (c.in_ok-bytes.ensures.items ∙ c.bytes_at.ensures) c.in_ok-push.ensures.items c.loop-f.invariant
