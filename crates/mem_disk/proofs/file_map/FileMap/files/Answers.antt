use Rattle.std.proofs.Common.{◌∙◌}
use Rattle.mem_disk.specs.Replay.{replay}
use Rattle.mem_disk.proofs.ChangeReplay.{copies_rise, copies_read}
use Rattle.mem_disk.proofs.file_map.FileMap.files.Goals as goal

pub returns-clause-rising : goal.returns-clause-rising
returns-clause-rising c =
    copies_rise c.copies_of.result c.args.self.now.files c.as_slice.result.now c.copies_of.ensures (c.as_slice.ensures.value ∙ c.in_ok-numbers.ensures.items) c.in_ok-numbers.ensures.ordered

pub returns-clause-read : goal.returns-clause-read
returns-clause-read c =
    copies_read c.copies_of.result c.args.self.now.files c.as_slice.result.now (replay c.args.self.now.changes.items).reads c.copies_of.ensures (c.as_slice.ensures.value ∙ c.in_ok-numbers.ensures.items) c.in_ok-numbers.ensures.has c.args.self.now.agrees
