use Rattle.std.proofs.Common.{◌∙◌}
use Rattle.mem_disk.specs.Replay.{replay}
use Rattle.mem_disk.proofs.ChangeReplay.{numbers_rise, numbers_listed}
use Rattle.mem_disk.proofs.file_map.FileMap.numbers.Goals as goal

pub returns-clause-rising : goal.returns-clause-rising
returns-clause-rising c =
    numbers_rise c.numbered.result c.args.self.now.files c.as_slice.result.now c.numbered.ensures (c.as_slice.ensures.value ∙ c.in_ok-numbers.ensures.items) c.in_ok-numbers.ensures.ordered

pub returns-clause-listed : goal.returns-clause-listed
returns-clause-listed c =
    numbers_listed c.numbered.result c.args.self.now.files c.as_slice.result.now (replay c.args.self.now.changes.items).reads c.numbered.ensures (c.as_slice.ensures.value ∙ c.in_ok-numbers.ensures.items) c.args.self.now.agrees
