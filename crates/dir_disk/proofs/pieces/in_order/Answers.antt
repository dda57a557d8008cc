use Rattle.std.proofs.Common.{◌∙◌}
use Rattle.dir_disk.proofs.FileNumbers.{numbers_rise}
use Rattle.dir_disk.proofs.pieces.in_order.Goals as goal

pub returns-clause-rising : goal.returns-clause-rising
returns-clause-rising c = numbers_rise c.numbered.result c.args.numbers.now c.as_slice.result.now c.numbered.ensures (c.as_slice.ensures.value ∙ c.in_ok-sorted.ensures.items) c.in_ok-sorted.ensures.ordered
