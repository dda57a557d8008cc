use Rattle.std.proofs.Common.{◌<◌, arith}
use Rattle.std.proofs.lemmas.List.{length-set}
use Rattle.tree_nodes.proofs.LeastNumbers.{settled_on, settled_top}
use Rattle.tree_nodes.proofs.due_numbers.+settle.Goals as goal

pub settle-requires : goal.settle-requires
settle-requires t c = (
  (let some : 0 < c.args.place = c.if-place-gt0.true in let measure = c.decreases in omega (arith, some, measure)),
  (
    (let some : 0 < c.args.place = c.if-place-gt0.true in let size = length-set c.args.least.now c.args.place c.least_at-found.result in let within = c.requires.within in omega (arith, some, size, within)),
    settled_on c.args.numbers.now c.args.least.now c.args.place c.least_at-found.result c.requires.within c.if-place-gt0.true c.least_at-found.ensures c.requires.others,
  ),
)

pub returns-else-place-gt0 : goal.returns-else-place-gt0
returns-else-place-gt0 t c = settled_top c.args.numbers.now c.args.least.now c.args.place c.least_at-found.result c.requires.within c.if-place-gt0.false c.least_at-found.ensures c.requires.others
