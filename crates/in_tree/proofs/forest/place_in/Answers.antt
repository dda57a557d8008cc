use Rattle.std.proofs.Common.{arith, inl}
use Rattle.in_tree.proofs.forest.place_in.Goals as goal

pub returns-clause-slot : goal.returns-clause-slot
returns-clause-slot c = record {
  placed = c.in-Ok.ensures.placed;
  images = c.in-Ok.ensures.images;
  numbers = c.in-Ok.ensures.numbers;
  splits = c.in-Ok.ensures.splits;
  idle = c.in-Ok.ensures.idle;
  was_parts = c.height-before.ensures.parts;
  parts = c.height-levels.ensures.parts;
  rising = c.len-cells.ensures.rising;
  keeps = λ es base newest tree. c.in-Ok.ensures.tree es base newest (λ x. inl (omega (arith, c.beginning.ensures))) tree;
}
