use Rattle.tree_nodes.proofs.LeastNumbers.{count_push, one_more}
use Rattle.tree_nodes.proofs.due_numbers.DueNumbers.cover.Goals as goal

pub invariant_of-self-2 : goal.invariant_of-self-2
invariant_of-self-2 c = record {
  found =
      one_more c.self.inside.numbers.items c.reserve.new.self.items c.push_none.new.numbers.items c.self.inside.least.items c.reserve-2.new.self.items c.push_none.new.least.items c.in_ok-reserve.ensures.items c.push_none.ensures.numbers
      c.in_ok-reserve-2.ensures.items c.push_none.ensures.least c.self.invariant.found;
  counted = count_push c.self.inside.numbers.items c.reserve.new.self.items c.push_none.new.numbers.items c.self.inside.count c.in_ok-reserve.ensures.items c.push_none.ensures.numbers c.self.invariant.counted;
}
