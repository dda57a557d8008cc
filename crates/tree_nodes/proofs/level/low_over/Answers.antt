use Rattle.record_map.proofs.NameLaws.{up_from_back}
use Rattle.tree_nodes.proofs.level.low_over.Goals as goal

pub returns-clause-over : goal.returns-clause-over
returns-clause-over c =
    let facts = c.range-below.ensures.in_range tt in
    record {
      there = (facts.3 _ _ c.in-Some.ensures.steps).1;
      below = (facts.3 _ _ c.in-Some.ensures.steps).0.1;
      most = λ q there up. up_from_back c.in-Some.low.now q (facts.4 _ _ c.in-Some.ensures.steps q (tt, up) there);
    }
