use Rattle.record_map.proofs.NameLaws.{up_from_back}
use Rattle.record_map.proofs.runs.place_over.Goals as goal

pub returns-in-Some : goal.returns-in-Some
returns-in-Some c =
    let facts = c.range-below.ensures.in_range tt in
    record {
      low = c.in-Some._low.now;
      there = (facts.3 _ _ c.in-Some.ensures.steps).1;
      below = (facts.3 _ _ c.in-Some.ensures.steps).0.1;
      most = λ q there up. up_from_back c.in-Some._low.now q (facts.4 _ _ c.in-Some.ensures.steps q (tt, up) there);
    }
