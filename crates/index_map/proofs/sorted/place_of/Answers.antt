use Rattle.std.proofs.Common.{◌∙◌, sym}
use Rattle.index_map.proofs.SortedLaws.{place_some, place_none}
use Rattle.index_map.proofs.sorted.place_of.Goals as goal

pub returns-in-Some-clause-place : goal.returns-in-Some-clause-place
returns-in-Some-clause-place c = place_some c.args.number c.args.indexes.now c.in-Some.place (sym c.higher_in.ensures.at ∙ c.in-Some.is)

pub returns-in-None-clause-place : goal.returns-in-None-clause-place
returns-in-None-clause-place c = place_none c.args.number c.args.indexes.now (sym c.higher_in.ensures.at ∙ c.in-None.is)
