-- What the values of this crate's types are in the model.
use Rattle.std.specs.Prelude.{List, [], ◌∷◌, Bool, true, false}
use Rattle.je_order.specs.Edges.{Edge}
use Rattle.je_order.specs.Edges.Edge.{First, At, Behind, End}
use Rattle.store_model.specs.Store.{Pair}
use Rattle.store_model.specs.Reads.{Way, Range, Look, range, look}
use Rattle.store_model.specs.Reads.Way.{Lowest, Highest, Each}
use Rattle.store_model.specs.Records.{Evaluated}
use Rattle.record_eval.specs.declared.edge.NameEdge.{NameEdge}
use Rattle.record_eval.specs.declared.edge.NameEdge.TheVariants.{First as FirstEdge, At as AtEdge, Behind as BehindEdge, End as EndEdge}
use Rattle.record_eval.specs.declared.looking.TakeWay.{TakeWay}
use Rattle.record_eval.specs.declared.looking.TakeWay.TheVariants.{Lowest as TakesLowest, Highest as TakesHighest, Each as TakesEach}
use Rattle.record_eval.specs.declared.looking.Looking.{Looking}
use Rattle.record_eval.specs.declared.evaluation.Evaluation.{Evaluation}

abbrev pub edge_in : NameEdge → Edge
edge_in FirstEdge = First
edge_in (AtEdge name) = At name
edge_in (BehindEdge name) = Behind name
edge_in EndEdge = End

abbrev pub way_in : TakeWay → Way
way_in TakesLowest = Lowest
way_in TakesHighest = Highest
way_in TakesEach = Each

abbrev pub range_in : Looking → Range
range_in l = range (edge_in l.from) (edge_in l.upto)

abbrev pub look_in : Looking → Look
look_in l = look (way_in l.way) (range_in l)

abbrev pub evaluated_in : Evaluation → Evaluated
evaluated_in e = record { answer = e.answer; answered = e.answered; changes = e.changes; place = e.place }

-- whether a record was found
abbrev pub is_there : List Pair → Bool
is_there [] = false
is_there (p ∷ ps) = true
