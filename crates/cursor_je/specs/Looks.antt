-- What the values of this crate's types are in the model.
use Rattle.std.specs.Prelude.{◌∷◌, [], List, Option, None, Some}
use Rattle.je_order.specs.declared.name.Name.{Name}
use Rattle.je_order.specs.Edges.{Edge}
use Rattle.je_order.specs.Edges.Edge.{First, At, Behind, End}
use Rattle.store_model.specs.declared.kind.Kind.{Kind}
use Rattle.store_model.specs.Store.{Pair, named}
use Rattle.store_model.specs.Reads.{Look, look, range, just, behind_key, seen}
use Rattle.store_model.specs.Reads.Way.{Lowest, Highest}
use Rattle.store_model.specs.Records.{Evaluated, no_look}
use Rattle.cursor_je.specs.declared.name_ref.NameRef.{NameRef}
use Rattle.cursor_je.specs.declared.name_edge.NameEdge.{NameEdge}
use Rattle.cursor_je.specs.declared.name_edge.NameEdge.TheVariants.{First as FirstEdge, At as AtEdge, Behind as BehindEdge, BehindKey as BehindKeyEdge, End as EndEdge}
use Rattle.cursor_je.specs.declared.record_ref.RecordRef.{RecordRef}
use Rattle.cursor_je.specs.declared.looking.Looking.{Looking}
use Rattle.cursor_je.specs.declared.looking.Looking.TheVariants.{Nowhere, One, Lowest as LowestOf, Highest as HighestOf}
use Rattle.cursor_je.specs.declared.planned.Planned.{Planned}

-- a name, an edge and a record
abbrev pub name_in : NameRef → Name
name_in n = named n.key.now n.dup.now

abbrev pub edge_in : NameEdge → Edge
edge_in FirstEdge = First
edge_in (AtEdge name) = At (name_in name)
edge_in (BehindEdge name) = Behind (name_in name)
edge_in (BehindKeyEdge key) = behind_key key.now
edge_in EndEdge = End

abbrev pub pair_in : RecordRef → Pair
pair_in r = (r.key.now, r.value.now)

-- the record that was found, if any, as a list of one or none
abbrev pub taken_in : Option RecordRef → List Pair
taken_in None = []
taken_in (Some r) = pair_in r ∷ []

-- where a call looks
abbrev pub look_in : Looking → Look
look_in Nowhere = no_look
look_in (One name) = look Lowest (just (name_in name))
look_in (LowestOf from upto) = look Lowest (range (edge_in from) (edge_in upto))
look_in (HighestOf from upto) = look Highest (range (edge_in from) (edge_in upto))

-- the records that a look takes
abbrev pub seen_by : Kind → Look → List Pair → List Pair
seen_by kind l pairs = seen kind l.way l.range pairs

-- what a call comes to
abbrev pub planned_in : Planned → Evaluated
planned_in p = record { answer = p.answer; answered = p.answered; changes = p.changes; place = p.place }
