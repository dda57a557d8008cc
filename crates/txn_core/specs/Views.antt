-- What the views of committed records see.
use Rattle.std.specs.Prelude.{◌∷◌, [], List, Option, None, Some}
use Rattle.je_order.specs.Edges.{Edge}
use Rattle.je_order.specs.Edges.Edge.{First, At, Behind, End}
use Rattle.store_model.specs.declared.kind.Kind.{Kind}
use Rattle.store_model.specs.Store.{Pair}
use Rattle.log_replay.specs.Rows.{Row, pair_of}
use Rattle.txn_core.specs.declared.held_edge.HeldEdge.{HeldEdge}
use Rattle.txn_core.specs.declared.held_edge.HeldEdge.TheVariants.{First as FirstHeld, At as AtHeld, Behind as BehindHeld, End as EndHeld}

-- the record that was found, if any, as a list of one or none
abbrev pub pairs_found : Kind → Option Row → List Pair
pairs_found kind None = []
pairs_found kind (Some row) = pair_of kind row ∷ []

-- an edge whose name is held
abbrev pub edge_held : HeldEdge → Edge
edge_held FirstHeld = First
edge_held (AtHeld name) = At name
edge_held (BehindHeld name) = Behind name
edge_held EndHeld = End
