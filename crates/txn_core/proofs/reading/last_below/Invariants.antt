use Rattle.std.proofs.Common.{◌≡◌, length}
use Rattle.record_map.specs.Cells.{below_edge, edge_of}
use Rattle.txn_core.specs.Known.{committed}
use Rattle.txn_core.proofs.reading.last_below.Given as goal

-- the records below the edge are those below the first edge
abbrev pub invariant-upto : goal.invariant-upto
invariant-upto g l = below_edge (edge_of l.upto) (committed (g.T.Records.cells l.trees) l.db) ≡ below_edge (edge_of l.initial.upto) (committed (g.T.Records.cells l.trees) l.db)

abbrev pub decreases-upto : goal.decreases-upto
decreases-upto g l = length (below_edge (edge_of l.upto) (g.T.Records.cells l.trees l.db))
