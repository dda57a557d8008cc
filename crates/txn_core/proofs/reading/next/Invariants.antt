use Rattle.std.proofs.Common.{◌≡◌, length}
use Rattle.record_map.specs.Cells.{from_edge, edge_of}
use Rattle.txn_core.specs.Known.{committed}
use Rattle.txn_core.proofs.reading.next.Given as goal

-- the records from the edge on are those from the first edge on
abbrev pub invariant-from : goal.invariant-from
invariant-from g l = from_edge (edge_of l.from) (committed (g.T.Records.cells l.trees) l.db) ≡ from_edge (edge_of l.initial.from) (committed (g.T.Records.cells l.trees) l.db)

abbrev pub decreases-from : goal.decreases-from
decreases-from g l = length (from_edge (edge_of l.from) (g.T.Records.cells l.trees l.db))
