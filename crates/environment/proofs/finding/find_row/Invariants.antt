use Rattle.std.proofs.Common.{◌≡◌, length}
use Rattle.record_map.specs.Cells.{from_edge, edge_of}
use Rattle.txn_core.specs.Known.{committed}
use Rattle.environment.proofs.FoundDatabases.{row_of_name}
use Rattle.environment.proofs.finding.find_row.Given as goal

-- the record of that name is the one from the edge on
abbrev pub invariant-catalog : goal.invariant-catalog
invariant-catalog g l = row_of_name l.name (from_edge (edge_of l.from) (committed (g.T.Records.cells l.trees) 0)) ≡ row_of_name l.name (committed (g.T.Records.cells l.trees) 0)

abbrev pub decreases-catalog : goal.decreases-catalog
decreases-catalog g l = length (from_edge (edge_of l.from) (committed (g.T.Records.cells l.trees) 0))
