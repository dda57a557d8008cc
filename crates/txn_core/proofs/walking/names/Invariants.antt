use Rattle.std.proofs.Common.{◌≡◌, ◌++◌, map, length}
use Rattle.record_map.specs.Cells.{from_edge, edge_of}
use Rattle.log_replay.specs.Rows.{Row}
use Rattle.txn_core.specs.Known.{committed}
use Rattle.txn_core.proofs.walking.names.Given as goal

-- the names so far and those from the edge on are all names
abbrev pub invariant-catalog : goal.invariant-catalog
invariant-catalog g l =
    l.names.items ++ map (λ (r : Row). r.0.key) (from_edge (edge_of l.from) (committed (g.T.Records.cells l.trees) 0)) ≡ map (λ (r : Row). r.0.key) (committed (g.T.Records.cells l.trees) 0)

abbrev pub decreases-catalog : goal.decreases-catalog
decreases-catalog g l = length (from_edge (edge_of l.from) (committed (g.T.Records.cells l.trees) 0))
