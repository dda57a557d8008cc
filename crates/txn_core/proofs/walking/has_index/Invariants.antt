use Rattle.std.proofs.Common.{◌≡◌, length}
use Rattle.record_map.specs.Cells.{from_edge, edge_of}
use Rattle.log_replay.specs.Rows.{is_indexed}
use Rattle.txn_core.specs.Known.{committed}
use Rattle.txn_core.proofs.walking.has_index.Given as goal

-- there is one from the edge on exactly where there is one
abbrev pub invariant-catalog : goal.invariant-catalog
invariant-catalog g l =
    is_indexed (from_edge (edge_of l.from) (committed (g.T.Records.cells l.trees) 0)) l.number ≡ is_indexed (committed (g.T.Records.cells l.trees) 0) l.fn.number

abbrev pub decreases-catalog : goal.decreases-catalog
decreases-catalog g l = length (from_edge (edge_of l.from) (committed (g.T.Records.cells l.trees) 0))
