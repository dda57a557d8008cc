use Rattle.std.proofs.Common.{◌≡◌, length}
use Rattle.record_map.specs.Cells.{below_edge, edge_of}
use Rattle.txn_views.specs.Seen.{seen_rows}
use Rattle.txn_views.proofs.reading.last_below.Given as goal

-- the records below the edge are those below the first edge
abbrev pub invariant-upto : goal.invariant-upto
invariant-upto g l =
    let rows = seen_rows l.viewer.level l.viewer.txn (g.T.Records.cells l.trees l.db) in
    below_edge (edge_of l.upto) rows ≡ below_edge (edge_of l.initial.upto) rows

abbrev pub decreases-upto : goal.decreases-upto
decreases-upto g l = length (below_edge (edge_of l.upto) (g.T.Records.cells l.trees l.db))
