use Rattle.std.proofs.Common.{◌≡◌, length}
use Rattle.record_map.specs.Cells.{from_edge, edge_of}
use Rattle.txn_views.specs.Seen.{seen_rows}
use Rattle.txn_views.proofs.reading.next.Given as goal

-- the records from the edge on are those from the first edge on
abbrev pub invariant-from : goal.invariant-from
invariant-from g l =
    let rows = seen_rows l.viewer.level l.viewer.txn (g.T.Records.cells l.trees l.db) in
    from_edge (edge_of l.from) rows ≡ from_edge (edge_of l.initial.from) rows

abbrev pub decreases-from : goal.decreases-from
decreases-from g l = length (from_edge (edge_of l.from) (g.T.Records.cells l.trees l.db))
