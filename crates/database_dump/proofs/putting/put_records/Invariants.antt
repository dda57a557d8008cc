use Rattle.std.proofs.Common.{◌≡◌, ◌++◌, ℕ, List, length}
use Rattle.record_map.specs.Cells.{from_edge, edge_of}
use Rattle.text_out.specs.OutBuffer.{Adds, point}
use Rattle.in_tree.specs.Whole.{seen_in}
use Rattle.txn_core.specs.Known.{committed, committed_rows}
use Rattle.database_dump.specs.Text.{rows_text}
use Rattle.database_dump.proofs.putting.put_records.Given as goal

-- what was sent and the lines of the names from the edge on are all lines
abbrev pub invariant-records : goal.invariant-records
invariant-records g l =
    (sent : List ℕ)
    × Adds (point (g.K.Sink.written l.initial.out) (g.K.Sink.faults l.initial.out) l.initial.buffer) (point (g.K.Sink.written l.out) (g.K.Sink.faults l.out) l.buffer) sent
    × (rows_text l.printed l.kind (committed (seen_in l.records) l.db) ≡ sent ++ rows_text l.printed l.kind (committed_rows (from_edge (edge_of l.from) (seen_in l.records l.db))))

abbrev pub decreases-records : goal.decreases-records
decreases-records g l = length (from_edge (edge_of l.from) (seen_in l.records l.db))
