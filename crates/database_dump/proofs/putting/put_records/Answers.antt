use Rattle.std.proofs.Common.{◌++◌, ◌∙◌, ℕ, List, ap, sym, []}
use Rattle.std.proofs.lemmas.List.{append-nil}
use Rattle.je_order.specs.Edges.Edge.{Behind}
use Rattle.record_map.specs.Cells.{edge_of, from_edge}
use Rattle.record_tree.specs.Occupied.{occupied_by}
use Rattle.in_tree.specs.Whole.{seen_in}
use Rattle.text_out.specs.OutBuffer.{point}
use Rattle.text_out.proofs.BufferedText.{adds_none, adds_same, adds_then}
use Rattle.txn_core.specs.Known.{committed_rows}
use Rattle.txn_core.proofs.ReadingLaws.{fewer_behind, from_first, step_from}
use Rattle.database_dump.specs.Text.{rows_text}
use Rattle.database_dump.proofs.WalkLaws.{one_more, none_more}
use Rattle.database_dump.proofs.putting.put_records.Goals as goal

pub records-init : goal.records-init
records-init g c = (
  [],
  adds_none (point (g.K.Sink.written c.args.out.now) (g.K.Sink.faults c.args.out.now) c.args.buffer.now),
  ap (λ l. rows_text c.args.printed c.args.kind (committed_rows l)) (sym (from_first (seen_in c.args.records.now c.args.db))),
)

pub records-smaller : goal.records-smaller
records-smaller g c =
    fewer_behind (edge_of c.records.from) (c.in-Some.name.now, occupied_by c.in-Some.cell.now) (seen_in c.args.records.now c.args.db) c.in-Some.ensures.rising c.in-Some.ensures.found

pub records-preserved : goal.records-preserved
records-preserved g c =
    let cells = seen_in c.args.records.now c.args.db in
    let h = c.records.invariant in (
      h.0 ++ _,
      adds_then h.1 c.put_cell.ensures,
      one_more c.args.printed c.args.kind _ h.0 (c.in-Some.name.now, occupied_by c.in-Some.cell.now) (from_edge (edge_of c.records.from) cells) (from_edge (Behind c.in-Some.name.now) cells)
          (step_from (edge_of c.records.from) (c.in-Some.name.now, occupied_by c.in-Some.cell.now) cells c.in-Some.ensures.rising c.in-Some.ensures.found) h.2,
    )

pub returns : goal.returns
returns g c =
    let cells = seen_in c.args.records.now c.args.db in
    let h = c.records.invariant in
    adds_same _ _ (sym (h.2 ∙ ap (λ (l : List ℕ). h.0 ++ l) (none_more c.args.printed c.args.kind (from_edge (edge_of c.records.from) cells) c.in_default.ensures.found) ∙ append-nil h.0)) h.1
