use Rattle.std.proofs.Common.{◌∙◌, List, ap, sym}
use Rattle.record_map.specs.Cells.{edge_of, from_edge}
use Rattle.je_order.specs.Edges.Edge.{Behind}
use Rattle.log_replay.specs.Rows.{Row, catalog_index, is_indexed, is_made_of}
use Rattle.txn_core.specs.Known.{committed}
use Rattle.txn_core.proofs.ReadingLaws.{from_first, fewer_behind, step_from}
use Rattle.txn_core.proofs.IndexViews.{later_indexed}
use Rattle.txn_core.proofs.walking.has_index.Goals as goal

pub catalog-init : goal.catalog-init
catalog-init g c = ap (λ (l : List Row). is_indexed l c.args.number) (from_first (committed (g.T.Records.cells c.args.trees.now) 0))

pub catalog-smaller : goal.catalog-smaller
catalog-smaller g c =
    fewer_behind (edge_of c.catalog.from) (c.in-Some.name.now, c.in-Some.held.now) (committed (g.T.Records.cells c.args.trees.now) 0) c.in-Some.ensures.rising c.in-Some.ensures.found

pub catalog-preserved : goal.catalog-preserved
catalog-preserved g c =
    let rows = committed (g.T.Records.cells c.args.trees.now) 0 in
    later_indexed (c.in-Some.name.now, c.in-Some.held.now) (from_edge (edge_of c.catalog.from) rows) (from_edge (Behind c.in-Some.name.now) rows) c.args.number
    (step_from (edge_of c.catalog.from) (c.in-Some.name.now, c.in-Some.held.now) rows c.in-Some.ensures.rising c.in-Some.ensures.found)
    (ap (λ l. is_made_of c.args.number (catalog_index l)) (sym c.as_slice.ensures) ∙ sym c.is_made_of.ensures ∙ c.if-is_made_of.false)
    ∙ c.catalog.invariant
