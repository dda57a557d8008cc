use Rattle.std.proofs.Common.{◌≡◌, ◌∙◌, ℕ, List, ap, sym, option_map, true, false}
use Rattle.je_order.specs.Order.{is_same_bytes}
use Rattle.je_order.specs.Edges.Edge.{Behind}
use Rattle.record_map.specs.Cells.{edge_of, from_edge}
use Rattle.log_replay.specs.Rows.{Row}
use Rattle.txn_core.specs.Known.{committed}
use Rattle.txn_core.proofs.ReadingLaws.{from_first, fewer_behind, step_from}
use Rattle.environment.proofs.FoundDatabases.{later_row, no_row, row_of_name, this_row}
use Rattle.environment.proofs.finding.find_row.Goals as goal

pub catalog-init : goal.catalog-init
catalog-init g c = ap (row_of_name c.args.name.now) (from_first (committed (g.T.Records.cells c.args.trees.now) 0))

pub catalog-smaller : goal.catalog-smaller
catalog-smaller g c =
    fewer_behind (edge_of c.catalog.from) (c.in-Some.at.now, c.in-Some.held.now) (committed (g.T.Records.cells c.args.trees.now) 0) c.in-Some.ensures.rising c.in-Some.ensures.found

pub catalog-preserved : goal.catalog-preserved
catalog-preserved g c =
    let rows = committed (g.T.Records.cells c.args.trees.now) 0 in
    let other : is_same_bytes c.in-Some.at.now.key c.args.name.now ≡ false = rw (← c.key.ensures, ← c.as_slice.ensures.value) (sym c.is_same.ensures ∙ c.if-is_same.false) in
    later_row c.args.name.now (c.in-Some.at.now, c.in-Some.held.now) (from_edge (edge_of c.catalog.from) rows) (from_edge (Behind c.in-Some.at.now) rows)
    (step_from (edge_of c.catalog.from) (c.in-Some.at.now, c.in-Some.held.now) rows c.in-Some.ensures.rising c.in-Some.ensures.found) other
    ∙ c.catalog.invariant

pub returns-then-is_same : goal.returns-then-is_same
returns-then-is_same g c =
    let rows = committed (g.T.Records.cells c.args.trees.now) 0 in
    let same : is_same_bytes c.in-Some.at.now.key c.args.name.now ≡ true = rw (← c.key.ensures, ← c.as_slice.ensures.value) (sym c.is_same.ensures ∙ c.if-is_same.true) in
    ap (option_map {U = List ℕ} (λ (r : Row). r.1))
    (sym (this_row c.args.name.now (c.in-Some.at.now, c.in-Some.held.now) (from_edge (edge_of c.catalog.from) rows) (from_edge (Behind c.in-Some.at.now) rows)
    (step_from (edge_of c.catalog.from) (c.in-Some.at.now, c.in-Some.held.now) rows c.in-Some.ensures.rising c.in-Some.ensures.found) same) ∙ c.catalog.invariant)

pub returns : goal.returns
returns g c =
    let rows = committed (g.T.Records.cells c.args.trees.now) 0 in
    ap (option_map {U = List ℕ} (λ (r : Row). r.1)) (sym (no_row c.args.name.now (from_edge (edge_of c.catalog.from) rows) c.in_default.ensures.found) ∙ c.catalog.invariant)
