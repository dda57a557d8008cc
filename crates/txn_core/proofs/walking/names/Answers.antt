use Rattle.std.proofs.Common.{ℕ, List}
use Rattle.record_map.specs.Cells.{edge_of, from_edge}
use Rattle.je_order.specs.Edges.Edge.{First, Behind}
use Rattle.log_replay.specs.Rows.{Row, is_catalog_row}
use Rattle.log_replay.proofs.ListMapping.{map_begins, map_goes_on}
use Rattle.txn_core.specs.Known.{committed}
use Rattle.txn_core.proofs.ReadingLaws.{from_first, fewer_behind, first_passes, step_from}
use Rattle.txn_core.proofs.walking.names.Goals as goal

abbrev key_by : Row → List ℕ
key_by r = r.0.key

pub catalog-init : goal.catalog-init
catalog-init g c =
    let rows = committed (g.T.Records.cells c.args.trees.now) 0 in
    map_begins key_by c.new-names.result.items (from_edge First rows) rows c.new-names.ensures.items (from_first rows)

pub word_in-requires : goal.word_in-requires
word_in-requires g c = (
  c.in-Some._data.now,
  first_passes is_catalog_row (edge_of c.catalog.from) (c.in-Some.name.now, c.in-Some._data.now) (committed (g.T.Records.cells c.args.trees.now) 0) c.requires c.in-Some.ensures.found,
)

pub catalog-smaller : goal.catalog-smaller
catalog-smaller g c =
    fewer_behind (edge_of c.catalog.from) (c.in-Some.name.now, c.in-Some._data.now) (committed (g.T.Records.cells c.args.trees.now) 0) c.in-Some.ensures.rising c.in-Some.ensures.found

pub catalog-preserved : goal.catalog-preserved
catalog-preserved g c =
    let rows = committed (g.T.Records.cells c.args.trees.now) 0 in
    map_goes_on key_by c.catalog.names.items c.push.new.self.items (c.in-Some.name.now, c.in-Some._data.now) c.in_ok-word_in.field-0 (from_edge (edge_of c.catalog.from) rows)
    (from_edge (Behind c.in-Some.name.now) rows) rows c.catalog.invariant
    (step_from (edge_of c.catalog.from) (c.in-Some.name.now, c.in-Some._data.now) rows c.in-Some.ensures.rising c.in-Some.ensures.found)
    c.in_ok-word_in.ensures c.in_ok-push.ensures.items
