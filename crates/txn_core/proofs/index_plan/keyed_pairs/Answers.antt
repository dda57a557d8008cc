use Rattle.std.proofs.Common.{◌∙◌, ◌++◌, List, ap, map}
use Rattle.store_model.specs.declared.kind.Kind.TheVariants.{Plain}
use Rattle.record_map.specs.Cells.{edge_of, from_edge}
use Rattle.je_order.specs.Edges.Edge.{First, Behind}
use Rattle.secondary.specs.declared.key_pair.KeyPair.{KeyPair}
use Rattle.secondary.specs.Pairs.{keyed_pairs, pairs_in}
use Rattle.log_replay.specs.Rows.{Row, pair_of}
use Rattle.txn_core.specs.Known.{committed}
use Rattle.txn_core.proofs.ReadingLaws.{from_first, fewer_behind, step_from}
use Rattle.txn_core.proofs.FillParts.{one_pair_more}
use Rattle.txn_core.proofs.index_plan.keyed_pairs.Goals as goal

pub records-init : goal.records-init
records-init g c =
    let rows = committed (g.T.Records.cells c.args.trees.now) c.args.primary in
    ap (λ (l : List KeyPair). pairs_in l ++ keyed_pairs c.args.extract.now (map (pair_of Plain) (from_edge First rows))) c.new-pairs.ensures.items
    ∙ ap (λ (l : List Row). keyed_pairs c.args.extract.now (map (pair_of Plain) l)) (from_first rows)

pub records-smaller : goal.records-smaller
records-smaller g c =
    fewer_behind (edge_of c.records.from) (c.in-Some.name.now, c.in-Some.data.now) (committed (g.T.Records.cells c.args.trees.now) c.args.primary) c.in-Some.ensures.rising c.in-Some.ensures.found

pub records-preserved : goal.records-preserved
records-preserved g c =
    let rows = committed (g.T.Records.cells c.args.trees.now) c.args.primary in
    one_pair_more c.args.extract.now (pairs_in c.records.pairs.items) (pairs_in c.push_pair.new.pairs.items) (c.in-Some.name.now, c.in-Some.data.now) c.key.result.now c.as_slice.result.now
    (from_edge (edge_of c.records.from) rows) (from_edge (Behind c.in-Some.name.now) rows) rows c.in_ok-push_pair.ensures.ok c.key.ensures c.as_slice.ensures
    (step_from (edge_of c.records.from) (c.in-Some.name.now, c.in-Some.data.now) rows c.in-Some.ensures.rising c.in-Some.ensures.found) c.records.invariant
