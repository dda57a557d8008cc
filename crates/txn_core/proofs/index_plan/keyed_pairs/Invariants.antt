use Rattle.std.proofs.Common.{◌≡◌, ◌++◌, map, length}
use Rattle.store_model.specs.declared.kind.Kind.TheVariants.{Plain}
use Rattle.record_map.specs.Cells.{from_edge, edge_of}
use Rattle.secondary.specs.Pairs.{keyed_pairs, pairs_in}
use Rattle.log_replay.specs.Rows.{pair_of}
use Rattle.txn_core.specs.Known.{committed}
use Rattle.txn_core.proofs.index_plan.keyed_pairs.Given as goal

-- the pairs so far and those of the records from the edge on are the pairs of all records
abbrev pub invariant-records : goal.invariant-records
invariant-records g l =
    let rows = committed (g.T.Records.cells l.trees) l.primary in
    pairs_in l.pairs.items ++ keyed_pairs l.extract (map (pair_of Plain) (from_edge (edge_of l.from) rows)) ≡ keyed_pairs l.extract (map (pair_of Plain) rows)

abbrev pub decreases-records : goal.decreases-records
decreases-records g l = length (from_edge (edge_of l.from) (committed (g.T.Records.cells l.trees) l.primary))
