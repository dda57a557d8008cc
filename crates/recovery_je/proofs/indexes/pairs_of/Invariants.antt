use Rattle.std.proofs.Common.{◌≡◌, ◌++◌, map, drop}
use Rattle.store_model.specs.declared.kind.Kind.TheVariants.{Plain}
use Rattle.record_tree.specs.Stored.{lent}
use Rattle.secondary.specs.Pairs.{keyed_pairs, pairs_in}
use Rattle.log_replay.specs.Rows.{pair_of}
use Rattle.recovery_je.proofs.indexes.pairs_of.Given as goal

abbrev pub invariant-loop-record : goal.invariant-loop-record
invariant-loop-record l =
    pairs_in l.pairs.items ++ keyed_pairs l.extract (map (pair_of Plain) (lent (drop l.record-index l.records))) ≡ keyed_pairs l.extract (map (pair_of Plain) (lent l.records))
