use Rattle.std.proofs.Common.{◌≡◌, map, drop}
use Rattle.store_model.specs.declared.kind.Kind.TheVariants.{Dup}
use Rattle.record_tree.specs.Stored.{lent}
use Rattle.secondary.specs.Pairs.{pairs_in}
use Rattle.log_replay.specs.Rows.{pair_of}
use Rattle.log_replay.specs.Indexed.{are_same_pairs}
use Rattle.recovery_je.proofs.indexes.are_pairs.Given as goal

abbrev pub invariant-loop-record : goal.invariant-loop-record
invariant-loop-record l =
    are_same_pairs (map (pair_of Dup) (lent (drop l.record-index l.records))) (pairs_in l.left) ≡ are_same_pairs (map (pair_of Dup) (lent l.records)) (pairs_in l.pairs)
