use Rattle.std.proofs.Common.{◌≡◌, ◌++◌, drop}
use Rattle.store_model.specs.Indexes.{pairs_put}
use Rattle.store_eval.proofs.indexing.pairs_put.Given as goal

-- the pairs so far and those of the records that are left are all
abbrev pub invariant-loop-row : goal.invariant-loop-row
invariant-loop-row l = l.changes.items ++ pairs_put l.extract (drop l.row-index l.records) ≡ pairs_put l.extract l.records
