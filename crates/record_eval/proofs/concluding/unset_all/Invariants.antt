use Rattle.std.proofs.Common.{◌≡◌, ◌++◌, map, drop}
use Rattle.store_model.specs.declared.record_change.RecordChange.{RecordChange}
use Rattle.store_model.specs.declared.record_change.RecordChange.TheVariants.{Unset}
use Rattle.store_model.specs.Store.{Pair, name_of}
use Rattle.record_eval.proofs.concluding.unset_all.Given as goal

-- the changes so far and those of the records that are left are all changes
abbrev pub invariant-loop-pair : goal.invariant-loop-pair
invariant-loop-pair v =
    let change : Pair → RecordChange = λ p. Unset (name_of v.kind p) in
    v.changes.items ++ map change (drop v.pair-index v.taken) ≡ map change v.taken
