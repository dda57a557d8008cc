use Rattle.std.proofs.Common.{◌≡◌, ◌++◌, map, drop}
use Rattle.store_model.specs.declared.record_change.RecordChange.{RecordChange}
use Rattle.store_model.specs.declared.record_change.RecordChange.TheVariants.{Unset}
use Rattle.store_model.specs.Store.{Pair, name_of}
use Rattle.cursor_je.specs.Looks.{pair_in}
use Rattle.cursor_je.proofs.planning.unset_all.Given as goal

-- the changes so far and those of the records that are left are all changes
abbrev pub invariant-records : goal.invariant-records
invariant-records l =
    let change : Pair → RecordChange = λ p. Unset (name_of l.kind p) in
    l.changes.items ++ map change (map pair_in (drop l.found-index l.taken)) ≡ map change (map pair_in l.taken)
