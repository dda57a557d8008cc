use Rattle.std.proofs.Common.{◌≡◌, ◌++◌, [], drop}
use Rattle.store_model.specs.declared.store.Database.{Database}
use Rattle.store_model.specs.Store.{in_database, with_pairs}
use Rattle.store_eval.proofs.changing.empty_in_each.Given as goal

-- the databases that are done and those left to do are the changed databases
abbrev pub invariant-loop-d : goal.invariant-loop-d
invariant-loop-d l =
    let change : Database → Database = λ d. with_pairs d [] in
    l.copies.items ++ in_database l.db change (drop l.d-index l.databases) ≡ in_database l.db change l.databases
