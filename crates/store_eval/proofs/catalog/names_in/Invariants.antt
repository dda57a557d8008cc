use Rattle.std.proofs.Common.{◌≡◌, ◌++◌, List, ℕ, map, drop}
use Rattle.store_model.specs.declared.store.Database.{Database}
use Rattle.store_eval.proofs.catalog.names_in.Given as goal

-- the names so far and those of the databases that are left are all names
abbrev pub invariant-loop-d : goal.invariant-loop-d
invariant-loop-d l =
    let name : Database → List ℕ = λ d. d.name in
    l.names.items ++ map name (drop l.d-index l.store.databases) ≡ map name l.store.databases
