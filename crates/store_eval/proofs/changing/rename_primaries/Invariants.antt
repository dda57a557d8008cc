use Rattle.std.proofs.Common.{◌≡◌, ◌++◌, map, drop}
use Rattle.store_model.specs.Store.{with_primary}
use Rattle.store_eval.proofs.changing.rename_primaries.Given as goal

-- the databases that are done and those left to do are all, with their primaries' names
abbrev pub invariant-loop-d : goal.invariant-loop-d
invariant-loop-d l = l.copies.items ++ map (with_primary l.db l.to) (drop l.d-index l.databases) ≡ map (with_primary l.db l.to) l.databases
