use Rattle.std.proofs.Common.{◌≡◌, map, take}
use Rattle.environment.specs.Beside.{as_beside, beside_of, name_in}
use Rattle.environment.proofs.beside.others_of.Given as goal

abbrev pub invariant-loop-index : goal.invariant-loop-index
invariant-loop-index l = map as_beside l.others.items ≡ beside_of (name_in l.names) l.fn.over (take l.index-index l.indexes)
