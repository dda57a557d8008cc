use Rattle.std.proofs.Common.{◌≡◌, ◌++◌, ◌∷◌, [], drop, map}
use Rattle.store_model.specs.Store.{Pair, named}
use Rattle.store_model.specs.declared.change.Change.{Change}
use Rattle.store_model.specs.declared.change.Change.TheVariants.{Set, MakeIndex}
use Rattle.store_eval.proofs.indexing.filling.Given as goal

-- the changes so far and those of the pairs that are left are all
abbrev pub invariant-loop-pair : goal.invariant-loop-pair
invariant-loop-pair l =
    let set : Pair → Change = λ p. Set l.db (named p.0 p.1) [] in
    l.changes.items ++ map set (drop l.pair-index l.pairs) ≡ MakeIndex l.db l.index ∷ map set l.pairs
