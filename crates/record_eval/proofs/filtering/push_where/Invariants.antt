use Rattle.std.proofs.Common.{◌≡◌, ◌++◌, Bool, filter, drop}
use Rattle.record_eval.proofs.filtering.push_where.Given as goal

-- what is there and what is left to keep are what was there and the kept items
abbrev pub invariant-loop-item : goal.invariant-loop-item
invariant-loop-item g l =
    (p : g.row.T.Denot → Bool) → ((x : _) (b : Bool) → goal.F-post g l.test x b → b ≡ p x.now) →
    l.copies.items ++ filter p (drop l.item-index l.items) ≡ l.initial.copies.items ++ filter p l.items
