-- Lists from which nothing was taken.
use Rattle.std.proofs.Common.{◌≡◌, true, List, [], ◌∷◌, filter, refl, ap}
use Rattle.store_model.specs.Store.{Pair}

pub all_kept : (xs : List Pair) → filter (λ (p : Pair). true) xs ≡ xs
all_kept [] = refl
all_kept (x ∷ xs) = ap (λ (l : List Pair). x ∷ l) (all_kept xs)
