-- The first place of a byte in a text.
use Rattle.std.proofs.Common.{◌≡◌, ◌<◌, ◌≤◌, ℕ, List, length, Bool, Some, None, position, ltb, arith}
use Rattle.std.specs.List.{position_or_len}
use Rattle.std.proofs.lemmas.Option.{cond_some}
use Rattle.std.proofs.lemmas.Bool.Decides.{nat_tests}

-- where a place was found, it is the first one
pub found_at : (p : ℕ → Bool) (xs : List ℕ) (i : ℕ) → position p xs ≡ Some i → (position_or_len p xs ≡ i) × (i < length xs)
found_at p xs i e =
    let t = cond_some (ltb (position_or_len p xs) (length xs)) (position_or_len p xs) i e in
    (t.1, grind (arith, nat_tests))

-- where none was found, the place is the length
pub none_at : (p : ℕ → Bool) (xs : List ℕ) → position p xs ≡ None → length xs ≤ position_or_len p xs
none_at p xs e = grind (arith, nat_tests)
