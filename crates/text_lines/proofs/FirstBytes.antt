-- The first place of a byte, as a search of many bytes at a time says it.
use Rattle.std.proofs.Common.{◌≡◌, ◌<◌, ℕ, List, length, get_or, Bool, true, false, Option, Some, None, position, ltb, refl, sym, ap, ◌∙◌, arith}
use Rattle.std.specs.List.{position_or_len}
use Rattle.std.proofs.lemmas.List.Sums.{position_or_len_is}
use Rattle.std.proofs.lemmas.Bool.{cond-true, cond-false}
use Rattle.std.proofs.lemmas.Bool.Decides.{nat_tests}
use Rattle.memchr.specs.Find.{IsFirstByte}

-- what is not true is false
fails : (b : Bool) → (b ≡ true → ⊥) → b ≡ false
fails true not = absurd (not refl)
fails false not = refl

pub first_byte_is : (p : ℕ → Bool) (xs : List ℕ) (r : Option ℕ) → IsFirstByte p xs r → r ≡ position p xs
first_byte_is p xs None none =
    let at : position_or_len p xs ≡ length xs = position_or_len_is p xs (length xs) 0 (omega arith) (λ k within. fails (p (get_or xs k 0)) (none k (omega arith) within)) (λ past. absurd (omega arith)) in
    let past : ltb (position_or_len p xs) (length xs) ≡ false = grind (arith, nat_tests) in
    sym (cond-false (ltb (position_or_len p xs) (length xs)) _ _ past)
first_byte_is p xs (Some i) found =
    let within : i < length xs = found.0.high in
    let at : position_or_len p xs ≡ i =
    position_or_len_is p xs i 0 (omega arith) (λ k before. fails (p (get_or xs k 0)) (found.0.before k (omega arith) before)) (λ _. found.1) in
    let inside : ltb (position_or_len p xs) (length xs) ≡ true = grind (arith, nat_tests) in
    sym (cond-true (ltb (position_or_len p xs) (length xs)) _ _ inside ∙ ap (λ n. Some n) at)
