-- The digits of a number, the last one first.
use Rattle.std.proofs.Common.{◌≡◌, ◌≤◌, ◌<◌, ◌==◌, ◌+◌, ◌-◌, ◌/◌, ◌%◌, ◌^◌, ◌∷◌, false, ℕ, suc, List, [], drop, length, slice_index, slice_set, ap, sym, ◌∙◌, subst, arith}
use Rattle.std.specs.Fmt.{digit_glyph, digits, digits_onto}
use Rattle.std.proofs.lemmas.Bool.{cond-false, ne_eqb}
use Rattle.std.proofs.lemmas.Grind.{common_steps}

-- before any digit is written
pub onto_none : (n : ℕ) (xs : List ℕ) → xs ≡ [] → digits_onto 64 16 false n xs ≡ digits 16 false n
unfolding digits
onto_none n xs e = ap (λ acc. digits_onto 64 16 false n acc) e

-- the last digit of a number that has more
onto_one : (k n : ℕ) (acc : List ℕ) → 16 ≤ n →
    digits_onto (suc k) 16 false n acc ≡ digits_onto k 16 false (n / 16) (digit_glyph false (n % 16) ∷ acc)
onto_one k n acc more = cond-false (n / 16 == 0) _ _ (ne_eqb (n / 16) 0 (omega arith))

-- a number with one digit fewer is smaller
pub fewer : (n s : ℕ) → n < 16 ^ (s + 1) → n / 16 < 16 ^ s
fewer n s h =
    let e : s + 1 ≡ suc s = omega arith in
    let p : n < 16 ^ suc s = subst (λ k. n < 16 ^ k) e h in
    omega (arith, p)

pub fewer_before : (n start : ℕ) → 0 < start → n < 16 ^ (start + 1) → n / 16 < 16 ^ (start - 1 + 1)
fewer_before n start pos h =
    let place : start ≡ start - 1 + 1 = omega arith in
    subst (λ k. n / 16 < 16 ^ k) place (fewer n start h)

-- the digits from a place on, by the first of them
pub from_place : (xs : List ℕ) (s d : ℕ) → s < length xs → slice_index xs s ≡ d → drop s xs ≡ d ∷ drop (s + 1) xs
from_place xs s d within is = grind (arith, common_steps)

-- one more digit is written
pub onto_step : (start n d e total : ℕ) (xs : List ℕ) → 0 < start → start < length xs → 16 ≤ n →
    slice_index xs start ≡ digit_glyph false (n % 16) → digits_onto (57 + start) 16 false n (drop (start + 1) xs) ≡ digits 16 false total →
    digits_onto (57 + (start - 1)) 16 false (n / 16) (drop (start - 1 + 1) (slice_set xs (start - 1) e)) ≡ digits 16 false total
onto_step start n d e total xs pos within more first last =
    let fuel : suc (57 + (start - 1)) ≡ 57 + start = omega arith in
    let place : start - 1 + 1 ≡ start = omega arith in
    let kept : drop start (slice_set xs (start - 1) e) ≡ drop start xs = grind (arith, common_steps) in
    ap (λ p. digits_onto (57 + (start - 1)) 16 false (n / 16) (drop p (slice_set xs (start - 1) e))) place
    ∙ ap (λ acc. digits_onto (57 + (start - 1)) 16 false (n / 16) acc) (kept ∙ from_place xs start (digit_glyph false (n % 16)) within first)
    ∙ sym (onto_one (57 + (start - 1)) n (drop (start + 1) xs) more)
    ∙ ap (λ k. digits_onto k 16 false n (drop (start + 1) xs)) fuel
    ∙ last
