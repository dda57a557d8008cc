-- Hexadecimal digits, some bytes after others.
use Rattle.std.proofs.Common.{◌≡◌, ◌-◌, ℕ, List, [], ◌∷◌, ◌++◌, length, take, drop, slice_index, ◌/◌, ◌%◌, refl, sym, ap, ◌∙◌, append_assoc}
use Rattle.std.proofs.lemmas.List.{take-append-drop, take_rest}
use Rattle.hex.specs.Hex.{encode_with, encode_lower, lower_digits}

encode_with-append : (table xs ys : List ℕ) → encode_with table (xs ++ ys) ≡ encode_with table xs ++ encode_with table ys
unfolding encode_with
encode_with-append table [] ys = refl
encode_with-append table (x ∷ xs) ys = ap (λ l. slice_index table (x / 16) ∷ slice_index table (x % 16) ∷ l) (encode_with-append table xs ys)

-- the digits of a front and of what is behind it
digits_both : (count : ℕ) (rest : List ℕ) → encode_lower (take count rest) ++ encode_lower (drop count rest) ≡ encode_lower rest
digits_both count rest = sym (encode_with-append lower_digits (take count rest) (drop count rest)) ∙ ap (λ (l : List ℕ). encode_lower l) (take-append-drop count rest)

-- a front was sent, of the bytes that were left
pub digits_cut : (count : ℕ) (rest done all : List ℕ) → done ++ encode_lower rest ≡ all →
    (done ++ encode_lower (take count rest)) ++ encode_lower (take (length rest - count) (drop count rest)) ≡ all
digits_cut count rest done all so_far =
    append_assoc done (encode_lower (take count rest)) (encode_lower (take (length rest - count) (drop count rest)))
    ∙ ap (λ (l : List ℕ). done ++ (encode_lower (take count rest) ++ encode_lower l)) (take_rest rest count)
    ∙ ap (λ (l : List ℕ). done ++ l) (digits_both count rest)
    ∙ so_far
