-- Bytes with zeros behind them.
use Rattle.std.proofs.Common.{◌≡◌, ℕ, zero, suc, List, [], ◌∷◌, ◌++◌, take, drop, replicate, min, ◌≤◌, length, arith, refl, ap}
use Rattle.je_order.specs.Held.{padded_to}

zeros : (count : ℕ) → replicate count 0 ≡ padded_to count []
zeros zero = refl
zeros (suc count) = ap (λ (l : List ℕ). 0 ∷ l) (zeros count)

-- an array of zeros, the first of which are replaced
pub padded_is : (count : ℕ) (bytes : List ℕ) → take (min (length bytes) count) bytes ++ drop (min (length bytes) count) (replicate count 0) ≡ padded_to count bytes
padded_is zero [] = refl
padded_is zero (byte ∷ bytes) =
    let none : min (length (byte ∷ bytes)) 0 ≡ 0 = omega arith in
    rw none refl
padded_is (suc count) [] =
    let none : min 0 (suc count) ≡ 0 = omega arith in
    rw none (ap (λ (l : List ℕ). 0 ∷ l) (zeros count))
padded_is (suc count) (byte ∷ bytes) =
    let one : min (length (byte ∷ bytes)) (suc count) ≡ suc (min (length bytes) count) = omega arith in
    rw one (ap (λ (l : List ℕ). byte ∷ l) (padded_is count bytes))

pub padded_len : (count : ℕ) (bytes : List ℕ) → length (padded_to count bytes) ≡ count
padded_len zero bytes = refl
padded_len (suc count) [] = ap suc (padded_len count [])
padded_len (suc count) (byte ∷ bytes) = ap suc (padded_len count bytes)

-- no zeros are in front of the bytes
pub take_padded : (count : ℕ) (bytes : List ℕ) → length bytes ≤ count → take (length bytes) (padded_to count bytes) ≡ bytes
take_padded zero [] short = refl
take_padded zero (byte ∷ bytes) short = absurd (omega arith)
take_padded (suc count) [] short = refl
take_padded (suc count) (byte ∷ bytes) short = ap (λ (l : List ℕ). byte ∷ l) (take_padded count bytes (omega arith))

-- fewer of the first bytes
pub padded_less : (less count : ℕ) (bytes : List ℕ) → less ≤ count → take less (padded_to count bytes) ≡ padded_to less bytes
padded_less zero count bytes le = refl
padded_less (suc less) zero bytes le = absurd (omega arith)
padded_less (suc less) (suc count) [] le = ap (λ (l : List ℕ). 0 ∷ l) (padded_less less count [] (omega arith))
padded_less (suc less) (suc count) (byte ∷ bytes) le = ap (λ (l : List ℕ). byte ∷ l) (padded_less less count bytes (omega arith))
