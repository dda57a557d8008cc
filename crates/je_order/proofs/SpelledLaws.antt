-- Bytes that are compared as numbers.
use Rattle.std.proofs.Common.{◌≡◌, ◌∙◌, ◌<◌, ◌+◌, ◌*◌, ℕ, List, [], ◌∷◌, length, arith, refl, sym, ap, ap₂, Ordering, Less, Equal, Greater}
use Rattle.std.specs.Ordering.{nat_cmp, ordering_then, MatchOrdering}
use Rattle.std.specs.Cmp.{nat_cmp_is}
use Rattle.std.specs.Cmp.Lexicographic.{slice_cmp}
use Rattle.std.specs.List.{AllByRecursion}
use Rattle.std.specs.Slice.Scan.{big_endian}
use Rattle.std.proofs.lemmas.Cmp.{ranked}
use Rattle.je_order.specs.Spelled.{IsSpelled}

-- ---- the order of numbers is that of their digits

-- of as many digits, the number that was smaller before them stays smaller
smaller : (m n : ℕ) (xs ys : List ℕ) → length xs ≡ length ys → AllByRecursion (λ b. b < 256) xs → m < n → big_endian m xs < big_endian n ys
smaller m n [] [] same are h = h
smaller m n [] (y ∷ ys) same are h = absurd (omega (arith, same))
smaller m n (x ∷ xs) [] same are h = absurd (omega (arith, same))
smaller m n (x ∷ xs) (y ∷ ys) same are h =
    let first : x < 256 = are.0 in
    smaller (m * 256 + x) (n * 256 + y) xs ys (omega (arith, same)) are.1 (omega (arith, first, h))

-- the digits behind one number
pub digits_cmp : (n : ℕ) (xs ys : List ℕ) → length xs ≡ length ys → AllByRecursion (λ b. b < 256) xs → AllByRecursion (λ b. b < 256) ys
    → nat_cmp (big_endian n xs) (big_endian n ys) ≡ slice_cmp nat_cmp xs ys
digits_cmp n [] [] same are be = sym (nat_cmp_is n n Equal refl)
digits_cmp n [] (y ∷ ys) same are be = absurd (omega (arith, same))
digits_cmp n (x ∷ xs) [] same are be = absurd (omega (arith, same))
digits_cmp n (x ∷ xs) (y ∷ ys) same are be = by (nat_cmp x y) (ranked x y (nat_cmp x y) refl) (digits_cmp (n * 256 + x) xs ys len are.1 be.1)
  where
    len : length xs ≡ length ys
    len = omega (arith, same)

    by : (o : Ordering) → MatchOrdering o (x < y) (x ≡ y) (y < x)
        → nat_cmp (big_endian (n * 256 + x) xs) (big_endian (n * 256 + x) ys) ≡ slice_cmp nat_cmp xs ys
        → nat_cmp (big_endian (n * 256 + x) xs) (big_endian (n * 256 + y) ys) ≡ ordering_then o (slice_cmp nat_cmp xs ys)
    by Less h rest = sym (nat_cmp_is _ _ Less (smaller (n * 256 + x) (n * 256 + y) xs ys len are.1 (omega (arith, are.0, h))))
    by Equal h rest = ap (λ (z : ℕ). nat_cmp (big_endian (n * 256 + x) xs) (big_endian (n * 256 + z) ys)) (sym h) ∙ rest
    by Greater h rest = sym (nat_cmp_is _ _ Greater (smaller (n * 256 + y) (n * 256 + x) ys xs (sym len) be.1 (omega (arith, be.0, h))))

-- ---- bytes that are read as numbers

-- they are ordered as the numbers are
pub spelled_cmp : (xs ys : List ℕ) (m n : ℕ) → length xs ≡ length ys → IsSpelled xs m → IsSpelled ys n → nat_cmp m n ≡ slice_cmp nat_cmp xs ys
spelled_cmp xs ys m n same is be = ap₂ (λ (k l : ℕ). nat_cmp k l) is.1 be.1 ∙ digits_cmp 0 xs ys same is.0 be.0
