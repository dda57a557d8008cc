-- Byte strings that are compared a part at a time.
use Rattle.std.proofs.Common.{◌≡◌, ◌∙◌, ◌≤◌, ◌+◌, ℕ, zero, suc, List, [], ◌∷◌, length, take, drop, min, arith, refl, sym, ap, ap₂, Ordering, Less, Equal, Greater, true, false, length-drop}
use Rattle.std.specs.Ordering.{nat_cmp, ordering_then, is_ne}
use Rattle.std.specs.Cmp.{nat_cmp_is}
use Rattle.std.proofs.lemmas.List.{take_all}
use Rattle.std.proofs.lemmas.Bool.Decides.{nat_tests}
use Rattle.je_order.specs.Order.{bytes_cmp}

-- ---- of three orders one after another the last two are one

then_then : (o p q : Ordering) → ordering_then (ordering_then o p) q ≡ ordering_then o (ordering_then p q)
then_then Less p q = refl
then_then Equal p q = refl
then_then Greater p q = refl

then_equal : (o p : Ordering) → ordering_then o p ≡ Equal → o ≡ Equal
then_equal Less p h = h
then_equal Equal p h = refl
then_equal Greater p h = h

then_rest : (o p : Ordering) → ordering_then o p ≡ Equal → p ≡ Equal
then_rest Less p h = cc
then_rest Equal p h = h
then_rest Greater p h = cc

-- ---- what is in front, and what is behind it

-- both have the front whole: its order is first, and then that of the rest
pub cut : (n : ℕ) (xs ys : List ℕ) → n ≤ length xs → n ≤ length ys → bytes_cmp xs ys ≡ ordering_then (bytes_cmp (take n xs) (take n ys)) (bytes_cmp (drop n xs) (drop n ys))
cut zero xs ys h k = refl
cut (suc n) [] ys h k = absurd (omega (arith, h))
cut (suc n) (x ∷ xs) [] h k = absurd (omega (arith, k))
cut (suc n) (x ∷ xs) (y ∷ ys) h k =
    ap (λ (o : Ordering). ordering_then (nat_cmp x y) o) (cut n xs ys (omega (arith, h)) (omega (arith, k)))
    ∙ sym (then_then (nat_cmp x y) (bytes_cmp (take n xs) (take n ys)) (bytes_cmp (drop n xs) (drop n ys)))

-- behind a front that is the same the rest decides
pub past : (n : ℕ) (xs ys : List ℕ) → n ≤ length xs → n ≤ length ys → bytes_cmp (take n xs) (take n ys) ≡ Equal → bytes_cmp xs ys ≡ bytes_cmp (drop n xs) (drop n ys)
past n xs ys h k same = cut n xs ys h k ∙ ap (λ (o : Ordering). ordering_then o (bytes_cmp (drop n xs) (drop n ys))) same

-- a shorter front is the same too
pub less_same : (m n : ℕ) (xs ys : List ℕ) → m ≤ n → bytes_cmp (take n xs) (take n ys) ≡ Equal → bytes_cmp (take m xs) (take m ys) ≡ Equal
less_same zero n xs ys h same = refl
less_same (suc m) zero xs ys h same = absurd (omega (arith, h))
less_same (suc m) (suc n) [] [] h same = refl
less_same (suc m) (suc n) [] (y ∷ ys) h same = cc
less_same (suc m) (suc n) (x ∷ xs) [] h same = cc
less_same (suc m) (suc n) (x ∷ xs) (y ∷ ys) h same =
    let first : nat_cmp x y ≡ Equal = then_equal (nat_cmp x y) (bytes_cmp (take n xs) (take n ys)) same in
    let rest : bytes_cmp (take n xs) (take n ys) ≡ Equal = then_rest (nat_cmp x y) (bytes_cmp (take n xs) (take n ys)) same in
    ap (λ (o : Ordering). ordering_then o (bytes_cmp (take m xs) (take m ys))) first ∙ less_same m n xs ys (omega (arith, h)) rest

-- and a longer one, where the bytes behind it are
pub more_same : (n k m : ℕ) (xs ys : List ℕ) → n + k ≡ m → m ≤ length xs → m ≤ length ys → bytes_cmp (take n xs) (take n ys) ≡ Equal
    → bytes_cmp (take k (drop n xs)) (take k (drop n ys)) ≡ Equal → bytes_cmp (take m xs) (take m ys) ≡ Equal
more_same zero k m xs ys is h j same next =
    let all : m ≡ k = omega (arith, is) in
    ap (λ (i : ℕ). bytes_cmp (take i xs) (take i ys)) all ∙ next
more_same (suc n) k zero xs ys is h j same next = absurd (omega (arith, is))
more_same (suc n) k (suc m) [] ys is h j same next = absurd (omega (arith, h))
more_same (suc n) k (suc m) (x ∷ xs) [] is h j same next = absurd (omega (arith, j))
more_same (suc n) k (suc m) (x ∷ xs) (y ∷ ys) is h j same next =
    let first : nat_cmp x y ≡ Equal = then_equal (nat_cmp x y) (bytes_cmp (take n xs) (take n ys)) same in
    let rest : bytes_cmp (take n xs) (take n ys) ≡ Equal = then_rest (nat_cmp x y) (bytes_cmp (take n xs) (take n ys)) same in
    ap (λ (o : Ordering). ordering_then o (bytes_cmp (take m xs) (take m ys))) first
    ∙ more_same n k m xs ys (omega (arith, is)) (omega (arith, h)) (omega (arith, j)) rest next

-- what differs decides, whatever comes behind it
pub decides : (o : Ordering) → is_ne o ≡ true → (p : Ordering) → o ≡ ordering_then o p
decides Less e p = refl
decides Equal e p = cc
decides Greater e p = refl

-- the bytes behind a front that is the same are not, and their order is that of all
pub found : (n k : ℕ) (xs ys : List ℕ) → n + k ≤ length xs → n + k ≤ length ys → bytes_cmp (take n xs) (take n ys) ≡ Equal
    → (o : Ordering) → o ≡ bytes_cmp (take k (drop n xs)) (take k (drop n ys)) → is_ne o ≡ true → o ≡ bytes_cmp xs ys
found n k xs ys h j same o is differs =
    sym (
    past n xs ys (omega (arith, h)) (omega (arith, j)) same
    ∙ cut k (drop n xs) (drop n ys) (omega (arith, h, length-drop n xs)) (omega (arith, j, length-drop n ys))
    ∙ ap (λ (p : Ordering). ordering_then p (bytes_cmp (drop k (drop n xs)) (drop k (drop n ys)))) (sym is)
    ∙ sym (decides o differs (bytes_cmp (drop k (drop n xs)) (drop k (drop n ys)))))

-- what is not told to differ is the same
pub not_found : (o p : Ordering) → o ≡ p → is_ne o ≡ false → p ≡ Equal
not_found Less p e h = cc
not_found Equal p e h = sym e
not_found Greater p e h = cc

-- where all of the shorter is the same, the lengths decide
pub ends : (xs ys : List ℕ) (n : ℕ) → n ≡ min (length xs) (length ys) → bytes_cmp (take n xs) (take n ys) ≡ Equal → nat_cmp (length xs) (length ys) ≡ bytes_cmp xs ys
ends [] [] n h same = refl
ends [] (y ∷ ys) n h same = sym (nat_cmp_is 0 (suc (length ys)) Less (omega arith))
ends (x ∷ xs) [] n h same = sym (nat_cmp_is (suc (length xs)) 0 Greater (omega arith))
ends (x ∷ xs) (y ∷ ys) zero h same = absurd (omega (arith, h))
ends (x ∷ xs) (y ∷ ys) (suc n) h same =
    let first : nat_cmp x y ≡ Equal = then_equal (nat_cmp x y) (bytes_cmp (take n xs) (take n ys)) same in
    let rest : bytes_cmp (take n xs) (take n ys) ≡ Equal = then_rest (nat_cmp x y) (bytes_cmp (take n xs) (take n ys)) same in
    lengths (length xs) (length ys) ∙ ends xs ys n (omega (arith, h)) rest ∙ sym (ap (λ (o : Ordering). ordering_then o (bytes_cmp xs ys)) first)
  where
    lengths : (m n : ℕ) → nat_cmp (suc m) (suc n) ≡ nat_cmp m n
    lengths m n = grind (arith, nat_tests)

-- a front that is all of both
pub all_same : (n : ℕ) (xs ys : List ℕ) → length xs ≤ n → length ys ≤ n → bytes_cmp (take n xs) (take n ys) ≡ Equal → bytes_cmp xs ys ≡ Equal
all_same n xs ys h k same = ap₂ bytes_cmp (sym (take_all n xs h)) (sym (take_all n ys k)) ∙ same
