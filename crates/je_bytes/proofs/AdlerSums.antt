-- The two sums of Adler-32, a byte or a block at a time.
use Rattle.std.proofs.Common.{◌≡◌, ℕ, ◌+◌, ◌%◌, ◌^◌, ◌<◌, List, [], ◌∷◌, ◌++◌, length, get_or, take, drop, refl, sym, ap, ◌∙◌, add-zero, zero-add, add-one, arith, drop-cons}
use Rattle.std.proofs.lemmas.List.{take-append-drop}
use Rattle.je_bytes.specs.Adler.{adler32_of, sum_of, running_sum_of}

pub sum_of-next : (a i s : ℕ) (bytes : List ℕ) → i < length bytes → a + sum_of (drop i bytes) ≡ s → (a + get_or bytes i 0) + sum_of (drop (i + 1) bytes) ≡ s
sum_of-next a i s bytes h is =
    let e : sum_of (drop i bytes) ≡ get_or bytes i 0 + sum_of (drop (i + 1) bytes) = rw (add-one, drop-cons bytes i 0) refl in omega arith

pub running_sum_of-next : (a b i s : ℕ) (bytes : List ℕ) → i < length bytes → b + running_sum_of a (drop i bytes) ≡ s
    → (b + (a + get_or bytes i 0)) + running_sum_of (a + get_or bytes i 0) (drop (i + 1) bytes) ≡ s
running_sum_of-next a b i s bytes h is =
    let e : running_sum_of a (drop i bytes) ≡ (a + get_or bytes i 0) + running_sum_of (a + get_or bytes i 0) (drop (i + 1) bytes) = rw (add-one, drop-cons bytes i 0) refl in omega arith

sum_of-append : (xs ys : List ℕ) → sum_of (xs ++ ys) ≡ sum_of xs + sum_of ys
sum_of-append [] ys = omega arith
sum_of-append (x ∷ xs) ys = omega (arith, sum_of-append xs ys)

running_sum_of-append : (a : ℕ) (xs ys : List ℕ) → running_sum_of a (xs ++ ys) ≡ running_sum_of a xs + running_sum_of (a + sum_of xs) ys
running_sum_of-append a [] ys = rw (add-zero) (sym (zero-add (running_sum_of a ys)))
running_sum_of-append a (x ∷ xs) ys =
    let e = running_sum_of-append (a + x) xs ys in
    let f : (a + x) + sum_of xs ≡ a + (x + sum_of xs) = omega arith in
    rw (← f) (omega arith)

-- sums that agree modulo 65521 go on so
running_sum_of-mod : (a c b d : ℕ) (xs : List ℕ) → a % 65521 ≡ c % 65521 → b % 65521 ≡ d % 65521 → (b + running_sum_of a xs) % 65521 ≡ (d + running_sum_of c xs) % 65521
running_sum_of-mod a c b d [] h k = omega arith
running_sum_of-mod a c b d (x ∷ xs) h k =
    let e : (b + (a + x) + running_sum_of (a + x) xs) % 65521 ≡ (d + (c + x) + running_sum_of (c + x) xs) % 65521 = running_sum_of-mod (a + x) (c + x) (b + (a + x)) (d + (c + x)) xs (omega arith) (omega arith) in
    omega arith

pub sum_of-block : (a c n : ℕ) (rest : List ℕ) → c ≡ (a + sum_of (take n rest)) % 65521 → (c + sum_of (drop n rest)) % 65521 ≡ (a + sum_of rest) % 65521
sum_of-block a c n rest is =
    let e : sum_of (take n rest) + sum_of (drop n rest) ≡ sum_of rest = sym (sum_of-append (take n rest) (drop n rest)) ∙ ap sum_of (take-append-drop n rest) in
    omega arith

pub running_sum_of-block : (a b c d n : ℕ) (rest : List ℕ) → c ≡ (a + sum_of (take n rest)) % 65521 → d ≡ (b + running_sum_of a (take n rest)) % 65521
    → (d + running_sum_of c (drop n rest)) % 65521 ≡ (b + running_sum_of a rest) % 65521
running_sum_of-block a b c d n rest c-is d-is =
    let e : running_sum_of a (take n rest) + running_sum_of (a + sum_of (take n rest)) (drop n rest) ≡ running_sum_of a rest =
    sym (running_sum_of-append a (take n rest) (drop n rest)) ∙ ap (running_sum_of a) (take-append-drop n rest) in
    let f = running_sum_of-mod c (a + sum_of (take n rest)) d (b + running_sum_of a (take n rest)) (drop n rest) (omega arith) (omega arith) in
    f ∙ omega arith

-- a checksum fits its field
pub adler32_of-lt : (bytes : List ℕ) → adler32_of bytes < 2 ^ 32
unfolding adler32_of
adler32_of-lt bytes = omega arith
