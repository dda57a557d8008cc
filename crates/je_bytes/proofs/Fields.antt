-- A field that is read is the field that was written, and what was written is read again, whatever follows it.
use Rattle.std.proofs.Common.{◌≡◌, ℕ, zero, suc, ◌+◌, ◌^◌, ◌<◌, ◌≤◌, Bool, true, false, cond, ltb, List, ◌++◌, length, take, drop, Some, None, refl, sym, ap, subst, ◌∙◌, append_assoc, arith, inl, inr}
use Rattle.std.specs.Int.{Width, w16, w32, w64, byte_len, from_be_bytes, to_be_bytes, bytes_high_first}
use Rattle.std.proofs.lemmas.Bool.{cases_lt, ltb-false, le-ltb, lt-ltb}
use Rattle.std.proofs.lemmas.List.{take_at, drop_at, take-append-drop, length-append, length-take, get_or-drop, get_or-take, get_or_past}
use Rattle.std.proofs.lemmas.Nat.{be_bytes_2, be_bytes_4, be_bytes_8, from_be_bytes-to_be_bytes_2, from_be_bytes-to_be_bytes_4, from_be_bytes-to_be_bytes_8}
use Rattle.je_bytes.specs.Reading.{AreBytes, bytes_in, number_in, IsReadAsWritten}

pub AreBytes-drop : (n : ℕ) (bytes : List ℕ) → AreBytes bytes → AreBytes (drop n bytes)
AreBytes-drop n bytes h i = rw get_or-drop (h (n + i))

pub AreBytes-take : (n : ℕ) (bytes : List ℕ) → AreBytes bytes → AreBytes (take n bytes)
AreBytes-take n bytes h i =
    elim (cases_lt i n) [
      | inl lt ↦ rw (get_or-take n bytes i 0 lt) (h i)
      | inr le ↦ rw (get_or_past (take n bytes) i 0 (omega (arith, length-take n bytes))) (omega arith)
    ]

-- ---- numbers of 2, 4 and 8 bytes

pub two_bytes : IsReadAsWritten w16 (2 ^ 16)
two_bytes = record {
  number = λ n lt. from_be_bytes-to_be_bytes_2 n lt;
  fits = λ bytes are. omega (arith, are 0, are 1);
  bytes = λ bytes len are. be_bytes_2 bytes _ len are refl;
}

pub four_bytes : IsReadAsWritten w32 (2 ^ 32)
four_bytes = record {
  number = λ n lt. from_be_bytes-to_be_bytes_4 n lt;
  fits = λ bytes are. omega (arith, are 0, are 1, are 2, are 3);
  bytes = λ bytes len are. be_bytes_4 bytes _ len are refl;
}

pub eight_bytes : IsReadAsWritten w64 (2 ^ 64)
eight_bytes = record {
  number = λ n lt. from_be_bytes-to_be_bytes_8 n lt;
  fits = λ bytes are. omega (arith, are 0, are 1, are 2, are 3, are 4, are 5, are 6, are 7);
  bytes = λ bytes len are. be_bytes_8 bytes _ len are refl;
}

-- ---- what a reader took from the front

-- the bytes are this text and the rest
pub record Takes (bytes text rest : List ℕ) : Type 0 where
  pub parts : bytes ≡ text ++ rest
  pub rest_fits : AreBytes rest

pub Takes-then : (a x b y c : List ℕ) → Takes a x b → Takes b y c → Takes a (x ++ y) c
Takes-then a x b y c p q = record { parts = p.parts ∙ ap (λ (t : List ℕ). x ++ t) q.parts ∙ sym (append_assoc x y c); rest_fits = q.rest_fits }

-- a test that did not fail
pub read_past : {A : Type 0} (b : Bool) (x y : A) → cond b None (Some x) ≡ Some y → (b ≡ false) × (x ≡ y)
read_past true x y e = absurd cc
read_past false x y e = (refl, cc)

pub bytes_in-takes : (n : ℕ) (bytes taken rest : List ℕ) → AreBytes bytes → bytes_in n bytes ≡ Some (taken, rest) → Takes bytes taken rest × (length taken ≡ n)
bytes_in-takes n bytes taken rest are e =
    let g = read_past (ltb (length bytes) n) (take n bytes, drop n bytes) (taken, rest) e in
    let long : n ≤ length bytes = ltb-false _ _ g.0 in
    let whole : Takes bytes (take n bytes) (drop n bytes) × (length (take n bytes) ≡ n) = (record { parts = sym (take-append-drop n bytes); rest_fits = AreBytes-drop n bytes are }, omega (arith, length-take n bytes)) in
    subst (λ (p : List ℕ × List ℕ). Takes bytes p.0 p.1 × (length p.0 ≡ n)) g.1 whole

-- a number that was read from a run
pub number_in-taken : (w : Width) (n : ℕ) (bytes taken rest : List ℕ) → bytes_in (byte_len w) bytes ≡ Some (taken, rest) → n ≡ from_be_bytes w taken → number_in w bytes ≡ Some (n, rest)
number_in-taken w n bytes taken rest e is =
    let g = read_past (ltb (length bytes) (byte_len w)) (take (byte_len w) bytes, drop (byte_len w) bytes) (taken, rest) e in
    let taken-is : take (byte_len w) bytes ≡ taken = ap (λ (p : List ℕ × List ℕ). p.0) g.1 in
    let rest-is : drop (byte_len w) bytes ≡ rest = ap (λ (p : List ℕ × List ℕ). p.1) g.1 in
    rw (g.0, taken-is, rest-is, is) refl

-- fewer bytes are left
pub bytes_in-short : (n : ℕ) (left bytes : List ℕ) → left ≡ bytes → length left < n → bytes_in n bytes ≡ None
bytes_in-short n left bytes is few = let short : ltb (length bytes) n ≡ true = lt-ltb _ _ (rw (← is) few) in rw short refl

pub bytes_in-again : (taken rest : List ℕ) → bytes_in (length taken) (taken ++ rest) ≡ Some (taken, rest)
bytes_in-again taken rest =
    let long : ltb (length (taken ++ rest)) (length taken) ≡ false = le-ltb _ _ (omega (arith, length-append taken rest)) in
    rw (long, take_at taken rest (length taken) refl, drop_at taken rest (length taken) refl) refl

pub number_in-takes : (w : Width) (limit : ℕ) (wide : IsReadAsWritten w limit) (bytes : List ℕ) (n : ℕ) (rest : List ℕ) → AreBytes bytes → number_in w bytes ≡ Some (n, rest) → Takes bytes (to_be_bytes w n) rest × (n < limit)
number_in-takes w limit wide bytes n rest are e =
    let g = read_past (ltb (length bytes) (byte_len w)) (from_be_bytes w (take (byte_len w) bytes), drop (byte_len w) bytes) (n, rest) e in
    let long : byte_len w ≤ length bytes = ltb-false _ _ g.0 in
    let n-is : from_be_bytes w (take (byte_len w) bytes) ≡ n = ap (λ (p : ℕ × List ℕ). p.0) g.1 in
    let rest-is : drop (byte_len w) bytes ≡ rest = ap (λ (p : ℕ × List ℕ). p.1) g.1 in
    let front : to_be_bytes w n ≡ take (byte_len w) bytes = rw (← n-is) (wide.bytes (take (byte_len w) bytes) (omega (arith, length-take (byte_len w) bytes)) (AreBytes-take (byte_len w) bytes are)) in
    (record { parts = rw (front, ← rest-is) (sym (take-append-drop (byte_len w) bytes)); rest_fits = rw (← rest-is) (AreBytes-drop (byte_len w) bytes are) }, rw (← n-is) (wide.fits (take (byte_len w) bytes) (AreBytes-take (byte_len w) bytes are)))

-- a number's bytes are so many
length-bytes_high_first : (k n : ℕ) → length (bytes_high_first k n) ≡ k
length-bytes_high_first zero n = refl
length-bytes_high_first (suc k) n = ap suc (length-bytes_high_first k n)

pub length-to_be_bytes : (w : Width) (n : ℕ) → length (to_be_bytes w n) ≡ byte_len w
length-to_be_bytes w n = length-bytes_high_first (byte_len w) n

pub number_in-again : (w : Width) (limit : ℕ) (wide : IsReadAsWritten w limit) (n : ℕ) (rest : List ℕ) → n < limit → number_in w (to_be_bytes w n ++ rest) ≡ Some (n, rest)
number_in-again w limit wide n rest lt =
    let len = length-to_be_bytes w n in
    let long : ltb (length (to_be_bytes w n ++ rest)) (byte_len w) ≡ false = le-ltb _ _ (omega (arith, length-append (to_be_bytes w n) rest)) in
    rw (long, take_at (to_be_bytes w n) rest (byte_len w) len, drop_at (to_be_bytes w n) rest (byte_len w) len, wide.number n lt) refl
