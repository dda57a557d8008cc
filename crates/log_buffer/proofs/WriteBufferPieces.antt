-- The write buffer's pieces as the write buffer grows.
use Rattle.std.proofs.Common.{◌≡◌, ℕ, zero, suc, ◌+◌, ◌<◌, ◌≤◌, ◌⊎◌, inl, inr, List, [], ◌∷◌, ◌++◌, length, get_or, refl, sym, ap, ap₂, subst, ◌∙◌, arith, length-append}
use Rattle.std.specs.Prelude.{Result, Ok, Err, OnOk, OnErr, Bool, true, if◌then◌else◌}
use Rattle.std.proofs.lemmas.List.{get_or_default, get_or_past, get_or_append_left, get_or_push}
use Rattle.std.proofs.lemmas.Bool.{cases_order}
use Rattle.log_buffer.specs.WriteBuffer.{start_of, stop_of}

-- the places lie within the bytes and apart from one another
pub record IsCut (len : ℕ) (starts : List ℕ) : Type 0 where
  pub within : (i : ℕ) → i < length starts → get_or starts i len < len
  pub apart : (i : ℕ) → i < length starts → get_or starts i len < get_or starts (i + 1) len

-- a read within the list at a greater default, and one past its end
within_more : (starts : List ℕ) (n m i : ℕ) → i < length starts → get_or starts i m ≡ get_or starts i n
within_more starts n m i lt = get_or_default starts i m n lt

pub cut_more : (n m : ℕ) (starts : List ℕ) → n ≤ m → IsCut n starts → IsCut m starts
cut_more n m starts le cut = record {
  within = λ i lt. let e = within_more starts n m i lt in let w = cut.within i lt in omega (arith, e);
  apart = λ i lt. apart_at i lt (cases_order (i + 1) (length starts));
} where
  apart_at : (i : ℕ) → i < length starts → (i + 1 ≡ length starts) ⊎ ((i + 1 < length starts) ⊎ (length starts < i + 1)) → get_or starts i m < get_or starts (i + 1) m
  apart_at i lt (inl is) = let e = within_more starts n m i lt in let w = cut.within i lt in let p = get_or_past starts (i + 1) m (omega arith) in omega (arith, e, p)
  apart_at i lt (inr (inl more)) = let e = within_more starts n m i lt in let w = cut.apart i lt in let p = within_more starts n m (i + 1) more in omega (arith, e, p)
  apart_at i lt (inr (inr less)) = absurd (omega arith)

-- a place at the end, once there are bytes behind it
pub cut_begun : (n m : ℕ) (starts : List ℕ) → n < m → IsCut n starts → IsCut m (starts ++ n ∷ [])
cut_begun n m starts less cut = record {
  within = λ i lt. within_at i (cases_order i (length starts)) (let len = length-append starts (n ∷ []) in omega (arith, len));
  apart = λ i lt. apart_at i (cases_order (i + 1) (length starts)) (let len = length-append starts (n ∷ []) in omega (arith, len));
} where
  within_at : (i : ℕ) → (i ≡ length starts) ⊎ ((i < length starts) ⊎ (length starts < i)) → i ≤ length starts → get_or (starts ++ n ∷ []) i m < m
  within_at i (inl is) le = let e = get_or_push starts n m i (sym is) in omega (arith, e)
  within_at i (inr (inl lt)) le = let e = get_or_append_left starts (n ∷ []) m i lt in let d = within_more starts n m i lt in let w = cut.within i lt in omega (arith, e, d)
  within_at i (inr (inr gt)) le = absurd (omega arith)

  apart_at : (i : ℕ) → (i + 1 ≡ length starts) ⊎ ((i + 1 < length starts) ⊎ (length starts < i + 1)) → i ≤ length starts → get_or (starts ++ n ∷ []) i m < get_or (starts ++ n ∷ []) (i + 1) m
  apart_at i (inl is) le =
      let e = get_or_append_left starts (n ∷ []) m i (omega arith) in let d = within_more starts n m i (omega arith) in let w = cut.within i (omega arith) in let p = get_or_push starts n m (i + 1) (sym is) in omega (arith, e, d, p)
  apart_at i (inr (inl more)) le =
      let e = get_or_append_left starts (n ∷ []) m i (omega arith) in let d = within_more starts n m i (omega arith) in let w = cut.apart i (omega arith) in
      let p = get_or_append_left starts (n ∷ []) m (i + 1) more in let q = within_more starts n m (i + 1) more in omega (arith, e, d, p, q)
  apart_at i (inr (inr past)) le =
      let e = get_or_push starts n m i (omega arith) in let p = get_or_past (starts ++ n ∷ []) (i + 1) m (let len = length-append starts (n ∷ []) in omega (arith, len)) in omega (arith, e, p)

pub begun_starts : (bytes starts starts' : List ℕ) (at : ℕ) (room : List ℕ) (done : Bool) → room ≡ starts → at ≡ length bytes → starts' ≡ (if done then room ++ at ∷ [] else room) → done ≡ true → starts' ≡ starts ++ length bytes ∷ []
begun_starts bytes starts starts' at room done same here pushed ok = pushed ∙ ap (λ (b : Bool). if b then room ++ at ∷ [] else room) ok ∙ ap₂ (λ (s : List ℕ) (n : ℕ). s ++ n ∷ []) same here

pub begun_cut : (bytes starts bytes' starts' more : List ℕ) → 0 < length more → bytes' ≡ bytes ++ more → starts' ≡ starts ++ length bytes ∷ [] → IsCut (length bytes) starts → IsCut (length bytes') starts'
begun_cut bytes starts bytes' starts' more some grown begun cut =
    subst (λ (s : List ℕ). IsCut (length bytes') s) (sym begun) (cut_begun (length bytes) (length bytes') starts (let len = ap length grown in let parts = length-append bytes more in omega (arith, len, parts)) cut)

pub stop_within : (bytes starts : List ℕ) → IsCut (length bytes) starts → (i : ℕ) → stop_of bytes starts i ≤ length bytes
stop_within bytes starts cut i = by_order (cases_order i (length starts)) where
  by_order : (i ≡ length starts) ⊎ ((i < length starts) ⊎ (length starts < i)) → stop_of bytes starts i ≤ length bytes
  by_order (inl is) = let p = get_or_past starts i (length bytes) (omega arith) in omega (arith, p)
  by_order (inr (inl lt)) = let w = cut.within i lt in omega arith
  by_order (inr (inr gt)) = let p = get_or_past starts i (length bytes) (omega arith) in omega (arith, p)

pub start_before : (bytes starts : List ℕ) → IsCut (length bytes) starts → (i : ℕ) → start_of bytes starts i ≤ stop_of bytes starts i
start_before bytes starts cut zero = omega arith
start_before bytes starts cut (suc i) = by_order (cases_order i (length starts)) where
  next : (k : ℕ) → k ≡ i + 1 → suc i ≡ k
  next k is = omega arith

  by_order : (i ≡ length starts) ⊎ ((i < length starts) ⊎ (length starts < i)) → get_or starts i (length bytes) ≤ get_or starts (suc i) (length bytes)
  by_order (inl is) = let p = get_or_past starts i (length bytes) (omega arith) in let q = get_or_past starts (suc i) (length bytes) (omega arith) in omega (arith, p, q)
  by_order (inr (inl lt)) = let w = cut.apart i lt in let e : get_or starts (suc i) (length bytes) ≡ get_or starts (i + 1) (length bytes) = ap (λ (k : ℕ). get_or starts k (length bytes)) (next (i + 1) refl) in omega (arith, e)
  by_order (inr (inr gt)) = let p = get_or_past starts i (length bytes) (omega arith) in let q = get_or_past starts (suc i) (length bytes) (omega arith) in omega (arith, p, q)

-- a begun piece has bytes
pub begun_has_bytes : (bytes starts : List ℕ) → IsCut (length bytes) starts → (i : ℕ) → i < length starts → start_of bytes starts (suc i) < stop_of bytes starts (suc i)
begun_has_bytes bytes starts cut i lt =
    let w = cut.apart i lt in let e : get_or starts (suc i) (length bytes) ≡ get_or starts (i + 1) (length bytes) = ap (λ (k : ℕ). get_or starts k (length bytes)) (omega arith) in omega (arith, e)

pub grown_le : {T E : Type 0} (r : Result T E) (old new more : List ℕ) → OnOk r (new ≡ old ++ more) → OnErr r (new ≡ old) → length old ≤ length new
grown_le (Ok v) old new more ok err = omega (arith, ap length ok, length-append old more)
grown_le (Err e) old new more ok err = omega (arith, ap length err)
