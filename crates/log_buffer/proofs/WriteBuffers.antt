-- What the write buffer has for each file, as it grows.
use Rattle.std.proofs.Common.{◌≡◌, ◌≢◌, ℕ, zero, suc, ◌+◌, ◌-◌, ◌<◌, ◌≤◌, ◌⊎◌, inl, inr, List, [], ◌∷◌, ◌++◌, length, take, drop, get_or, refl, sym, ap, ap₂, ◌∙◌, arith, length-append}
use Rattle.std.specs.Prelude.{slice_range, nat_le, if◌then◌else◌, true, false, Bool, ◌==◌}
use Rattle.std.proofs.lemmas.List.{get_or_default, get_or_past, get_or_append_left, get_or_push, take_all, take-append-le, drop-append-le}
use Rattle.std.proofs.lemmas.Slice.{between_is}
use Rattle.std.proofs.lemmas.Bool.{cases_order}
use Rattle.std.proofs.lemmas.Bool.{eqb-true}
use Rattle.std.proofs.lemmas.List.{length-drop, length-take}
use Rattle.log_buffer.specs.WriteBuffer.{start_of, stop_of, piece_of, bytes_for, first_for}
use Rattle.log_buffer.proofs.WriteBufferPieces.{IsCut, stop_within, start_before, begun_has_bytes}

-- a piece of the bytes is the same piece of more bytes
piece_in_front : (bytes more : List ℕ) (s e : ℕ) → e ≤ length bytes → slice_range bytes s e ≡ slice_range (bytes ++ more) s e
piece_in_front bytes more s e le = between_is bytes s e ∙ ap (drop s) (sym (take-append-le e bytes more le)) ∙ sym (between_is (bytes ++ more) s e)

-- to their end it is what is left out of their front
piece_to_end : (bytes : List ℕ) (s : ℕ) → slice_range bytes s (length bytes) ≡ drop s bytes
piece_to_end bytes s = between_is bytes s (length bytes) ∙ ap (drop s) (take_all (length bytes) bytes (omega arith))

-- and grows by what is put behind them
piece_grown : (bytes more : List ℕ) (s : ℕ) → s ≤ length bytes → slice_range (bytes ++ more) s (length (bytes ++ more)) ≡ slice_range bytes s (length bytes) ++ more
piece_grown bytes more s le =
    piece_to_end (bytes ++ more) s ∙ drop-append-le s bytes more le ∙ ap (λ (x : List ℕ). x ++ more) (sym (piece_to_end bytes s))

-- a range with nothing between
none_between : (bytes : List ℕ) (s : ℕ) → slice_range bytes s s ≡ []
none_between bytes s = ap (λ (n : ℕ). take n (drop s bytes)) (let e : s - s ≡ 0 = omega arith in e)

range_is : (bytes : List ℕ) (s t u v : ℕ) → s ≡ t → u ≡ v → slice_range bytes s u ≡ slice_range bytes t v
range_is bytes s t u v p q = ap₂ (λ (a b : ℕ). slice_range bytes a b) p q

-- the last place at which pieces begin is behind all bytes
start_past : (bytes starts : List ℕ) (i : ℕ) → length starts < i → start_of bytes starts i ≡ length bytes
start_past bytes starts zero gt = absurd (omega arith)
start_past bytes starts (suc i) gt = get_or_past starts i (length bytes) (omega arith)

pub piece_past : (bytes starts : List ℕ) (i : ℕ) → length starts < i → piece_of bytes starts i ≡ []
piece_past bytes starts i gt =
    range_is bytes (start_of bytes starts i) (length bytes) (stop_of bytes starts i) (length bytes) (start_past bytes starts i gt) (get_or_past starts i (length bytes) (omega arith))
    ∙ none_between bytes (length bytes)

-- pieces that begin within the bytes begin there still when the bytes grow
start_same : (bytes more starts : List ℕ) (i : ℕ) → i ≤ length starts → start_of (bytes ++ more) starts i ≡ start_of bytes starts i
start_same bytes more starts zero le = refl
start_same bytes more starts (suc i) le = get_or_default starts i (length (bytes ++ more)) (length bytes) (omega arith)

-- the last piece grows
pub piece_push : (bytes more starts : List ℕ) → IsCut (length bytes) starts → (i : ℕ) → i ≡ length starts → piece_of (bytes ++ more) starts i ≡ piece_of bytes starts i ++ more
piece_push bytes more starts cut i is =
    let p : stop_of (bytes ++ more) starts i ≡ length (bytes ++ more) = get_or_past starts i (length (bytes ++ more)) (omega arith) in
    let q : stop_of bytes starts i ≡ length bytes = get_or_past starts i (length bytes) (omega arith) in
    let a = start_before bytes starts cut i in
    range_is (bytes ++ more) _ _ _ _ (start_same bytes more starts i (omega arith)) p
    ∙ piece_grown bytes more (start_of bytes starts i) (omega (arith, q))
    ∙ ap (λ (n : ℕ). slice_range bytes (start_of bytes starts i) n ++ more) (sym q)

-- the others stay
pub piece_same : (bytes more starts : List ℕ) → IsCut (length bytes) starts → (i : ℕ) → i < length starts → piece_of (bytes ++ more) starts i ≡ piece_of bytes starts i
piece_same bytes more starts cut i lt =
    range_is (bytes ++ more) _ _ _ _ (start_same bytes more starts i (omega arith)) (get_or_default starts i (length (bytes ++ more)) (length bytes) lt)
    ∙ sym (piece_in_front bytes more (start_of bytes starts i) (stop_of bytes starts i) (stop_within bytes starts cut i))

-- a piece that begins has what was pushed, and the others stay
stop_begun : (bytes more starts : List ℕ) (i : ℕ) → i ≤ length starts → stop_of (bytes ++ more) (starts ++ length bytes ∷ []) i ≡ stop_of bytes starts i
stop_begun bytes more starts i le = by_order (cases_order i (length starts)) where
  by_order : (i ≡ length starts) ⊎ ((i < length starts) ⊎ (length starts < i)) → stop_of (bytes ++ more) (starts ++ length bytes ∷ []) i ≡ stop_of bytes starts i
  by_order (inl is) = get_or_push starts (length bytes) (length (bytes ++ more)) i (omega arith) ∙ sym (get_or_past starts i (length bytes) (omega arith))
  by_order (inr (inl lt)) = get_or_append_left starts (length bytes ∷ []) (length (bytes ++ more)) i lt ∙ get_or_default starts i (length (bytes ++ more)) (length bytes) lt
  by_order (inr (inr gt)) = absurd (omega arith)

start_begun : (bytes more starts : List ℕ) (i : ℕ) → i ≤ length starts → start_of (bytes ++ more) (starts ++ length bytes ∷ []) i ≡ start_of bytes starts i
start_begun bytes more starts zero le = refl
start_begun bytes more starts (suc i) le = get_or_append_left starts (length bytes ∷ []) (length (bytes ++ more)) i (omega arith) ∙ get_or_default starts i (length (bytes ++ more)) (length bytes) (omega arith)

pub piece_kept : (bytes more starts : List ℕ) → IsCut (length bytes) starts → (i : ℕ) → i ≤ length starts → piece_of (bytes ++ more) (starts ++ length bytes ∷ []) i ≡ piece_of bytes starts i
piece_kept bytes more starts cut i le =
    range_is (bytes ++ more) _ _ _ _ (start_begun bytes more starts i le) (stop_begun bytes more starts i le)
    ∙ sym (piece_in_front bytes more (start_of bytes starts i) (stop_of bytes starts i) (stop_within bytes starts cut i))

pub piece_begun : (bytes more starts : List ℕ) (i : ℕ) → i ≡ length starts + 1 → piece_of (bytes ++ more) (starts ++ length bytes ∷ []) i ≡ more
piece_begun bytes more starts zero is = absurd (omega arith)
piece_begun bytes more starts (suc i) is =
    let p : stop_of (bytes ++ more) (starts ++ length bytes ∷ []) (suc i) ≡ length (bytes ++ more) = get_or_past (starts ++ length bytes ∷ []) (suc i) (length (bytes ++ more)) (omega (arith, length-append starts (length bytes ∷ []))) in
    let s : start_of (bytes ++ more) (starts ++ length bytes ∷ []) (suc i) ≡ length bytes = get_or_push starts (length bytes) (length (bytes ++ more)) i (omega arith) in
    range_is (bytes ++ more) _ _ _ _ s p
    ∙ piece_grown bytes more (length bytes) (omega arith)
    ∙ ap (λ (x : List ℕ). x ++ more) (none_between bytes (length bytes))

-- ---- by the file

le_true : (a b : ℕ) → a ≤ b → nat_le a b ≡ true
le_true a b le = grind arith

le_false : (a b : ℕ) → b < a → nat_le a b ≡ false
le_false a b lt = grind arith

pub bytes_for_from : (bytes starts : List ℕ) (last f i : ℕ) → length starts ≤ last → f + length starts ≡ last + i → bytes_for bytes starts last f ≡ piece_of bytes starts i
bytes_for_from bytes starts last f i le is =
    ap (λ (b : Bool). if b then piece_of bytes starts (f - (last - length starts)) else []) (le_true (last - length starts) f (omega arith))
    ∙ ap (piece_of bytes starts) (let e : f - (last - length starts) ≡ i = omega arith in e)

pub bytes_for_below : (bytes starts : List ℕ) (last f : ℕ) → length starts ≤ last → f + length starts < last → bytes_for bytes starts last f ≡ []
bytes_for_below bytes starts last f le lt =
    ap (λ (b : Bool). if b then piece_of bytes starts (f - (last - length starts)) else []) (le_false (last - length starts) f (omega arith))

pub bytes_for_above : (bytes starts : List ℕ) (last f : ℕ) → length starts ≤ last → last < f → bytes_for bytes starts last f ≡ []
bytes_for_above bytes starts last f le lt =
    bytes_for_from bytes starts last f (f + length starts - last) le (omega arith) ∙ piece_past bytes starts (f + length starts - last) (omega arith)

-- a push adds to the last file's bytes alone
pub push_last : (bytes more starts : List ℕ) (last : ℕ) → length starts ≤ last → IsCut (length bytes) starts → bytes_for (bytes ++ more) starts last last ≡ bytes_for bytes starts last last ++ more
push_last bytes more starts last le cut =
    bytes_for_from (bytes ++ more) starts last last (length starts) le refl
    ∙ piece_push bytes more starts cut (length starts) refl
    ∙ ap (λ (x : List ℕ). x ++ more) (sym (bytes_for_from bytes starts last last (length starts) le refl))

pub push_other : (bytes more starts : List ℕ) (last f : ℕ) → length starts ≤ last → IsCut (length bytes) starts → f ≢ last → bytes_for (bytes ++ more) starts last f ≡ bytes_for bytes starts last f
push_other bytes more starts last f le cut other = by_order (cases_order (f + length starts) last) (cases_order f last) where
  inside : last ≤ f + length starts → f < last → bytes_for (bytes ++ more) starts last f ≡ bytes_for bytes starts last f
  inside from below =
      bytes_for_from (bytes ++ more) starts last f (f + length starts - last) le (omega arith)
      ∙ piece_same bytes more starts cut (f + length starts - last) (omega arith)
      ∙ sym (bytes_for_from bytes starts last f (f + length starts - last) le (omega arith))

  by_order : (f + length starts ≡ last) ⊎ ((f + length starts < last) ⊎ (last < f + length starts)) → (f ≡ last) ⊎ ((f < last) ⊎ (last < f)) → bytes_for (bytes ++ more) starts last f ≡ bytes_for bytes starts last f
  by_order (inr (inl lt)) w = bytes_for_below (bytes ++ more) starts last f le lt ∙ sym (bytes_for_below bytes starts last f le lt)
  by_order v (inl is) = absurd (other is)
  by_order v (inr (inr gt)) = bytes_for_above (bytes ++ more) starts last f le gt ∙ sym (bytes_for_above bytes starts last f le gt)
  by_order (inl is) (inr (inl lt)) = inside (omega arith) lt
  by_order (inr (inr gt)) (inr (inl lt)) = inside (omega arith) lt

-- a next file begins with what was pushed, and the others keep their bytes
pub begin_next : (bytes more starts : List ℕ) (last next : ℕ) → length starts ≤ last → next ≡ last + 1 → bytes_for (bytes ++ more) (starts ++ length bytes ∷ []) next next ≡ more
begin_next bytes more starts last next le is =
    let n = length-append starts (length bytes ∷ []) in
    bytes_for_from (bytes ++ more) (starts ++ length bytes ∷ []) next next (length starts + 1) (omega (arith, n)) (omega (arith, n))
    ∙ piece_begun bytes more starts (length starts + 1) refl

pub begin_other : (bytes more starts : List ℕ) (last next f : ℕ) → length starts ≤ last → next ≡ last + 1 → IsCut (length bytes) starts → f ≢ next → bytes_for (bytes ++ more) (starts ++ length bytes ∷ []) next f ≡ bytes_for bytes starts last f
begin_other bytes more starts last next f le is cut other = by_order (cases_order (f + length starts) last) (cases_order f next) where
  n : length (starts ++ length bytes ∷ []) ≡ length starts + 1
  n = length-append starts (length bytes ∷ [])

  inside : last ≤ f + length starts → f < next → bytes_for (bytes ++ more) (starts ++ length bytes ∷ []) next f ≡ bytes_for bytes starts last f
  inside from below =
      bytes_for_from (bytes ++ more) (starts ++ length bytes ∷ []) next f (f + length starts - last) (omega (arith, n)) (omega (arith, n))
      ∙ piece_kept bytes more starts cut (f + length starts - last) (omega arith)
      ∙ sym (bytes_for_from bytes starts last f (f + length starts - last) le (omega arith))

  by_order : (f + length starts ≡ last) ⊎ ((f + length starts < last) ⊎ (last < f + length starts)) → (f ≡ next) ⊎ ((f < next) ⊎ (next < f)) → bytes_for (bytes ++ more) (starts ++ length bytes ∷ []) next f ≡ bytes_for bytes starts last f
  by_order (inr (inl lt)) w = bytes_for_below (bytes ++ more) (starts ++ length bytes ∷ []) next f (omega (arith, n)) (omega (arith, n)) ∙ sym (bytes_for_below bytes starts last f le lt)
  by_order v (inl same) = absurd (other same)
  by_order v (inr (inr gt)) = bytes_for_above (bytes ++ more) (starts ++ length bytes ∷ []) next f (omega (arith, n)) gt ∙ sym (bytes_for_above bytes starts last f le (omega arith))
  by_order (inl same) (inr (inl lt)) = inside (omega arith) lt
  by_order (inr (inr gt)) (inr (inl lt)) = inside (omega arith) lt

-- no bytes at all
pub bytes_for_none : (last f : ℕ) → bytes_for [] [] last f ≡ []
bytes_for_none last f = by_order (cases_order f last) where
  by_order : (f ≡ last) ⊎ ((f < last) ⊎ (last < f)) → bytes_for [] [] last f ≡ []
  by_order (inl is) = bytes_for_from [] [] last f 0 (omega arith) (omega arith)
  by_order (inr (inl lt)) = bytes_for_below [] [] last f (omega arith) (omega arith)
  by_order (inr (inr gt)) = bytes_for_above [] [] last f (omega arith) gt

-- one piece alone
no_cut : (n : ℕ) → IsCut n []
no_cut n = record { within = λ i lt. absurd (omega arith); apart = λ i lt. absurd (omega arith) }

pub alone_last : (bytes : List ℕ) (last : ℕ) → bytes_for bytes [] last last ≡ bytes
alone_last bytes last = push_last [] bytes [] last (omega arith) (no_cut 0) ∙ ap (λ (x : List ℕ). x ++ bytes) (bytes_for_none last last)

pub alone_other : (bytes : List ℕ) (last f : ℕ) → f ≢ last → bytes_for bytes [] last f ≡ []
alone_other bytes last f apart = push_other [] bytes [] last f (omega arith) (no_cut 0) apart ∙ bytes_for_none last f

-- ---- the file of the first byte

pub first_for_le : (starts : List ℕ) (last : ℕ) → length starts ≤ last → first_for starts (last - length starts) ≤ last
first_for_le [] last le = omega arith
first_for_le (s ∷ starts) last le = by_case (s == 0) where
  by_case : (b : Bool) → (if b then last - length (s ∷ starts) + 1 else last - length (s ∷ starts)) ≤ last
  by_case true = omega arith
  by_case false = omega arith

-- the files below it have no bytes
pub none_below : (bytes starts : List ℕ) (last f : ℕ) → length starts ≤ last → f < first_for starts (last - length starts) → bytes_for bytes starts last f ≡ []
none_below bytes [] last f le lt = bytes_for_below bytes [] last f le (omega arith)
none_below bytes (s ∷ starts) last f le lt = by_case (s == 0) refl lt (cases_order (f + length (s ∷ starts)) last) where
  by_case : (b : Bool) → (s == 0) ≡ b → f < (if b then last - length (s ∷ starts) + 1 else last - length (s ∷ starts)) → (f + length (s ∷ starts) ≡ last) ⊎ ((f + length (s ∷ starts) < last) ⊎ (last < f + length (s ∷ starts)))
      → bytes_for bytes (s ∷ starts) last f ≡ []
  by_case b is below (inr (inl less)) = bytes_for_below bytes (s ∷ starts) last f le less
  by_case b is below (inr (inr more)) = absurd (past b below more)
    where
      past : (t : Bool) → f < (if t then last - length (s ∷ starts) + 1 else last - length (s ∷ starts)) → last < f + length (s ∷ starts) → ⊥
      past true a c = omega arith
      past false a c = omega arith
  by_case true is below (inl same) =
      bytes_for_from bytes (s ∷ starts) last f 0 le (omega arith) ∙ ap (λ (n : ℕ). slice_range bytes 0 n) (eqb-true s 0 is)
  by_case false is below (inl same) = absurd (omega arith)

pub first_or_below : (starts : List ℕ) (first f : ℕ) → f < first_for starts first → f ≢ first ⊎ (first_for starts first ≢ first)
first_or_below starts first f lt = by_order (cases_order f first) where
  by_order : (f ≡ first) ⊎ ((f < first) ⊎ (first < f)) → f ≢ first ⊎ (first_for starts first ≢ first)
  by_order (inl is) = inr (λ same. absurd (omega (arith, is, same)))
  by_order (inr (inl less)) = inl (λ is. absurd (omega (arith, is)))
  by_order (inr (inr more)) = inl (λ is. absurd (omega (arith, is)))

-- a file that begins in the write buffer has bytes there
pub begun_some : (bytes starts : List ℕ) → IsCut (length bytes) starts → (i : ℕ) → i < length starts → piece_of bytes starts (suc i) ≡ [] → ⊥
begun_some bytes starts cut i lt none =
    let some = begun_has_bytes bytes starts cut i lt in
    let le = stop_within bytes starts cut (suc i) in
    let len = ap length none in
    let size = length-take (stop_of bytes starts (suc i) - start_of bytes starts (suc i)) (drop (start_of bytes starts (suc i)) bytes) in
    let rest = length-drop (start_of bytes starts (suc i)) bytes in
    omega (arith, len, size, rest)

pub some_first : (starts : List ℕ) → (get_or starts 0 1 == 0) ≡ true → 0 < length starts
some_first [] is = absurd cc
some_first (s ∷ starts) is = omega arith

-- ---- a write buffer whose first byte is for the file at whose end it begins

pub first_for_same : (starts : List ℕ) (first : ℕ) → (get_or starts 0 1 == 0) ≡ false → first_for starts first ≡ first
first_for_same starts first not = ap (λ (b : Bool). if b then first + 1 else first) not

-- where it has no bytes for that file it has none at all
pub only_last : (bytes starts : List ℕ) (last : ℕ) → length starts ≤ last → IsCut (length bytes) starts → (get_or starts 0 1 == 0) ≡ false → bytes_for bytes starts last (last - length starts) ≡ [] → last - length starts ≡ last
only_last bytes [] last le cut not none = omega arith
only_last bytes (zero ∷ starts) last le cut not none = absurd cc
only_last bytes (suc s ∷ starts) last le cut not none =
    let some = cut.within 0 (omega arith) in
    let len = ap length (sym (bytes_for_from bytes (suc s ∷ starts) last (last - length (suc s ∷ starts)) 0 le (omega arith)) ∙ none) in
    let size = length-take (suc s - 0) (drop 0 bytes) in
    absurd (omega (arith, len, size))
