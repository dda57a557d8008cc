-- A text cut at its first line feed.
use Rattle.std.proofs.Common.{◌≡◌, ◌<◌, ◌≤◌, ◌+◌, ℕ, suc, List, [], ◌∷◌, length, take, drop, Bool, true, false, Some, None, position, eqb, refl, ap, arith}
use Rattle.std.specs.List.{onto_first, position_or_len}
use Rattle.text_lines.specs.Lines.{text_lines}
use Rattle.text_lines.proofs.FirstPlaces.{found_at, none_at}

abbrev is_feed : ℕ → Bool
is_feed c = eqb c 10

lines_step : (x : ℕ) (xs : List ℕ) (b : Bool) → is_feed x ≡ b → (position_or_len is_feed xs < length xs → text_lines xs ≡ take (position_or_len is_feed xs) xs ∷ text_lines (drop (suc (position_or_len is_feed xs)) xs)) →
    position_or_len is_feed (x ∷ xs) < length (x ∷ xs) → text_lines (x ∷ xs) ≡ take (position_or_len is_feed (x ∷ xs)) (x ∷ xs) ∷ text_lines (drop (suc (position_or_len is_feed (x ∷ xs))) (x ∷ xs))
lines_step x xs true e others within = rw e refl
lines_step x xs false e others within =
    let next : 1 + position_or_len is_feed xs ≡ suc (position_or_len is_feed xs) = omega arith in
    let inside = rw e at within in
    rw (e, next) (ap (onto_first x) (others (omega arith)))

lines_at : (xs : List ℕ) → position_or_len is_feed xs < length xs → text_lines xs ≡ take (position_or_len is_feed xs) xs ∷ text_lines (drop (suc (position_or_len is_feed xs)) xs)
lines_at [] within = absurd (omega arith)
lines_at (x ∷ xs) within = lines_step x xs (is_feed x) refl (lines_at xs) within

pub lines_cut : (text : List ℕ) (i : ℕ) → position is_feed text ≡ Some i → text_lines text ≡ take i text ∷ text_lines (drop (i + 1) text)
lines_cut text i e =
    let f = found_at is_feed text i e in
    let more : suc i ≡ i + 1 = omega arith in
    let cut = lines_at text (omega arith) in
    rw (f.0, more) at cut

whole_step : (x : ℕ) (xs : List ℕ) (b : Bool) → is_feed x ≡ b → (length xs ≤ position_or_len is_feed xs → 0 < length xs → text_lines xs ≡ xs ∷ []) →
    length (x ∷ xs) ≤ position_or_len is_feed (x ∷ xs) → text_lines (x ∷ xs) ≡ (x ∷ xs) ∷ []
whole_step x xs true e others past = let past' = rw e at past in absurd (omega arith)
whole_step x [] false e others past = rw e refl
whole_step x (y ∷ ys) false e others past = let past' = rw e at past in rw e (ap (onto_first x) (others (omega arith) (omega arith)))

lines_past : (xs : List ℕ) → length xs ≤ position_or_len is_feed xs → 0 < length xs → text_lines xs ≡ xs ∷ []
lines_past [] past some = absurd (omega arith)
lines_past (x ∷ xs) past some = whole_step x xs (is_feed x) refl (lines_past xs) past

pub lines_whole : (text : List ℕ) → position is_feed text ≡ None → 0 < length text → text_lines text ≡ text ∷ []
lines_whole text e some = lines_past text (none_at is_feed text e) some
