-- A text cut at its first blank.
use Rattle.std.proofs.Common.{◌≡◌, ◌+◌, ℕ, List, [], ◌∷◌, take, drop, Bool, Some, None, position, eqb, arith}
use Rattle.std.proofs.lemmas.List.Splits.{slice_split_first, slice_split_none}
use Rattle.std.proofs.lemmas.List.Sums.{fails_before_first}
use Rattle.script_text.specs.Words.{words_of}
use Rattle.text_lines.proofs.FirstPlaces.{found_at, none_at}

-- a blank
abbrev is_blank : ℕ → Bool
is_blank c = eqb c 32

pub words_cut : (text : List ℕ) (i : ℕ) → position is_blank text ≡ Some i → words_of text ≡ take i text ∷ words_of (drop (i + 1) text)
words_cut text i e =
    let f = found_at is_blank text i e in
    let cut = slice_split_first is_blank text 0 (omega arith) in
    rw f.0 at cut

pub words_whole : (text : List ℕ) → position is_blank text ≡ None → words_of text ≡ text ∷ []
words_whole text e =
    let past = none_at is_blank text e in
    slice_split_none is_blank text (λ k d within. fails_before_first is_blank text k d (omega arith))
