-- The last record of a list.
use Rattle.std.proofs.Common.{◌≡◌, List, [], ◌∷◌, Bool, true, cond, filter, refl, ap, sym, ◌∙◌}
use Rattle.store_model.specs.declared.kind.Kind.{Kind}
use Rattle.store_model.specs.Store.{Pair, name_of}
use Rattle.store_model.specs.Reads.{Range, is_within, last_of, seen}
use Rattle.store_model.specs.Reads.Way.{Highest}

has_last : (y : Pair) (ys : List Pair) → [] ≡ last_of (y ∷ ys) → ⊥
has_last y [] h = cc
has_last y (z ∷ ys) h = has_last z ys h

last_alone : (x : Pair) (ys : List Pair) → [] ≡ last_of ys → x ∷ [] ≡ last_of (x ∷ ys)
last_alone x [] h = refl
last_alone x (y ∷ ys) h = absurd (has_last y ys h)

-- where none is behind a record of the range it is the last one
pub last_here : (kind : Kind) (r : Range) (x : Pair) (xs : List Pair) → [] ≡ seen kind Highest r xs → is_within r (name_of kind x) ≡ true →
    x ∷ [] ≡ seen kind Highest r (x ∷ xs)
last_here kind r x xs none is =
    let kept : List Pair = filter (λ p. is_within r (name_of kind p)) xs in
    last_alone x kept none ∙ sym (ap (λ (b : Bool). last_of (cond b (x ∷ kept) kept)) is)
