-- What a loop over a vector's elements was given.
use Rattle.std.proofs.Common.{◌≡◌, List, [], ◌∷◌, ◌++◌, length, refl, ap, sym, ◌∙◌, arith}
use Rattle.std.specs.Iterator.{Yields}
use Rattle.std.specs.Vec.Iter.{into_iter_items, into_iter_len, into_iter_steps}
use Rattle.std.specs.declared.vec.IntoIter.{IntoIter}
use Rattle.std.proofs.lemmas.List.{append-nil}

none_left : {X : Type 0} (xs : List X) → length xs ≡ 0 → xs ≡ []
none_left [] none = refl
none_left (x ∷ xs) none = absurd (omega (arith, none))

module _ {X Z : Type 0} where
  -- what has come is in front of what is still to come
  pub front_yielded : (xs : List X) (s t : IntoIter X Z) → Yields into_iter_steps s xs t → into_iter_items s ≡ xs ++ into_iter_items t
  front_yielded [] s t yields = ap into_iter_items yields
  front_yielded (x ∷ xs) s t yields = yields.1.0 ∙ ap (λ (l : List X). x ∷ l) (front_yielded xs yields.0 t yields.2)

  -- and all has come where none is
  pub all_yielded : (xs : List X) (s t : IntoIter X Z) → Yields into_iter_steps s xs t → into_iter_len t ≡ 0 → into_iter_items s ≡ xs
  all_yielded xs s t yields none =
      front_yielded xs s t yields ∙ ap (λ (l : List X). xs ++ l) (none_left (into_iter_items t) (sym t.rest.ok.0 ∙ none)) ∙ append-nil xs
