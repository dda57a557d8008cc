-- Records by their name, and the ends of lists.
use Rattle.std.proofs.Common.{◌≡◌, Bool, true, false, cond, ◌||◌, List, [], ◌∷◌, ◌++◌, None, Some, filter, refl}
use Rattle.std.specs.List.{list_any}
use Rattle.store_model.specs.declared.answer.Answer.TheVariants.{KeyEmpty}
use Rattle.store_model.specs.Store.{Pair}
use Rattle.store_model.specs.Reads.{last_of}
use Rattle.store_model.specs.Records.{empty_if}
use Rattle.record_eval.specs.Looks.{is_there}

-- a record passes a test exactly where the records that pass it are some
one_more : (b : Bool) (x : Pair) (rest : List Pair) (any : Bool) → any ≡ is_there rest → (b || any) ≡ is_there (cond b (x ∷ rest) rest)
one_more true x rest any h = refl
one_more false x rest any h = h

pub any_is_there : (p : Pair → Bool) (xs : List Pair) → list_any p xs ≡ is_there (filter p xs)
any_is_there p [] = refl
any_is_there p (x ∷ xs) = one_more (p x) x (filter p xs) (list_any p xs) (any_is_there p xs)

-- a record that has to be there
pub record_there : (xs : List Pair) → is_there xs ≡ true → None ≡ empty_if true xs
record_there [] h = absurd cc
record_there (x ∷ xs) h = refl

pub record_gone : (xs : List Pair) → is_there xs ≡ false → Some KeyEmpty ≡ empty_if true xs
record_gone [] h = refl
record_gone (x ∷ xs) h = absurd cc

-- the end of a list
pub last_of-push : (xs : List Pair) (p : Pair) → last_of (xs ++ p ∷ []) ≡ p ∷ []
last_of-push [] p = refl
last_of-push (x ∷ []) p = refl
last_of-push (x ∷ y ∷ xs) p = last_of-push (y ∷ xs) p
