-- What holds of each element of a list.
use Rattle.std.proofs.Common.{◌≡◌, List, [], ◌∷◌, ◌++◌, Bool, true, false, ◌||◌, filter, refl, ap₂}
use Rattle.std.specs.List.{AllByRecursion, list_any}
use Rattle.std.proofs.lemmas.Bool.{or_parts, cond_both}

-- what follows from a fact of each element holds of each
pub all_weaker : {X : Type 0} (P Q : X → Type 0) → ((x : X) → P x → Q x) → (xs : List X) → AllByRecursion P xs → AllByRecursion Q xs
all_weaker P Q weaker [] h = tt
all_weaker P Q weaker (x ∷ xs) h = (weaker x h.0, all_weaker P Q weaker xs h.1)

-- what holds of the elements of two lists holds of those of both
pub all_append : {X : Type 0} (P : X → Type 0) (xs ys : List X) → AllByRecursion P xs → AllByRecursion P ys → AllByRecursion P (xs ++ ys)
all_append P [] ys h k = k
all_append P (x ∷ xs) ys h k = (h.0, all_append P xs ys h.1 k)

-- and of a list with one element more
pub all_push : {X : Type 0} (P : X → Type 0) (xs : List X) (x : X) → AllByRecursion P xs → P x → AllByRecursion P (xs ++ x ∷ [])
all_push P [] x all last = (last, tt)
all_push P (y ∷ xs) x all last = (all.0, all_push P xs x all.1 last)

-- what holds of each element holds of those that a filter keeps
pub all_kept : {X : Type 0} (P : X → Type 0) (p : X → Bool) (xs : List X) → AllByRecursion P xs → AllByRecursion P (filter p xs)
all_kept P p [] h = tt
all_kept P p (x ∷ xs) h =
    let rest = all_kept P p xs h.1 in
    cond_both (p x) (x ∷ filter p xs) (filter p xs) (λ l. AllByRecursion P l) (λ e. (h.0, rest)) (λ e. rest)

-- a filter keeps what passes
pub filter_all_pass : {X : Type 0} (p : X → Bool) (xs : List X) → AllByRecursion (λ x. p x ≡ true) (filter p xs)
filter_all_pass p [] = tt
filter_all_pass p (x ∷ xs) =
    let rest = filter_all_pass p xs in
    cond_both (p x) (x ∷ filter p xs) (filter p xs) (λ l. AllByRecursion (λ y. p y ≡ true) l) (λ e. (e, rest)) (λ e. rest)

-- each element fails a test that none passes
pub none_each : {X : Type 0} (p : X → Bool) (xs : List X) → list_any p xs ≡ false → AllByRecursion (λ x. p x ≡ false) xs
none_each p [] h = tt
none_each p (x ∷ xs) h = let s = or_parts (p x) (list_any p xs) h in (s.0, none_each p xs s.1)

-- and the other way
pub each_none : {X : Type 0} (p : X → Bool) (xs : List X) → AllByRecursion (λ x. p x ≡ false) xs → list_any p xs ≡ false
each_none p [] h = refl
each_none p (x ∷ xs) h = ap₂ (λ a b. a || b) h.0 (each_none p xs h.1)
