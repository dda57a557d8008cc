-- What holds of each element of a list, and what tests find.
use Rattle.std.proofs.Common.{◌≡◌, List, [], ◌∷◌, ◌++◌, Bool, true, false, cond, ◌||◌, Option, None, Some, map, filter, find, option_map, refl, ap, ap₂, sym, ◌∙◌, subst, ⊎_elim}
use Rattle.std.specs.List.{AllByRecursion, list_all, list_any}
use Rattle.std.proofs.lemmas.Bool.{and_parts, and_from, cases_Bool, cond-true, cond-false, true≢false}
use Rattle.std.proofs.lemmas.Option.{none-some, same_Some}
use Rattle.je_order.proofs.Lists.{none_each}
pub use Rattle.log_file.proofs.ListLaws.{all_weaker, all_append}

-- ---- each element

-- each element passes a test that all pass
pub all_true : {X : Type 0} (p : X → Bool) (xs : List X) → list_all p xs ≡ true → AllByRecursion (λ x. p x ≡ true) xs
all_true p [] h = tt
all_true p (x ∷ xs) h = let s = and_parts (p x) (list_all p xs) h in (s.0, all_true p xs s.1)

-- and the other way
pub all_from_true : {X : Type 0} (p : X → Bool) (xs : List X) → AllByRecursion (λ x. p x ≡ true) xs → list_all p xs ≡ true
all_from_true p [] h = refl
all_from_true p (x ∷ xs) h = and_from (p x) (list_all p xs) h.0 (all_from_true p xs h.1)

-- two facts of each element make a third
pub all_both : {X : Type 0} (P Q R : X → Type 0) → ((x : X) → P x → Q x → R x) →
    (xs : List X) → AllByRecursion P xs → AllByRecursion Q xs → AllByRecursion R xs
all_both P Q R both [] h k = tt
all_both P Q R both (x ∷ xs) h k = (both x h.0 k.0, all_both P Q R both xs h.1 k.1)

-- and the other way
pub all_parts : {X : Type 0} (P : X → Type 0) (xs ys : List X) → AllByRecursion P (xs ++ ys) → AllByRecursion P xs × AllByRecursion P ys
all_parts P [] ys h = (tt, h)
all_parts P (x ∷ xs) ys h = let s = all_parts P xs ys h.1 in ((h.0, s.0), s.1)

-- a filter that all pass keeps the list
pub filter-all : {X : Type 0} (p : X → Bool) (xs : List X) → AllByRecursion (λ x. p x ≡ true) xs → filter p xs ≡ xs
filter-all p [] h = refl
filter-all p (x ∷ xs) h = cond-true (p x) (x ∷ filter p xs) (filter p xs) h.0 ∙ ap (λ l. x ∷ l) (filter-all p xs h.1)

-- a filter that none passes keeps nothing
pub filter-none : {X : Type 0} (p : X → Bool) (xs : List X) → AllByRecursion (λ x. p x ≡ false) xs → filter p xs ≡ []
filter-none p [] h = refl
filter-none p (x ∷ xs) h = cond-false (p x) (x ∷ filter p xs) (filter p xs) h.0 ∙ filter-none p xs h.1

-- what holds of each element that a map gives
pub all_of_map : {X Y : Type 0} (f : X → Y) (P : Y → Type 0) (xs : List X) → AllByRecursion P (map f xs) → AllByRecursion (λ x. P (f x)) xs
all_of_map f P [] h = tt
all_of_map f P (x ∷ xs) h = (h.0, all_of_map f P xs h.1)

-- and the other way
pub all_to_map : {X Y : Type 0} (f : X → Y) (P : Y → Type 0) (xs : List X) → AllByRecursion (λ x. P (f x)) xs → AllByRecursion P (map f xs)
all_to_map f P [] h = tt
all_to_map f P (x ∷ xs) h = (h.0, all_to_map f P xs h.1)

-- ---- a map, and tests on what it gives

-- two maps that agree at each element give the same
pub map_same : {X Y : Type 0} (f g : X → Y) (xs : List X) → AllByRecursion (λ x. f x ≡ g x) xs → map f xs ≡ map g xs
map_same f g [] h = refl
map_same f g (x ∷ xs) h = ap₂ (λ y ys. y ∷ ys) h.0 (map_same f g xs h.1)

-- a choice of what is found is mapped after or before
cond_mapped : {X Y : Type 0} (f : X → Y) (b : Bool) (x : X) (o : Option X) → cond b (Some (f x)) (option_map f o) ≡ option_map f (cond b (Some x) o)
cond_mapped f true x o = refl
cond_mapped f false x o = refl

-- a test on what a map gives finds what the test before the map finds
pub find-map : {X Y : Type 0} (f : X → Y) (p : Y → Bool) (q : X → Bool) (xs : List X) →
    AllByRecursion (λ x. p (f x) ≡ q x) xs → find p (map f xs) ≡ option_map f (find q xs)
find-map f p q [] h = refl
find-map f p q (x ∷ xs) h = ap₂ (λ b o. cond b (Some (f x)) o) h.0 (find-map f p q xs h.1) ∙ cond_mapped f (q x) x (find q xs)

-- a choice of what is kept is mapped after or before
cond_listed : {X Y : Type 0} (f : X → Y) (b : Bool) (x : X) (l : List X) → cond b (f x ∷ map f l) (map f l) ≡ map f (cond b (x ∷ l) l)
cond_listed f true x l = refl
cond_listed f false x l = refl

-- and keeps what it keeps
pub filter-map : {X Y : Type 0} (f : X → Y) (p : Y → Bool) (q : X → Bool) (xs : List X) →
    AllByRecursion (λ x. p (f x) ≡ q x) xs → filter p (map f xs) ≡ map f (filter q xs)
filter-map f p q [] h = refl
filter-map f p q (x ∷ xs) h = ap₂ (λ b l. cond b (f x ∷ l) l) h.0 (filter-map f p q xs h.1) ∙ cond_listed f (q x) x (filter q xs)

-- ---- what is found

-- what is found passes the test, and what holds of each element holds of it
pub found : {X : Type 0} (P : X → Type 0) (p : X → Bool) (xs : List X) (x : X) → find p xs ≡ Some x → AllByRecursion P xs → P x × (p x ≡ true)
found P p [] x h all = absurd (none-some x h)
found P p (y ∷ ys) x h all =
    ⊎_elim
    (λ (e : p y ≡ true).
    let same : y ≡ x = same_Some y x (sym (cond-true (p y) (Some y) (find p ys) e) ∙ h) in
    (subst P same all.0, subst (λ z. p z ≡ true) same e))
    (λ (e : p y ≡ false). found P p ys x (sym (cond-false (p y) (Some y) (find p ys) e) ∙ h) all.1)
    (cases_Bool (p y))

-- where nothing is found, each element fails the test
pub none_found : {X : Type 0} (p : X → Bool) (xs : List X) → find p xs ≡ None → AllByRecursion (λ x. p x ≡ false) xs
none_found p [] h = tt
none_found p (y ∷ ys) h =
    ⊎_elim
    (λ (e : p y ≡ true). absurd (none-some y (sym h ∙ cond-true (p y) (Some y) (find p ys) e)))
    (λ (e : p y ≡ false). (e, none_found p ys (sym (cond-false (p y) (Some y) (find p ys) e) ∙ h)))
    (cases_Bool (p y))

-- an element that is found passes another test, so some element does
pub any_found : {X : Type 0} (p q : X → Bool) (xs : List X) (x : X) → find p xs ≡ Some x → q x ≡ true → list_any q xs ≡ true
any_found p q xs x h passes =
    ⊎_elim
    (λ (e : list_any q xs ≡ true). e)
    (λ (e : list_any q xs ≡ false). absurd (true≢false (sym passes ∙ (found (λ y. q y ≡ false) p xs x h (none_each q xs e)).0)))
    (cases_Bool (list_any q xs))

-- some element that a map gives passes where some element passes before it
pub list_any-map : {X Y : Type 0} (f : X → Y) (p : Y → Bool) (xs : List X) → list_any p (map f xs) ≡ list_any (λ x. p (f x)) xs
list_any-map f p [] = refl
list_any-map f p (x ∷ xs) = ap (λ b. p (f x) || b) (list_any-map f p xs)

-- where no element passes, none is found
pub none_found_in : {X : Type 0} (p : X → Bool) (xs : List X) → AllByRecursion (λ x. p x ≡ false) xs → find p xs ≡ None
none_found_in p [] h = refl
none_found_in p (x ∷ xs) h = cond-false (p x) (Some x) (find p xs) h.0 ∙ none_found_in p xs h.1

-- a map of a map
pub map-map : {X Y Z : Type 0} (f : Y → Z) (g : X → Y) (xs : List X) → map f (map g xs) ≡ map (λ x. f (g x)) xs
map-map f g [] = refl
map-map f g (x ∷ xs) = ap (λ l. f (g x) ∷ l) (map-map f g xs)
