-- What is among the items of a list.
use Rattle.std.proofs.Common.{◌≡◌, ℕ, ◌==◌, ◌⊎◌, inl, inr, Bool, true, false, ◌||◌, List, [], ◌∷◌, ◌++◌, map, Some, refl, ap, sym, ◌∙◌, subst, ⊎_elim, arith}
use Rattle.std.specs.List.{filter, find, list_any, AllByRecursion}
use Rattle.std.proofs.lemmas.Bool.{cases_Bool, cond-true, cond-false, eqb-true, or_left, or_right}
use Rattle.std.proofs.lemmas.Bool.Decides.{nat_tests}
use Rattle.je_answers.specs.declared.active.Active.{Active}
use Rattle.je_answers.specs.Standing.{active_of}
use Rattle.active_txns.specs.Marks.{HaveOwnSessions}

abbrev pub IsAmong : {X : Type 0} → X → List X → Type 0
IsAmong x [] = ⊥
IsAmong x (y ∷ ys) = (y ≡ x) ⊎ IsAmong x ys

-- ---- tests

or_second : (a b : Bool) → (a || b) ≡ true → a ≡ false → b ≡ true
or_second true b h e = absurd (cc (e))
or_second false b h e = h

pub any_some : {X : Type 0} (p : X → Bool) (xs : List X) → list_any p xs ≡ true → (x : X) × IsAmong x xs × (p x ≡ true)
any_some p [] h = absurd (cc (h))
any_some p (x ∷ xs) h = ⊎_elim
    (λ e. (x, inl refl, e))
    (λ e. let r = any_some p xs (or_second (p x) (list_any p xs) h e) in (r.0, inr r.1, r.2))
    (cases_Bool (p x))

pub any_from : {X : Type 0} (p : X → Bool) (xs : List X) (x : X) → IsAmong x xs → p x ≡ true → list_any p xs ≡ true
any_from p [] x a h = absurd a
any_from p (y ∷ ys) x (inl e) h = or_left (p y) (list_any p ys) (subst (λ z. p z ≡ true) (sym e) h)
any_from p (y ∷ ys) x (inr a) h = or_right (p y) (list_any p ys) (any_from p ys x a h)

pub all_at : {X : Type 0} (P : X → Type 0) (xs : List X) (x : X) → AllByRecursion P xs → IsAmong x xs → P x
all_at P [] x h a = absurd a
all_at P (y ∷ ys) x h (inl e) = subst P e h.0
all_at P (y ∷ ys) x h (inr a) = all_at P ys x h.1 a

pub all_of : {X : Type 0} (P : X → Type 0) (xs : List X) → ((x : X) → IsAmong x xs → P x) → AllByRecursion P xs
all_of P [] f = tt
all_of P (x ∷ xs) f = (f x (inl refl), all_of P xs (λ y a. f y (inr a)))

-- ---- lists made of lists

pub among_map : {X Y : Type 0} (f : X → Y) (xs : List X) (x : X) → IsAmong x xs → IsAmong (f x) (map f xs)
among_map f [] x a = absurd a
among_map f (y ∷ ys) x (inl e) = inl (ap f e)
among_map f (y ∷ ys) x (inr a) = inr (among_map f ys x a)

pub mapped_among : {X Y : Type 0} (f : X → Y) (xs : List X) (y : Y) → IsAmong y (map f xs) → (x : X) × IsAmong x xs × (f x ≡ y)
mapped_among f [] y a = absurd a
mapped_among f (x ∷ xs) y (inl e) = (x, inl refl, e)
mapped_among f (x ∷ xs) y (inr a) = let r = mapped_among f xs y a in (r.0, inr r.1, r.2)

pub among_append : {X : Type 0} (xs ys : List X) (x : X) → IsAmong x (xs ++ ys) → IsAmong x xs ⊎ IsAmong x ys
among_append [] ys x a = inr a
among_append (z ∷ zs) ys x (inl e) = inl (inl e)
among_append (z ∷ zs) ys x (inr a) = ⊎_elim (λ k. inl (inr k)) (λ k. inr k) (among_append zs ys x a)

pub among_first : {X : Type 0} (xs ys : List X) (x : X) → IsAmong x xs → IsAmong x (xs ++ ys)
among_first [] ys x a = absurd a
among_first (z ∷ zs) ys x (inl e) = inl e
among_first (z ∷ zs) ys x (inr a) = inr (among_first zs ys x a)

pub among_second : {X : Type 0} (xs ys : List X) (x : X) → IsAmong x ys → IsAmong x (xs ++ ys)
among_second [] ys x a = a
among_second (z ∷ zs) ys x a = inr (among_second zs ys x a)

pub among_filter : {X : Type 0} (p : X → Bool) (xs : List X) (x : X) → IsAmong x xs → p x ≡ true → IsAmong x (filter p xs)
among_filter p [] x a h = absurd a
among_filter p (y ∷ ys) x (inl e) h = subst (IsAmong x) (sym (cond-true (p y) (y ∷ filter p ys) (filter p ys) (subst (λ z. p z ≡ true) (sym e) h))) (inl e)
among_filter p (y ∷ ys) x (inr a) h = ⊎_elim
    (λ t. subst (IsAmong x) (sym (cond-true (p y) (y ∷ filter p ys) (filter p ys) t)) (inr (among_filter p ys x a h)))
    (λ t. subst (IsAmong x) (sym (cond-false (p y) (y ∷ filter p ys) (filter p ys) t)) (among_filter p ys x a h))
    (cases_Bool (p y))

pub filter_among : {X : Type 0} (p : X → Bool) (xs : List X) (x : X) → IsAmong x (filter p xs) → IsAmong x xs × (p x ≡ true)
filter_among p [] x a = absurd a
filter_among p (y ∷ ys) x a = ⊎_elim
    (λ t. kept t (subst (IsAmong x) (cond-true (p y) (y ∷ filter p ys) (filter p ys) t) a) (filter_among p ys x))
    (λ t. let r = filter_among p ys x (subst (IsAmong x) (cond-false (p y) (y ∷ filter p ys) (filter p ys) t) a) in (inr r.0, r.1))
    (cases_Bool (p y))
  where
    kept : p y ≡ true → IsAmong x (y ∷ filter p ys) → (IsAmong x (filter p ys) → IsAmong x ys × (p x ≡ true)) → IsAmong x (y ∷ ys) × (p x ≡ true)
    kept t (inl e) f = (inl e, subst (λ z. p z ≡ true) e t)
    kept t (inr b) f = let r = f b in (inr r.0, r.1)

-- ---- the first that passes

pub find_some : {X : Type 0} (p : X → Bool) (xs : List X) → list_any p xs ≡ true → (x : X) × (find p xs ≡ Some x)
find_some p [] h = absurd (cc (h))
find_some p (x ∷ xs) h = ⊎_elim
    (λ e. (x, cond-true (p x) (Some x) (find p xs) e))
    (λ e. let r = find_some p xs (or_second (p x) (list_any p xs) h e) in (r.0, cond-false (p x) (Some x) (find p xs) e ∙ r.1))
    (cases_Bool (p x))

some_is : {X : Type 0} (x y : X) → Some x ≡ Some y → x ≡ y
some_is x y e = cc

pub found_is : {X : Type 0} (p : X → Bool) (xs : List X) (x : X) → find p xs ≡ Some x → IsAmong x xs × (p x ≡ true)
found_is p [] x e = absurd (cc (e))
found_is p (y ∷ ys) x e = ⊎_elim
    (λ t. let k = some_is y x (sym (cond-true (p y) (Some y) (find p ys) t) ∙ e) in (inl k, subst (λ z. p z ≡ true) k t))
    (λ f. let r = found_is p ys x (sym (cond-false (p y) (Some y) (find p ys) f) ∙ e) in (inr r.0, r.1))
    (cases_Bool (p y))

-- ---- a session's transaction

same_number : (n : ℕ) → (n == n) ≡ true
same_number n = grind (arith, nat_tests)

pub its_session : (session : ℕ) (as_ : List Active) (a : Active) → active_of session as_ ≡ Some a → IsAmong a as_ × (a.session ≡ session)
its_session session as_ a e = let r = found_is (λ (b : Active). b.session == session) as_ a e in (r.0, eqb-true a.session session r.1)

both_ways : (b : Bool) (P : Type 0) → b ≡ true → b ≡ false → P
both_ways b P t f = absurd (cc (t, f))

pub own_found : (as_ : List Active) (a : Active) → HaveOwnSessions as_ → IsAmong a as_ → active_of a.session as_ ≡ Some a
own_found [] a own k = absurd k
own_found (b ∷ bs) a own (inl e) = cond-true (b.session == a.session) (Some b) (active_of a.session bs) (subst (λ (x : Active). (b.session == x.session) ≡ true) e (same_number b.session)) ∙ ap (λ (x : Active). Some x) e
own_found (b ∷ bs) a own (inr k) = cond-false (b.session == a.session) (Some b) (active_of a.session bs) (turned (all_at (λ (c : Active). (c.session == b.session) ≡ false) bs a own.0 k)) ∙ own_found bs a own.1 k
  where
    turned : (a.session == b.session) ≡ false → (b.session == a.session) ≡ false
    turned h = let k : (b.session == a.session) ≡ (a.session == b.session) = grind (arith, nat_tests) in k ∙ h
