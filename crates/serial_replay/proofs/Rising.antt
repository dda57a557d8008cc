-- Lists that rise by name: what is among their items tells them apart.
use Rattle.std.proofs.Common.{◌≡◌, ◌⊎◌, inl, inr, Bool, true, false, List, [], ◌∷◌, ◌++◌, filter, find, None, Some, refl, ap, sym, ◌∙◌, subst, ⊎_elim, Ordering, Less, Equal, Greater, is_lt, is_gt}
use Rattle.std.specs.List.{AllByRecursion}
use Rattle.std.specs.List.Sorted.{IsStrictlySortedBy}
use Rattle.std.specs.Ordering.{ordering_reverse, on}
use Rattle.std.proofs.lemmas.Bool.{cases_Bool, cond-true, cond-false, both_ways}
use Rattle.je_order.specs.Order.{name_cmp}
use Rattle.je_order.specs.declared.name.Name.{Name}
use Rattle.je_order.proofs.Orderings.{less_from_test, greater_from_test}
use Rattle.store_model.proofs.StoreLaws.{names_total}
use Rattle.standing_laws.proofs.Among.{IsAmong, all_at, all_of, filter_among}

-- ---- name order

is_less : Less ≡ Equal → ⊥
is_less e = absurd (cc (e))

pub same_names : (x : Name) → name_cmp x x ≡ Equal
same_names x = by (name_cmp x x) (names_total.antisymm x x)
  where
    by : (o : Ordering) → o ≡ ordering_reverse o → o ≡ Equal
    by Less e = absurd (cc (e))
    by Equal e = refl
    by Greater e = absurd (cc (e))

pub equal_if_same : (x y : Name) → x ≡ y → name_cmp x y ≡ Equal
equal_if_same x y e = subst (λ (z : Name). name_cmp x z ≡ Equal) e (same_names x)

pub never_both : (x y : Name) → name_cmp x y ≡ Less → name_cmp y x ≡ Less → ⊥
never_both x y h k = let m : Greater ≡ Less = sym (names_total.antisymm x y ∙ ap ordering_reverse k) ∙ h in absurd (cc (m))

pub never_less : (x : Name) → name_cmp x x ≡ Less → ⊥
never_less x h = is_less (sym h ∙ same_names x)

pub turned_less : (x y : Name) → name_cmp x y ≡ Less → name_cmp y x ≡ Greater
turned_less x y h = names_total.antisymm y x ∙ ap ordering_reverse h

pub turned_greater : (x y : Name) → name_cmp x y ≡ Greater → name_cmp y x ≡ Less
turned_greater x y h = names_total.antisymm y x ∙ ap ordering_reverse h

-- ---- lists that rise

abbrev pub RisesBy : {X : Type 0} → (X → Name) → List X → Type 0
RisesBy key [] = Unit {0}
RisesBy key (x ∷ xs) = AllByRecursion (λ y. name_cmp (key x) (key y) ≡ Less) xs × RisesBy key xs

pub rises : {X : Type 0} (key : X → Name) (xs : List X) → IsStrictlySortedBy (on key name_cmp) xs → RisesBy key xs
unfolding IsStrictlySortedBy
rises key [] h = tt
rises key (x ∷ xs) h = (h.0, rises key xs h.1)

all_kept : {X : Type 0} (P : X → Type 0) (q : X → Bool) (xs : List X) → AllByRecursion P xs → AllByRecursion P (filter q xs)
all_kept P q xs h = all_of P (filter q xs) (λ x a. all_at P xs x h (filter_among q xs x a).0)

pub rises_kept : {X : Type 0} (key : X → Name) (q : X → Bool) (xs : List X) → RisesBy key xs → RisesBy key (filter q xs)
rises_kept key q [] h = tt
rises_kept key q (x ∷ xs) h = ⊎_elim
    (λ e. subst (RisesBy key) (sym (cond-true (q x) (x ∷ filter q xs) (filter q xs) e)) (all_kept (λ y. name_cmp (key x) (key y) ≡ Less) q xs h.0, rises_kept key q xs h.1))
    (λ e. subst (RisesBy key) (sym (cond-false (q x) (x ∷ filter q xs) (filter q xs) e)) (rises_kept key q xs h.1))
    (cases_Bool (q x))

-- the items of one name are one item
pub one_of_name : {X : Type 0} (key : X → Name) (xs : List X) (x y : X) → RisesBy key xs → IsAmong x xs → IsAmong y xs → key x ≡ key y → x ≡ y
one_of_name key [] x y h a b e = absurd a
one_of_name key (z ∷ zs) x y h (inl i) (inl j) e = sym i ∙ j
one_of_name key (z ∷ zs) x y h (inl i) (inr b) e =
    let less = all_at (λ w. name_cmp (key z) (key w) ≡ Less) zs y h.0 b in absurd (is_less (sym less ∙ equal_if_same (key z) (key y) (ap key i ∙ e)))
one_of_name key (z ∷ zs) x y h (inr a) (inl j) e =
    let less = all_at (λ w. name_cmp (key z) (key w) ≡ Less) zs x h.0 a in absurd (is_less (sym less ∙ equal_if_same (key z) (key x) (ap key j ∙ sym e)))
one_of_name key (z ∷ zs) x y h (inr a) (inr b) e = one_of_name key zs x y h.1 a b e

-- the first that passes is the least that passes
pub found_least : {X : Type 0} (key : X → Name) (q : X → Bool) (xs : List X) (p x : X) → RisesBy key xs → find q xs ≡ Some p → IsAmong x xs → q x ≡ true → (p ≡ x) ⊎ (name_cmp (key p) (key x) ≡ Less)
found_least key q [] p x h f a t = absurd a
found_least {X} key q (y ∷ ys) p x h f a t = ⊎_elim
    (λ e. here e (some_is y p (sym (cond-true (q y) (Some y) (find q ys) e) ∙ f)) a)
    (λ e. there e (sym (cond-false (q y) (Some y) (find q ys) e) ∙ f) a (λ k b. found_least key q ys p x h.1 k b t))
    (cases_Bool (q y))
  where
    some_is : (u v : X) → Some u ≡ Some v → u ≡ v
    some_is u v e = cc

    here : q y ≡ true → y ≡ p → IsAmong x (y ∷ ys) → (p ≡ x) ⊎ (name_cmp (key p) (key x) ≡ Less)
    here e k (inl i) = inl (sym k ∙ i)
    here e k (inr b) = inr (ap (λ (z : X). name_cmp (key z) (key x)) (sym k) ∙ all_at (λ w. name_cmp (key y) (key w) ≡ Less) ys x h.0 b)

    there : q y ≡ false → find q ys ≡ Some p → IsAmong x (y ∷ ys) → (find q ys ≡ Some p → IsAmong x ys → (p ≡ x) ⊎ (name_cmp (key p) (key x) ≡ Less)) → (p ≡ x) ⊎ (name_cmp (key p) (key x) ≡ Less)
    there e k (inl i) more = absurd (both_ways (q y) e (ap q i ∙ t))
    there e k (inr b) more = more k b

-- where none is found none passes
pub none_passes : {X : Type 0} (q : X → Bool) (xs : List X) (x : X) → find q xs ≡ None → IsAmong x xs → q x ≡ true → ⊥
none_passes q [] x f a t = absurd a
none_passes q (y ∷ ys) x f a t = ⊎_elim
    (λ e. let k : Some y ≡ None = sym (cond-true (q y) (Some y) (find q ys) e) ∙ f in absurd (cc (k)))
    (λ e. there e (sym (cond-false (q y) (Some y) (find q ys) e) ∙ f) a (λ k b. none_passes q ys x k b t))
    (cases_Bool (q y))
  where
    there : q y ≡ false → find q ys ≡ None → IsAmong x (y ∷ ys) → (find q ys ≡ None → IsAmong x ys → ⊥) → ⊥
    there e k (inl i) more = both_ways (q y) e (ap q i ∙ t)
    there e k (inr b) more = more k b

-- rising lists of the same items are the same
pub same_items : {X : Type 0} (key : X → Name) (xs ys : List X) → RisesBy key xs → RisesBy key ys → ((z : X) → IsAmong z xs → IsAmong z ys) → ((z : X) → IsAmong z ys → IsAmong z xs) → xs ≡ ys
same_items key [] [] h k f g = refl
same_items key [] (y ∷ ys) h k f g = absurd (g y (inl refl))
same_items key (x ∷ xs) [] h k f g = absurd (f x (inl refl))
same_items {X} key (x ∷ xs) (y ∷ ys) h k f g = join first (same_items key xs ys h.1 k.1 (λ z a. onward z a (f z (inr a))) (λ z a. backward z a (g z (inr a))))
  where
    below_x : (z : X) → IsAmong z xs → name_cmp (key x) (key z) ≡ Less
    below_x z a = all_at (λ w. name_cmp (key x) (key w) ≡ Less) xs z h.0 a

    below_y : (z : X) → IsAmong z ys → name_cmp (key y) (key z) ≡ Less
    below_y z a = all_at (λ w. name_cmp (key y) (key w) ≡ Less) ys z k.0 a

    by : IsAmong x (y ∷ ys) → IsAmong y (x ∷ xs) → x ≡ y
    by (inl e) b = sym e
    by (inr a) (inl e) = e
    by (inr a) (inr b) = absurd (never_both (key x) (key y) (below_x y b) (below_y x a))

    first : x ≡ y
    first = by (f x (inl refl)) (g y (inl refl))

    onward : (z : X) → IsAmong z xs → IsAmong z (y ∷ ys) → IsAmong z ys
    onward z a (inl e) = absurd (is_less (sym (below_x z a) ∙ equal_if_same (key x) (key z) (ap key (first ∙ e))))
    onward z a (inr b) = b

    backward : (z : X) → IsAmong z ys → IsAmong z (x ∷ xs) → IsAmong z xs
    backward z a (inl e) = absurd (is_less (sym (below_y z a) ∙ equal_if_same (key y) (key z) (ap key (sym first ∙ e))))
    backward z a (inr b) = b

    join : x ≡ y → xs ≡ ys → x ∷ xs ≡ y ∷ ys
    join e d = cc (e, d)

-- ---- an item put between

pub rises_between : {X : Type 0} (key : X → Name) (x : X) (lower higher : List X) → RisesBy key lower → RisesBy key higher → AllByRecursion (λ y. name_cmp (key y) (key x) ≡ Less) lower
    → AllByRecursion (λ y. name_cmp (key x) (key y) ≡ Less) higher → RisesBy key (lower ++ x ∷ higher)
rises_between key x [] higher low high below above = (above, high)
rises_between {X} key x (y ∷ lower) higher low high below above = (all_parts lower low.0, rises_between key x lower higher low.1 high below.1 above)
  where
    P : X → Type 0
    P = λ z. name_cmp (key y) (key z) ≡ Less

    behind : (zs : List X) → AllByRecursion (λ z. name_cmp (key x) (key z) ≡ Less) zs → AllByRecursion (λ z. name_cmp (key y) (key z) ≡ Less) zs
    behind [] a = tt
    behind (z ∷ zs) a = (names_total.trans (key y) (key x) (key z) below.0 a.0, behind zs a.1)

    all_parts : (zs : List X) → AllByRecursion (λ z. name_cmp (key y) (key z) ≡ Less) zs → AllByRecursion (λ z. name_cmp (key y) (key z) ≡ Less) (zs ++ x ∷ higher)
    all_parts [] a = (below.0, behind higher above)
    all_parts (z ∷ zs) a = (a.0, all_parts zs a.1)

pub all_lower : {X : Type 0} (key : X → Name) (n : Name) (xs : List X) → AllByRecursion (λ y. name_cmp (key y) n ≡ Less) (filter (λ y. is_lt (name_cmp (key y) n)) xs)
all_lower key n xs = all_of (λ y. name_cmp (key y) n ≡ Less) (filter (λ y. is_lt (name_cmp (key y) n)) xs) (λ y a. less_from_test (name_cmp (key y) n) (filter_among (λ y. is_lt (name_cmp (key y) n)) xs y a).1)

pub all_higher : {X : Type 0} (key : X → Name) (n : Name) (xs : List X) → AllByRecursion (λ y. name_cmp n (key y) ≡ Less) (filter (λ y. is_gt (name_cmp (key y) n)) xs)
all_higher key n xs = all_of (λ y. name_cmp n (key y) ≡ Less) (filter (λ y. is_gt (name_cmp (key y) n)) xs)
    (λ y a. turned_greater (key y) n (greater_from_test (name_cmp (key y) n) (filter_among (λ y. is_gt (name_cmp (key y) n)) xs y a).1))

-- an item put where its name belongs, in place of the one of its name
pub rises_put : {X : Type 0} (key : X → Name) (n : Name) (x : X) (xs : List X) → key x ≡ n → RisesBy key xs
    → RisesBy key (filter (λ y. is_lt (name_cmp (key y) n)) xs ++ x ∷ filter (λ y. is_gt (name_cmp (key y) n)) xs)
rises_put {X} key n x xs e h =
    let low : X → Bool = λ y. is_lt (name_cmp (key y) n) in
    let high : X → Bool = λ y. is_gt (name_cmp (key y) n) in
    rises_between key x (filter low xs) (filter high xs) (rises_kept key low xs h) (rises_kept key high xs h)
    (subst (λ (m : Name). AllByRecursion (λ y. name_cmp (key y) m ≡ Less) (filter low xs)) (sym e) (all_lower key n xs))
    (subst (λ (m : Name). AllByRecursion (λ y. name_cmp m (key y) ≡ Less) (filter high xs)) (sym e) (all_higher key n xs))
