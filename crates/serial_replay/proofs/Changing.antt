-- A change is of one name: the records of another name are as before, and those of its own are the one that is set, or none.
use Rattle.std.proofs.Common.{◌≡◌, ◌⊎◌, inl, inr, Bool, true, false, not, List, [], ◌∷◌, ◌++◌, filter, refl, ap, ap₂, sym, ◌∙◌, subst, ⊎_elim, Ordering, Less, Equal, Greater, is_lt, is_gt, is_eq}
use Rattle.std.specs.List.{AllByRecursion}
use Rattle.std.proofs.lemmas.Bool.{cases_Bool, cond-true, cond-false, both_ways}
use Rattle.je_order.specs.Order.{name_cmp}
use Rattle.je_order.specs.declared.name.Name.{Name}
use Rattle.je_order.proofs.Orderings.{name_exact, equal_from_test}
use Rattle.store_model.specs.declared.kind.Kind.{Kind}
use Rattle.store_model.specs.declared.record_change.RecordChange.{RecordChange}
use Rattle.store_model.specs.declared.record_change.RecordChange.TheVariants.{Set, Unset}
use Rattle.store_model.specs.Store.{Pair, name_of, proper, pair_for, pairs_changed, all_pairs_changed}
use Rattle.store_model.specs.Reads.{at_name}
use Rattle.store_model.specs.Needs.{changed_name}
use Rattle.store_model.proofs.StoreLaws.{name_of-pair_for}
use Rattle.standing_laws.proofs.Among.{IsAmong}
use Rattle.serial_replay.proofs.Rising.{RisesBy, rises_kept, rises_put, same_names, equal_if_same}

-- ---- lists that are kept twice

none_kept : (p q : Pair → Bool) → ((y : Pair) → p y ≡ true → q y ≡ false) → (v : List Pair) → filter p (filter q v) ≡ []
none_kept p q f [] = refl
none_kept p q f (y ∷ v) = ⊎_elim
    (λ e. ap (filter p) (cond-true (q y) (y ∷ filter q v) (filter q v) e) ∙ ⊎_elim
    (λ k. absurd (both_ways (q y) (f y k) e))
    (λ k. cond-false (p y) (y ∷ filter p (filter q v)) (filter p (filter q v)) k ∙ none_kept p q f v)
    (cases_Bool (p y)))
    (λ e. ap (filter p) (cond-false (q y) (y ∷ filter q v) (filter q v) e) ∙ none_kept p q f v)
    (cases_Bool (q y))

same_kept : (p q : Pair → Bool) → ((y : Pair) → p y ≡ true → q y ≡ true) → (v : List Pair) → filter p (filter q v) ≡ filter p v
same_kept p q f [] = refl
same_kept p q f (y ∷ v) = ⊎_elim
    (λ k. ap (filter p) (cond-true (q y) (y ∷ filter q v) (filter q v) (f y k))
    ∙ (cond-true (p y) (y ∷ filter p (filter q v)) (filter p (filter q v)) k ∙ (ap (λ (l : List Pair). y ∷ l) (same_kept p q f v) ∙ sym (cond-true (p y) (y ∷ filter p v) (filter p v) k))))
    (λ k. either k ∙ (same_kept p q f v ∙ sym (cond-false (p y) (y ∷ filter p v) (filter p v) k)))
    (cases_Bool (p y))
  where
    either : p y ≡ false → filter p (filter q (y ∷ v)) ≡ filter p (filter q v)
    either k = ⊎_elim
        (λ e. ap (filter p) (cond-true (q y) (y ∷ filter q v) (filter q v) e) ∙ cond-false (p y) (y ∷ filter p (filter q v)) (filter p (filter q v)) k)
        (λ e. ap (filter p) (cond-false (q y) (y ∷ filter q v) (filter q v) e))
        (cases_Bool (q y))

filter_append : (p : Pair → Bool) (v w : List Pair) → filter p (v ++ w) ≡ filter p v ++ filter p w
filter_append p [] w = refl
filter_append p (y ∷ v) w = ⊎_elim
    (λ e. cond-true (p y) (y ∷ filter p (v ++ w)) (filter p (v ++ w)) e ∙ (ap (λ (l : List Pair). y ∷ l) (filter_append p v w) ∙ ap (λ (l : List Pair). l ++ filter p w) (sym (cond-true (p y) (y ∷ filter p v) (filter p v) e))))
    (λ e. cond-false (p y) (y ∷ filter p (v ++ w)) (filter p (v ++ w)) e ∙ (filter_append p v w ∙ ap (λ (l : List Pair). l ++ filter p w) (sym (cond-false (p y) (y ∷ filter p v) (filter p v) e))))
    (cases_Bool (p y))

-- ---- one change

-- what stands at the name of a change afterwards
abbrev pub made : Kind → RecordChange → List Pair
made kind (Set at value) = pair_for kind at value ∷ []
made kind (Unset at) = []

abbrev is_named : Kind → Name → Pair → Bool
is_named kind x p = is_eq (name_cmp (name_of kind p) x)

name_is : (kind : Kind) (x : Name) (p : Pair) → is_named kind x p ≡ true → name_of kind p ≡ x
name_is kind x p h = name_exact (name_of kind p) x (equal_from_test (name_cmp (name_of kind p) x) h)

-- the name that a change is of in a database of that kind
abbrev pub name_in : Kind → RecordChange → Name
name_in kind c = proper kind (changed_name c)

-- an ordering's tests
less_only : (o : Ordering) → o ≡ Less → (is_lt o ≡ true) × (is_gt o ≡ false) × (not (is_eq o) ≡ true)
less_only o e = (ap is_lt e, ap is_gt e, ap (λ (x : Ordering). not (is_eq x)) e)

greater_only : (o : Ordering) → o ≡ Greater → (is_lt o ≡ false) × (is_gt o ≡ true) × (not (is_eq o) ≡ true)
greater_only o e = (ap is_lt e, ap is_gt e, ap (λ (x : Ordering). not (is_eq x)) e)

equal_only : (o : Ordering) → o ≡ Equal → (is_lt o ≡ false) × (is_gt o ≡ false) × (not (is_eq o) ≡ false)
equal_only o e = (ap is_lt e, ap is_gt e, ap (λ (x : Ordering). not (is_eq x)) e)

-- what a test of the order against a name says of the records of a name
at_order : (kind : Kind) (x n : Name) (test : Ordering → Bool) (b : Bool) → test (name_cmp x n) ≡ b → (p : Pair) → is_named kind x p ≡ true → test (name_cmp (name_of kind p) n) ≡ b
at_order kind x n test b e p h = ap (λ (y : Name). test (name_cmp y n)) (name_is kind x p h) ∙ e

-- its own name
pub changed_there : (kind : Kind) (c : RecordChange) (v : List Pair) → at_name kind (name_in kind c) (pairs_changed kind c v) ≡ made kind c
changed_there kind (Set at value) v =
    let n = proper kind at in
    let e = equal_only (name_cmp n n) (same_names n) in
    let low : Pair → Bool = λ p. is_lt (name_cmp (name_of kind p) n) in
    let high : Pair → Bool = λ p. is_gt (name_cmp (name_of kind p) n) in
    filter_append (is_named kind n) (filter low v) (pair_for kind at value ∷ filter high v)
    ∙ (ap (λ (l : List Pair). l ++ filter (is_named kind n) (pair_for kind at value ∷ filter high v)) (none_kept (is_named kind n) low (at_order kind n n is_lt false e.0) v)
    ∙ (cond-true (is_named kind n (pair_for kind at value)) (pair_for kind at value ∷ filter (is_named kind n) (filter high v)) (filter (is_named kind n) (filter high v))
    (ap is_eq (equal_if_same (name_of kind (pair_for kind at value)) n (name_of-pair_for kind at value)))
    ∙ ap (λ (l : List Pair). pair_for kind at value ∷ l) (none_kept (is_named kind n) high (at_order kind n n is_gt false e.1) v)))
changed_there kind (Unset at) v =
    let n = proper kind at in
    none_kept (is_named kind n) (λ p. not (is_eq (name_cmp (name_of kind p) n))) (at_order kind n n (λ o. not (is_eq o)) false (equal_only (name_cmp n n) (same_names n)).2) v

-- another name
pub unchanged_there : (kind : Kind) (c : RecordChange) (x : Name) (v : List Pair) → (name_in kind c ≡ x → ⊥) → at_name kind x (pairs_changed kind c v) ≡ at_name kind x v
unchanged_there kind (Set at value) x v other = by (name_cmp x n) refl
  where
    n : Name
    n = proper kind at

    low : Pair → Bool
    low p = is_lt (name_cmp (name_of kind p) n)

    high : Pair → Bool
    high p = is_gt (name_cmp (name_of kind p) n)

    new : Pair
    new = pair_for kind at value

    skips : filter (is_named kind x) (new ∷ filter high v) ≡ filter (is_named kind x) (filter high v)
    skips = cond-false (is_named kind x new) (new ∷ filter (is_named kind x) (filter high v)) (filter (is_named kind x) (filter high v)) (⊎_elim
        (λ e. absurd (other (sym (name_of-pair_for kind at value) ∙ name_is kind x new e)))
        (λ e. e)
        (cases_Bool (is_named kind x new)))

    append_none : (l : List Pair) → l ++ [] ≡ l
    append_none [] = refl
    append_none (y ∷ l) = ap (λ (m : List Pair). y ∷ m) (append_none l)

    parts : at_name kind x (pairs_changed kind (Set at value) v) ≡ filter (is_named kind x) (filter low v) ++ filter (is_named kind x) (filter high v)
    parts = filter_append (is_named kind x) (filter low v) (new ∷ filter high v) ∙ ap (λ (l : List Pair). filter (is_named kind x) (filter low v) ++ l) skips

    by : (o : Ordering) → name_cmp x n ≡ o → at_name kind x (pairs_changed kind (Set at value) v) ≡ at_name kind x v
    by Less e = let k = less_only (name_cmp x n) e in
        parts ∙ (ap₂ (λ (a b : List Pair). a ++ b) (same_kept (is_named kind x) low (at_order kind x n is_lt true k.0) v) (none_kept (is_named kind x) high (at_order kind x n is_gt false k.1) v) ∙ append_none (at_name kind x v))
    by Equal e = absurd (other (sym (name_exact x n e)))
    by Greater e = let k = greater_only (name_cmp x n) e in
        parts ∙ ap₂ (λ (a b : List Pair). a ++ b) (none_kept (is_named kind x) low (at_order kind x n is_lt false k.0) v) (same_kept (is_named kind x) high (at_order kind x n is_gt true k.1) v)
unchanged_there kind (Unset at) x v other =
    same_kept (is_named kind x) (λ p. not (is_eq (name_cmp (name_of kind p) (proper kind at)))) (at_order kind x (proper kind at) (λ o. not (is_eq o)) true (unequal (name_cmp x (proper kind at)) refl)) v
  where
    unequal : (o : Ordering) → name_cmp x (proper kind at) ≡ o → not (is_eq (name_cmp x (proper kind at))) ≡ true
    unequal Less e = ap (λ (q : Ordering). not (is_eq q)) e
    unequal Equal e = absurd (other (sym (name_exact x (proper kind at) e)))
    unequal Greater e = ap (λ (q : Ordering). not (is_eq q)) e

-- ---- changes

-- a name is one or another
pub same_or_other : (x y : Name) → (x ≡ y) ⊎ (x ≡ y → ⊥)
same_or_other x y = by (name_cmp x y) refl
  where
    by : (o : Ordering) → name_cmp x y ≡ o → (x ≡ y) ⊎ (x ≡ y → ⊥)
    by Less e = inr (λ h. let k : Less ≡ Equal = sym e ∙ equal_if_same x y h in absurd (cc (k)))
    by Equal e = inl (name_exact x y e)
    by Greater e = inr (λ h. let k : Greater ≡ Equal = sym e ∙ equal_if_same x y h in absurd (cc (k)))

-- records alike at a name stay alike
pub alike_one : (kind : Kind) (c : RecordChange) (x : Name) (v w : List Pair) → at_name kind x v ≡ at_name kind x w → at_name kind x (pairs_changed kind c v) ≡ at_name kind x (pairs_changed kind c w)
alike_one kind c x v w e = ⊎_elim
    (λ k. subst (λ (n : Name). at_name kind n (pairs_changed kind c v) ≡ at_name kind n (pairs_changed kind c w)) k (changed_there kind c v ∙ sym (changed_there kind c w)))
    (λ k. unchanged_there kind c x v k ∙ (e ∙ sym (unchanged_there kind c x w k)))
    (same_or_other (name_in kind c) x)

pub alike : (kind : Kind) (cs : List RecordChange) (x : Name) (v w : List Pair) → at_name kind x v ≡ at_name kind x w → at_name kind x (all_pairs_changed kind cs v) ≡ at_name kind x (all_pairs_changed kind cs w)
alike kind [] x v w e = e
alike kind (c ∷ cs) x v w e = alike kind cs x (pairs_changed kind c v) (pairs_changed kind c w) (alike_one kind c x v w e)

-- a name that none of them is of
abbrev pub IsNoneOf : Kind → Name → List RecordChange → Type 0
IsNoneOf kind x cs = AllByRecursion (λ c. name_in kind c ≡ x → ⊥) cs

pub unchanged : (kind : Kind) (cs : List RecordChange) (x : Name) (v : List Pair) → IsNoneOf kind x cs → at_name kind x (all_pairs_changed kind cs v) ≡ at_name kind x v
unchanged kind [] x v none = refl
unchanged kind (c ∷ cs) x v none = unchanged kind cs x (pairs_changed kind c v) none.1 ∙ unchanged_there kind c x v none.0

-- one of them, or none
pub one_or_none : (kind : Kind) (x : Name) (cs : List RecordChange) → ((c : RecordChange) × IsAmong c cs × (name_in kind c ≡ x)) ⊎ IsNoneOf kind x cs
one_or_none kind x [] = inr tt
one_or_none kind x (c ∷ cs) = by (same_or_other (name_in kind c) x) (one_or_none kind x cs)
  where
    by : (name_in kind c ≡ x) ⊎ (name_in kind c ≡ x → ⊥) → ((d : RecordChange) × IsAmong d cs × (name_in kind d ≡ x)) ⊎ IsNoneOf kind x cs → ((d : RecordChange) × IsAmong d (c ∷ cs) × (name_in kind d ≡ x)) ⊎ IsNoneOf kind x (c ∷ cs)
    by (inl e) rest = inl (c, inl refl, e)
    by (inr e) (inl d) = inl (d.0, inr d.1, d.2)
    by (inr e) (inr none) = inr (e, none)

-- names go on rising
pub rises_one : (kind : Kind) (c : RecordChange) (v : List Pair) → RisesBy (name_of kind) v → RisesBy (name_of kind) (pairs_changed kind c v)
rises_one kind (Set at value) v up = rises_put (name_of kind) (proper kind at) (pair_for kind at value) v (name_of-pair_for kind at value) up
rises_one kind (Unset at) v up = rises_kept (name_of kind) (λ p. not (is_eq (name_cmp (name_of kind p) (proper kind at)))) v up

pub rises_changed : (kind : Kind) (cs : List RecordChange) (v : List Pair) → RisesBy (name_of kind) v → RisesBy (name_of kind) (all_pairs_changed kind cs v)
rises_changed kind [] v up = up
rises_changed kind (c ∷ cs) v up = rises_changed kind cs (pairs_changed kind c v) (rises_one kind c v up)

-- ---- changes one list after another

pub changed_append : (kind : Kind) (cs ds : List RecordChange) (v : List Pair) → all_pairs_changed kind (cs ++ ds) v ≡ all_pairs_changed kind ds (all_pairs_changed kind cs v)
changed_append kind [] ds v = refl
changed_append kind (c ∷ cs) ds v = changed_append kind cs ds (pairs_changed kind c v)
