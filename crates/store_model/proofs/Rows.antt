-- What each name finds among records, and after a change of them.
use Rattle.std.proofs.Common.{◌≡◌, ℕ, List, [], ◌∷◌, ◌++◌, Bool, true, false, cond, not, Option, None, Some, filter, find, refl, ap, ap₂, sym, ◌∙◌, subst, Ordering, Less, Equal, Greater, is_lt, is_gt, is_eq}
use Rattle.std.specs.List.{AllByRecursion}
use Rattle.std.specs.List.Sorted.{IsStrictlySortedBy}
use Rattle.std.specs.Ordering.{ordering_reverse}
use Rattle.std.proofs.lemmas.Bool.{both_ways, cond-true, cond-false}
use Rattle.std.proofs.lemmas.Option.{none-some, same_Some}
use Rattle.je_order.specs.Order.{name_cmp}
use Rattle.je_order.specs.declared.name.Name.{Name}
use Rattle.je_order.proofs.Orderings.{equal_from_test, name_exact}
use Rattle.store_model.specs.declared.kind.Kind.{Kind}
use Rattle.store_model.specs.declared.record_change.RecordChange.{RecordChange}
use Rattle.store_model.specs.declared.record_change.RecordChange.TheVariants.{Set, Unset}
use Rattle.store_model.specs.Store.{Pair, name_of, proper, pair_for, HasRisingNames, pairs_with, pairs_without, pairs_changed, all_pairs_changed, changed_name}
use Rattle.store_model.proofs.StoreLaws.{names_total, name_of-pair_for, names_set, names_unset}

-- ---- names

abbrev pub is_name : Name → Name → Bool
is_name a b = is_eq (name_cmp a b)

its_own_reverse : (o : Ordering) → o ≡ ordering_reverse o → o ≡ Equal
its_own_reverse Less h = cc
its_own_reverse Equal h = refl
its_own_reverse Greater h = cc

same_equal : (n : Name) → name_cmp n n ≡ Equal
same_equal n = its_own_reverse (name_cmp n n) (names_total.antisymm n n)

pub name_itself : (n : Name) → is_name n n ≡ true
name_itself n = ap is_eq (same_equal n)

pub name_is : (a b : Name) → is_name a b ≡ true → a ≡ b
name_is a b h = name_exact a b (equal_from_test (name_cmp a b) h)

-- ---- looking

found_in_front : {X : Type 0} (test : X → Bool) (xs ys : List X) (x : X) → find test xs ≡ Some x → find test (xs ++ ys) ≡ Some x
found_in_front test [] ys x h = absurd (none-some x h)
found_in_front {X} test (y ∷ xs) ys x h = by (test y) (found_in_front test xs ys x) h
  where
    by : (b : Bool) → (find test xs ≡ Some x → find test (xs ++ ys) ≡ Some x) → cond b (Some y) (find test xs) ≡ Some x → cond b (Some y) (find test (xs ++ ys)) ≡ Some x
    by true rest k = k
    by false rest k = rest k

found_behind : {X : Type 0} (test : X → Bool) (xs ys : List X) → find test xs ≡ None → find test (xs ++ ys) ≡ find test ys
found_behind test [] ys h = refl
found_behind {X} test (y ∷ xs) ys h = by (test y) (found_behind test xs ys) h
  where
    by : (b : Bool) → (find test xs ≡ None → find test (xs ++ ys) ≡ find test ys) → cond b (Some y) (find test xs) ≡ None → cond b (Some y) (find test (xs ++ ys)) ≡ find test ys
    by true rest k = absurd (none-some y (sym k))
    by false rest k = rest k

-- a filter that keeps all that pass, and one that keeps none of them
found_kept : {X : Type 0} (test keep : X → Bool) → ((x : X) → test x ≡ true → keep x ≡ true) → (xs : List X) → find test (filter keep xs) ≡ find test xs
found_kept test keep all [] = refl
found_kept {X} test keep all (x ∷ xs) = by (keep x) refl (found_kept test keep all xs)
  where
    by : (b : Bool) → keep x ≡ b → find test (filter keep xs) ≡ find test xs → find test (cond b (x ∷ filter keep xs) (filter keep xs)) ≡ cond (test x) (Some x) (find test xs)
    by true e h = ap (cond (test x) (Some x)) h
    by false e h = by_test (test x) refl
      where
        by_test : (c : Bool) → test x ≡ c → find test (filter keep xs) ≡ cond c (Some x) (find test xs)
        by_test true k = absurd (both_ways (keep x) e (all x k))
        by_test false k = h

found_lost : {X : Type 0} (test keep : X → Bool) → ((x : X) → test x ≡ true → keep x ≡ false) → (xs : List X) → find test (filter keep xs) ≡ None
found_lost test keep all [] = refl
found_lost {X} test keep all (x ∷ xs) = by (keep x) refl (found_lost test keep all xs)
  where
    by : (b : Bool) → keep x ≡ b → find test (filter keep xs) ≡ None → find test (cond b (x ∷ filter keep xs) (filter keep xs)) ≡ None
    by false e h = h
    by true e h = by_test (test x) refl
      where
        by_test : (c : Bool) → test x ≡ c → cond c (Some x) (find test (filter keep xs)) ≡ None
        by_test true k = absurd (both_ways (keep x) (all x k) e)
        by_test false k = h

-- one put between those below it and those above it
module _ {X : Type 0} (o : X → Ordering) (test : X → Bool) (y : X) where
  abbrev around : List X → List X
  around xs = filter (λ x. is_lt (o x)) xs ++ y ∷ filter (λ x. is_gt (o x)) xs

  found_it : ((x : X) → test x ≡ true → o x ≡ Equal) → test y ≡ true → (xs : List X) → find test (around xs) ≡ Some y
  found_it equal here xs =
      found_behind test (filter (λ x. is_lt (o x)) xs) (y ∷ filter (λ x. is_gt (o x)) xs) (found_lost test (λ x. is_lt (o x)) (λ x t. ap is_lt (equal x t)) xs)
      ∙ cond-true (test y) (Some y) (find test (filter (λ x. is_gt (o x)) xs)) here

  found_other : (k : Ordering) → (k ≡ Equal → ⊥) → ((x : X) → test x ≡ true → o x ≡ k) → test y ≡ false → (xs : List X) → find test (around xs) ≡ find test xs
  found_other Equal apart all not_it xs = absurd (apart refl)
  found_other Less apart all not_it xs = by (find test xs) (found_kept test (λ x. is_lt (o x)) (λ x t. ap is_lt (all x t)) xs)
    where
      none : find test (y ∷ filter (λ x. is_gt (o x)) xs) ≡ None
      none = cond-false (test y) (Some y) (find test (filter (λ x. is_gt (o x)) xs)) not_it ∙ found_lost test (λ x. is_gt (o x)) (λ x t. ap is_gt (all x t)) xs

      by : (r : Option X) → find test (filter (λ x. is_lt (o x)) xs) ≡ r → find test (around xs) ≡ r
      by (Some x) h = found_in_front test (filter (λ x. is_lt (o x)) xs) (y ∷ filter (λ x. is_gt (o x)) xs) x h
      by None h = found_behind test (filter (λ x. is_lt (o x)) xs) (y ∷ filter (λ x. is_gt (o x)) xs) h ∙ none
  found_other Greater apart all not_it xs =
      found_behind test (filter (λ x. is_lt (o x)) xs) (y ∷ filter (λ x. is_gt (o x)) xs) (found_lost test (λ x. is_lt (o x)) (λ x t. ap is_lt (all x t)) xs)
      ∙ (cond-false (test y) (Some y) (find test (filter (λ x. is_gt (o x)) xs)) not_it ∙ found_kept test (λ x. is_gt (o x)) (λ x t. ap is_gt (all x t)) xs)

-- ---- records

-- the record of a name
abbrev pub row : Kind → Name → List Pair → Option Pair
row kind n pairs = find (λ p. is_name (name_of kind p) n) pairs

-- what a change leaves at its name
abbrev pub left_by : Kind → RecordChange → Option Pair
left_by kind (Set at value) = Some (pair_for kind at value)
left_by kind (Unset at) = None

its_order : (kind : Kind) (n at : Name) (p : Pair) → is_name (name_of kind p) n ≡ true → name_cmp (name_of kind p) at ≡ name_cmp n at
its_order kind n at p h = ap (λ (m : Name). name_cmp m at) (name_is (name_of kind p) n h)

not_equal : (a b : Name) → is_name a b ≡ false → name_cmp b a ≡ Equal → ⊥
not_equal a b h e = both_ways (is_name a b) h (ap (λ (m : Name). is_name m b) (sym (name_exact b a e)) ∙ name_itself b)

pub row_with : (kind : Kind) (at n : Name) (value : List ℕ) (pairs : List Pair) →
    row kind n (pairs_with kind at value pairs) ≡ cond (is_name (proper kind at) n) (Some (pair_for kind at value)) (row kind n pairs)
row_with kind at n value pairs = by (is_name (proper kind at) n) refl
  where
    new : Pair
    new = pair_for kind at value

    its : is_name (name_of kind new) n ≡ is_name (proper kind at) n
    its = ap (λ (m : Name). is_name m n) (name_of-pair_for kind at value)

    by : (b : Bool) → is_name (proper kind at) n ≡ b → row kind n (pairs_with kind at value pairs) ≡ cond b (Some new) (row kind n pairs)
    by true e =
        found_it (λ p. name_cmp (name_of kind p) (proper kind at)) (λ p. is_name (name_of kind p) n) new
        (λ p h. its_order kind n (proper kind at) p h ∙ ap (λ (m : Name). name_cmp n m) (name_is (proper kind at) n e) ∙ same_equal n) (its ∙ e) pairs
    by false e =
        found_other (λ p. name_cmp (name_of kind p) (proper kind at)) (λ p. is_name (name_of kind p) n) new (name_cmp n (proper kind at)) (not_equal (proper kind at) n e)
        (its_order kind n (proper kind at)) (its ∙ e) pairs

pub row_without : (kind : Kind) (at n : Name) (pairs : List Pair) → row kind n (pairs_without kind at pairs) ≡ cond (is_name (proper kind at) n) None (row kind n pairs)
row_without kind at n pairs = by (is_name (proper kind at) n) refl
  where
    by : (b : Bool) → is_name (proper kind at) n ≡ b → row kind n (pairs_without kind at pairs) ≡ cond b None (row kind n pairs)
    by true e =
        found_lost (λ p. is_name (name_of kind p) n) (λ p. not (is_name (name_of kind p) (proper kind at)))
        (λ p h. ap (λ (o : Ordering). not (is_eq o)) (its_order kind n (proper kind at) p h ∙ ap (λ (m : Name). name_cmp n m) (name_is (proper kind at) n e) ∙ same_equal n)) pairs
    by false e =
        found_kept (λ p. is_name (name_of kind p) n) (λ p. not (is_name (name_of kind p) (proper kind at)))
        (λ p h. ap (λ (o : Ordering). not (is_eq o)) (its_order kind n (proper kind at) p h) ∙ ap not (is_not (name_cmp n (proper kind at)) (not_equal (proper kind at) n e))) pairs
      where
        is_not : (o : Ordering) → (o ≡ Equal → ⊥) → is_eq o ≡ false
        is_not Less h = refl
        is_not Equal h = absurd (h refl)
        is_not Greater h = refl

-- what a name finds after a change
pub row_changed : (kind : Kind) (change : RecordChange) (n : Name) (pairs : List Pair) →
    row kind n (pairs_changed kind change pairs) ≡ cond (is_name (proper kind (changed_name change)) n) (left_by kind change) (row kind n pairs)
row_changed kind (Set at value) n pairs = row_with kind at n value pairs
row_changed kind (Unset at) n pairs = row_without kind at n pairs

-- records stay in order
pub rising_changed : (kind : Kind) (change : RecordChange) (pairs : List Pair) → HasRisingNames kind pairs → HasRisingNames kind (pairs_changed kind change pairs)
rising_changed kind (Set at value) pairs up = names_set kind at value pairs up
rising_changed kind (Unset at) pairs up = names_unset kind at pairs up

pub all_rising : (kind : Kind) (changes : List RecordChange) (pairs : List Pair) → HasRisingNames kind pairs → HasRisingNames kind (all_pairs_changed kind changes pairs)
all_rising kind [] pairs up = up
all_rising kind (change ∷ changes) pairs up = all_rising kind changes (pairs_changed kind change pairs) (rising_changed kind change pairs up)

pub all_changed-append : (kind : Kind) (first second : List RecordChange) (pairs : List Pair) →
    all_pairs_changed kind (first ++ second) pairs ≡ all_pairs_changed kind second (all_pairs_changed kind first pairs)
all_changed-append kind [] second pairs = refl
all_changed-append kind (change ∷ first) second pairs = all_changed-append kind first second (pairs_changed kind change pairs)

-- ---- records in which each name finds the same are the same

above : (kind : Kind) (n : Name) (pairs : List Pair) → AllByRecursion (λ p. name_cmp n (name_of kind p) ≡ Less) pairs → row kind n pairs ≡ None
above kind n [] h = refl
above kind n (p ∷ pairs) h =
    cond-false (is_name (name_of kind p) n) (Some p) (row kind n pairs) (ap is_eq (names_total.antisymm (name_of kind p) n ∙ ap ordering_reverse h.0)) ∙ above kind n pairs h.1

further : (a b : Name) (kind : Kind) (pairs : List Pair) → name_cmp a b ≡ Less → AllByRecursion (λ p. name_cmp b (name_of kind p) ≡ Less) pairs → AllByRecursion (λ p. name_cmp a (name_of kind p) ≡ Less) pairs
further a b kind [] less h = tt
further a b kind (p ∷ pairs) less h = (names_total.trans a b (name_of kind p) less h.0, further a b kind pairs less h.1)

pub rising_head : (kind : Kind) (p : Pair) (pairs : List Pair) → HasRisingNames kind (p ∷ pairs) → AllByRecursion (λ q. name_cmp (name_of kind p) (name_of kind q) ≡ Less) pairs
unfolding IsStrictlySortedBy
rising_head kind p pairs up = up.0

pub rising_rest : (kind : Kind) (p : Pair) (pairs : List Pair) → HasRisingNames kind (p ∷ pairs) → HasRisingNames kind pairs
unfolding IsStrictlySortedBy
rising_rest kind p pairs up = up.1

first_found : (kind : Kind) (p : Pair) (pairs : List Pair) → row kind (name_of kind p) (p ∷ pairs) ≡ Some p
first_found kind p pairs = cond-true (is_name (name_of kind p) (name_of kind p)) (Some p) (row kind (name_of kind p) pairs) (name_itself (name_of kind p))

lower_first : (kind : Kind) (p q : Pair) (qs : List Pair) → name_cmp (name_of kind p) (name_of kind q) ≡ Less → HasRisingNames kind (q ∷ qs) → row kind (name_of kind p) (q ∷ qs) ≡ None
lower_first kind p q qs less up = above kind (name_of kind p) (q ∷ qs) (less, further (name_of kind p) (name_of kind q) kind qs less (rising_head kind q qs up))

pub same_pairs : (kind : Kind) (xs ys : List Pair) → HasRisingNames kind xs → HasRisingNames kind ys → ((n : Name) → row kind n xs ≡ row kind n ys) → xs ≡ ys
same_pairs kind [] [] up_x up_y h = refl
same_pairs kind [] (y ∷ ys) up_x up_y h = absurd (none-some y (h (name_of kind y) ∙ first_found kind y ys))
same_pairs kind (x ∷ xs) [] up_x up_y h = absurd (none-some x (sym (h (name_of kind x)) ∙ first_found kind x xs))
same_pairs kind (x ∷ xs) (y ∷ ys) up_x up_y h = by (name_cmp (name_of kind x) (name_of kind y)) refl (same_pairs kind xs ys (rising_rest kind x xs up_x) (rising_rest kind y ys up_y))
  where
    by : (o : Ordering) → name_cmp (name_of kind x) (name_of kind y) ≡ o → (((n : Name) → row kind n xs ≡ row kind n ys) → xs ≡ ys) → x ∷ xs ≡ y ∷ ys
    by Less e rest = absurd (none-some x (sym (lower_first kind x y ys e up_y) ∙ (sym (h (name_of kind x)) ∙ first_found kind x xs)))
    by Greater e rest =
        let less : name_cmp (name_of kind y) (name_of kind x) ≡ Less = names_total.antisymm (name_of kind y) (name_of kind x) ∙ ap ordering_reverse e in
        absurd (none-some y (sym (lower_first kind y x xs less up_x) ∙ (h (name_of kind y) ∙ first_found kind y ys)))
    by Equal e rest = ap₂ (λ (p : Pair) (ps : List Pair). p ∷ ps) first (rest tails)
      where
        names : name_of kind x ≡ name_of kind y
        names = name_exact (name_of kind x) (name_of kind y) e

        first : x ≡ y
        first = same_Some x y (sym (first_found kind x xs) ∙ (h (name_of kind x) ∙ (ap (λ (n : Name). row kind n (y ∷ ys)) names ∙ first_found kind y ys)))

        tails : (n : Name) → row kind n xs ≡ row kind n ys
        tails n = at (is_name (name_of kind x) n) refl
          where
            at : (b : Bool) → is_name (name_of kind x) n ≡ b → row kind n xs ≡ row kind n ys
            at true k =
                let here = name_is (name_of kind x) n k in
                subst (λ (m : Name). row kind m xs ≡ row kind m ys) here
                (above kind (name_of kind x) xs (rising_head kind x xs up_x) ∙ sym (ap (λ (m : Name). row kind m ys) names ∙ above kind (name_of kind y) ys (rising_head kind y ys up_y)))
            at false k =
                sym (cond-false (is_name (name_of kind x) n) (Some x) (row kind n xs) k)
                ∙ (h n ∙ cond-false (is_name (name_of kind y) n) (Some y) (row kind n ys) (ap (λ (m : Name). is_name m n) (sym names) ∙ k))
