-- The least of numbers by their places.
use Rattle.std.proofs.Common.{◌≡◌, ◌≤◌, ◌<◌, ◌+◌, ◌*◌, ◌-◌, ◌/◌, ◌⊎◌, inl, inr, ℕ, zero, suc, List, [], ◌∷◌, ◌++◌, Bool, true, false, cond, Option, None, Some, is_some, option_map, length, set, get_or, nat_lt, refl, ap, ap₂, sym, subst, ◌∙◌, arith, get_or-set_same, get_or-set_other}
use Rattle.std.proofs.lemmas.Bool.{true≢false, cases_eq, cases_lt}
use Rattle.std.proofs.lemmas.Bool.Decides.{nat_tests}
use Rattle.std.proofs.lemmas.List.{get_or_past, length-set, length_push, set-get_or}
use Rattle.std.proofs.lemmas.List.Sums.{sum_by-append, sum_by-cons, sum_by-set}
use Rattle.std.proofs.lemmas.Option.{none-some, same_Some}
use Rattle.tree_nodes.specs.Due.{AreLeast, AreLeastBut, IsLeastNumber, count_numbers, least_found, least_at, lesser, number_in, own_number}

-- ---- a number changes

stays : (numbers : List (Option ℕ)) (least : List (Option (ℕ × ℕ))) (place : ℕ) (found : Option (ℕ × ℕ)) (i : ℕ) → (2 * i + 1 ≡ place → ⊥) → (2 * i + 2 ≡ place → ⊥) → least_at numbers (set least place found) i ≡ least_at numbers least i
stays numbers least place found i one two =
    ap₂ (λ (a b : Option (ℕ × ℕ)). lesser (own_number numbers i) (lesser a b)) (get_or-set_other least place (2 * i + 1) found None one) (get_or-set_other least place (2 * i + 2) found None two)

-- what stands at a place is right where it was found from the two below it
set_each : (numbers : List (Option ℕ)) (least : List (Option (ℕ × ℕ))) (place : ℕ) (found : Option (ℕ × ℕ)) (i : ℕ) → place < length least → found ≡ least_at numbers least place →
    ((i ≡ place → ⊥) → least_found least i ≡ least_at numbers least i) → (2 * i + 1 ≡ place → ⊥) → (2 * i + 2 ≡ place → ⊥) → least_found (set least place found) i ≡ least_at numbers (set least place found) i
set_each numbers least place found i within is own one two = by_place (cases_eq i place)
  where
    here : least_found (set least place found) place ≡ least_at numbers (set least place found) place
    here = get_or-set_same least place found None within ∙ is ∙ sym (stays numbers least place found place (λ e. omega (arith, e)) (λ e. omega (arith, e)))

    by_place : (i ≡ place) ⊎ (i ≡ place → ⊥) → least_found (set least place found) i ≡ least_at numbers (set least place found) i
    by_place (inl same) = subst (λ (j : ℕ). least_found (set least place found) j ≡ least_at numbers (set least place found) j) (sym same) here
    by_place (inr other) = get_or-set_other least place i found None other ∙ own other ∙ sym (stays numbers least place found i one two)

pub settled_on : (numbers : List (Option ℕ)) (least : List (Option (ℕ × ℕ))) (place : ℕ) (found : Option (ℕ × ℕ)) → place < length least → 0 < place → found ≡ least_at numbers least place →
    AreLeastBut place numbers least → AreLeastBut ((place - 1) / 2) numbers (set least place found)
settled_on numbers least place found within some is but = record {
  size = length-set least place found ∙ but.size;
  each = λ i other. set_each numbers least place found i within is (but.each i) (λ e. other (half_one i place e)) (λ e. other (half_two i place e));
}
  where
    half_one : (i p : ℕ) → 2 * i + 1 ≡ p → i ≡ (p - 1) / 2
    half_one i p e = omega (arith, e)

    half_two : (i p : ℕ) → 2 * i + 2 ≡ p → i ≡ (p - 1) / 2
    half_two i p e = omega (arith, e)

pub settled_top : (numbers : List (Option ℕ)) (least : List (Option (ℕ × ℕ))) (place : ℕ) (found : Option (ℕ × ℕ)) → place < length least → place ≤ 0 → found ≡ least_at numbers least place →
    AreLeastBut place numbers least → AreLeast numbers (set least place found)
settled_top numbers least place found within top is but = record {
  size = length-set least place found ∙ but.size;
  each = λ i. set_each numbers least place found i within is (but.each i) (λ e. omega (arith, e, top)) (λ e. omega (arith, e, top));
}

-- to set what is there changes nothing
pub set_same : (numbers : List (Option ℕ)) (place : ℕ) (n : Option ℕ) → number_in numbers place ≡ n → numbers ≡ set numbers place n
set_same numbers place n is = sym (ap (set numbers place) (sym is) ∙ set-get_or numbers place None)

-- ---- a place more

none_more : {A : Type 0} (xs : List (Option A)) (i : ℕ) → get_or (xs ++ None ∷ []) i None ≡ get_or xs i None
none_more [] zero = refl
none_more [] (suc i) = refl
none_more (x ∷ xs) zero = refl
none_more (x ∷ xs) (suc i) = none_more xs i

more : (numbers : List (Option ℕ)) (least : List (Option (ℕ × ℕ))) → AreLeast numbers least → AreLeast (numbers ++ None ∷ []) (least ++ None ∷ [])
more numbers least are = record {
  size = length_push least None ∙ ap (λ (n : ℕ). n + 1) are.size ∙ sym (length_push numbers None);
  each = λ i. none_more least i ∙ are.each i ∙ sym (same i);
}
  where
    same : (i : ℕ) → least_at (numbers ++ None ∷ []) (least ++ None ∷ []) i ≡ least_at numbers least i
    same i =
        ap (λ (o : Option ℕ). lesser (option_map (λ n. (n, i)) o) (lesser (least_found (least ++ None ∷ []) (2 * i + 1)) (least_found (least ++ None ∷ []) (2 * i + 2)))) (none_more numbers i)
        ∙ ap₂ (λ (a b : Option (ℕ × ℕ)). lesser (own_number numbers i) (lesser a b)) (none_more least (2 * i + 1)) (none_more least (2 * i + 2))

pub one_more : (numbers kept new : List (Option ℕ)) (least kept_least new_least : List (Option (ℕ × ℕ))) → kept ≡ numbers → new ≡ kept ++ None ∷ [] → kept_least ≡ least → new_least ≡ kept_least ++ None ∷ [] →
    AreLeast numbers least → AreLeast new new_least
one_more numbers kept new least kept_least new_least same is same_least is_least are =
    subst (λ (l : List (Option ℕ)). AreLeast l new_least) (sym (is ∙ ap (λ (l : List (Option ℕ)). l ++ None ∷ []) same))
    (subst (λ (l : List (Option (ℕ × ℕ))). AreLeast (numbers ++ None ∷ []) l) (sym (is_least ∙ ap (λ (l : List (Option (ℕ × ℕ))). l ++ None ∷ []) same_least)) (more numbers least are))

-- ---- how many

-- one number, or none
abbrev pub one_if : Option ℕ → ℕ
one_if o = cond (is_some o) 1 0

pub count_set : (numbers : List (Option ℕ)) (place : ℕ) (n : Option ℕ) → place < length numbers → count_numbers (set numbers place n) + one_if (number_in numbers place) ≡ count_numbers numbers + one_if n
count_set numbers place n within = sum_by-set one_if numbers place n None within

-- a place without a number more
pub count_push : (numbers kept new : List (Option ℕ)) (count : ℕ) → kept ≡ numbers → new ≡ kept ++ None ∷ [] → count ≡ count_numbers numbers → count ≡ count_numbers new
count_push numbers kept new count same is all =
    let made : count_numbers new ≡ count_numbers (numbers ++ None ∷ []) = ap (λ (l : List (Option ℕ)). count_numbers l) (is ∙ ap (λ (l : List (Option ℕ)). l ++ None ∷ []) same) in
    let split = sum_by-append one_if numbers (None ∷ []) in
    omega (arith, made, split, all)

-- no number
pub count_no : (numbers : List (Option ℕ)) → ((i : ℕ) → number_in numbers i ≡ None) → count_numbers numbers ≡ 0
count_no [] none = refl
count_no (x ∷ numbers) none =
    let first : one_if x ≡ 0 = ap one_if (none 0) in
    let rest : count_numbers numbers ≡ 0 = count_no numbers (λ i. none (suc i)) in
    let split = sum_by-cons one_if x numbers in
    omega (arith, first, rest, split)

-- ---- the least one stands at the first place

-- a number with its place is up to another one, if there is another one
abbrev IsFoundUpTo : Option (ℕ × ℕ) → Option (ℕ × ℕ) → Type 0
IsFoundUpTo a None = Unit {0}
IsFoundUpTo None (Some b) = ⊥
IsFoundUpTo (Some a) (Some b) = a.0 ≤ b.0

test_less : (a b : ℕ) → nat_lt a b ≡ true → a < b
test_less a b is = grind (arith, nat_tests, is)

not_less : (a b : ℕ) → nat_lt a b ≡ false → b ≤ a
not_less a b is = by_order (cases_lt a b)
  where
    by_order : (a < b) ⊎ (b ≤ a) → b ≤ a
    by_order (inl less) = let test : nat_lt a b ≡ true = grind (arith, nat_tests) in absurd (true≢false (sym test ∙ is))
    by_order (inr upto) = upto

upto_same : (a : Option (ℕ × ℕ)) → IsFoundUpTo a a
upto_same None = tt
upto_same (Some a) = omega arith

upto_trans : (a b c : Option (ℕ × ℕ)) → IsFoundUpTo a b → IsFoundUpTo b c → IsFoundUpTo a c
upto_trans a b None ab bc = tt
upto_trans a None (Some c) ab bc = absurd bc
upto_trans None (Some b) (Some c) ab bc = absurd ab
upto_trans (Some a) (Some b) (Some c) ab bc = omega (arith, ab, bc)

lesser_left : (a b : Option (ℕ × ℕ)) → IsFoundUpTo (lesser a b) a
lesser_left None b = tt
lesser_left (Some a) None = omega arith
lesser_left (Some a) (Some b) = by_test (nat_lt b.0 a.0) refl
  where
    by_test : (t : Bool) → nat_lt b.0 a.0 ≡ t → IsFoundUpTo (cond t (Some b) (Some a)) (Some a)
    by_test true is = let less : b.0 < a.0 = test_less b.0 a.0 is in omega (arith, less)
    by_test false is = omega arith

lesser_right : (a b : Option (ℕ × ℕ)) → IsFoundUpTo (lesser a b) b
lesser_right None b = upto_same b
lesser_right (Some a) None = tt
lesser_right (Some a) (Some b) = by_test (nat_lt b.0 a.0) refl
  where
    by_test : (t : Bool) → nat_lt b.0 a.0 ≡ t → IsFoundUpTo (cond t (Some b) (Some a)) (Some b)
    by_test true is = omega arith
    by_test false is = not_less b.0 a.0 is

lesser_is : (a b : Option (ℕ × ℕ)) (e : ℕ × ℕ) → lesser a b ≡ Some e → (a ≡ Some e) ⊎ (b ≡ Some e)
lesser_is None b e is = inr is
lesser_is (Some a) None e is = inl is
lesser_is (Some a) (Some b) e is = by_test (nat_lt b.0 a.0) is
  where
    by_test : (t : Bool) → cond t (Some b) (Some a) ≡ Some e → (Some a ≡ Some e) ⊎ (Some b ≡ Some e)
    by_test true h = inr h
    by_test false h = inl h

own_upto : (numbers : List (Option ℕ)) (least : List (Option (ℕ × ℕ))) → AreLeast numbers least → (i : ℕ) → IsFoundUpTo (least_found least i) (own_number numbers i)
own_upto numbers least are i =
    subst (λ (o : Option (ℕ × ℕ)). IsFoundUpTo o (own_number numbers i)) (sym (are.each i)) (lesser_left (own_number numbers i) (lesser (least_found least (2 * i + 1)) (least_found least (2 * i + 2))))

first_upto : (numbers : List (Option ℕ)) (least : List (Option (ℕ × ℕ))) → AreLeast numbers least → (i : ℕ) → IsFoundUpTo (least_found least i) (least_found least (2 * i + 1))
first_upto numbers least are i =
    let one = least_found least (2 * i + 1) in
    let two = least_found least (2 * i + 2) in
    subst (λ (o : Option (ℕ × ℕ)). IsFoundUpTo o one) (sym (are.each i)) (upto_trans (lesser (own_number numbers i) (lesser one two)) (lesser one two) one (lesser_right (own_number numbers i) (lesser one two)) (lesser_left one two))

second_upto : (numbers : List (Option ℕ)) (least : List (Option (ℕ × ℕ))) → AreLeast numbers least → (i : ℕ) → IsFoundUpTo (least_found least i) (least_found least (2 * i + 2))
second_upto numbers least are i =
    let one = least_found least (2 * i + 1) in
    let two = least_found least (2 * i + 2) in
    subst (λ (o : Option (ℕ × ℕ)). IsFoundUpTo o two) (sym (are.each i)) (upto_trans (lesser (own_number numbers i) (lesser one two)) (lesser one two) two (lesser_right (own_number numbers i) (lesser one two)) (lesser_right one two))

-- a place is one of the two below another one
below_half : (numbers : List (Option ℕ)) (least : List (Option (ℕ × ℕ))) → AreLeast numbers least → (j : ℕ) → IsFoundUpTo (least_found least (j / 2)) (least_found least (j + 1))
below_half numbers least are j = by_side (cases_eq (j + 1) (2 * (j / 2) + 1))
  where
    by_side : (j + 1 ≡ 2 * (j / 2) + 1) ⊎ (j + 1 ≡ 2 * (j / 2) + 1 → ⊥) → IsFoundUpTo (least_found least (j / 2)) (least_found least (j + 1))
    by_side (inl one) = subst (λ (k : ℕ). IsFoundUpTo (least_found least (j / 2)) (least_found least k)) (sym one) (first_upto numbers least are (j / 2))
    by_side (inr other) =
        let two : j + 1 ≡ 2 * (j / 2) + 2 = omega (arith, other) in
        subst (λ (k : ℕ). IsFoundUpTo (least_found least (j / 2)) (least_found least k)) (sym two) (second_upto numbers least are (j / 2))

root_upto : (numbers : List (Option ℕ)) (least : List (Option (ℕ × ℕ))) → AreLeast numbers least → (count i : ℕ) → i ≤ count → IsFoundUpTo (least_found least 0) (least_found least i)
root_upto numbers least are count zero le = upto_same (least_found least 0)
root_upto numbers least are zero (suc i) le = absurd (omega (arith, le))
root_upto numbers least are (suc count) (suc i) le =
    let next : i + 1 ≡ suc i = omega arith in
    upto_trans (least_found least 0) (least_found least (i / 2)) (least_found least (suc i)) (root_upto numbers least are count (i / 2) (omega (arith, le)))
    (subst (λ (k : ℕ). IsFoundUpTo (least_found least (i / 2)) (least_found least k)) next (below_half numbers least are i))

number_upto : (numbers : List (Option ℕ)) (least : List (Option (ℕ × ℕ))) → AreLeast numbers least → (i m : ℕ) → number_in numbers i ≡ Some m → IsFoundUpTo (least_found least 0) (Some (m, i))
number_upto numbers least are i m is =
    subst (λ (o : Option ℕ). IsFoundUpTo (least_found least 0) (option_map (λ n. (n, i)) o)) is
    (upto_trans (least_found least 0) (least_found least i) (own_number numbers i) (root_upto numbers least are i i (omega arith)) (own_upto numbers least are i))

-- what is found is a number with its place
own_there : (numbers : List (Option ℕ)) (i : ℕ) (e : ℕ × ℕ) → own_number numbers i ≡ Some e → number_in numbers e.1 ≡ Some e.0
own_there numbers i e is = by_number (number_in numbers i) refl is
  where
    by_number : (o : Option ℕ) → number_in numbers i ≡ o → option_map (λ n. (n, i)) o ≡ Some e → number_in numbers e.1 ≡ Some e.0
    by_number None at h = absurd (none-some e h)
    by_number (Some n) at h = subst (λ (x : ℕ × ℕ). number_in numbers x.1 ≡ Some x.0) (same_Some (n, i) e h) at

found_there : (numbers : List (Option ℕ)) (least : List (Option (ℕ × ℕ))) → AreLeast numbers least → (count i : ℕ) → length least ≤ i + count → (e : ℕ × ℕ) → least_found least i ≡ Some e → number_in numbers e.1 ≡ Some e.0
found_there numbers least are zero i le e is = absurd (none-some e (sym (get_or_past least i None (omega (arith, le))) ∙ is))
found_there numbers least are (suc count) i le e is =
    by_part (λ one. found_there numbers least are count (2 * i + 1) (omega (arith, le)) e one) (λ two. found_there numbers least are count (2 * i + 2) (omega (arith, le)) e two)
    (lesser_is (own_number numbers i) (lesser (least_found least (2 * i + 1)) (least_found least (2 * i + 2))) e (sym (are.each i) ∙ is))
  where
    by_part : (least_found least (2 * i + 1) ≡ Some e → number_in numbers e.1 ≡ Some e.0) → (least_found least (2 * i + 2) ≡ Some e → number_in numbers e.1 ≡ Some e.0) →
        (own_number numbers i ≡ Some e) ⊎ (lesser (least_found least (2 * i + 1)) (least_found least (2 * i + 2)) ≡ Some e) → number_in numbers e.1 ≡ Some e.0
    by_part first second (inl own) = own_there numbers i e own
    by_part first second (inr below) = by_side (lesser_is (least_found least (2 * i + 1)) (least_found least (2 * i + 2)) e below)
      where
        by_side : (least_found least (2 * i + 1) ≡ Some e) ⊎ (least_found least (2 * i + 2) ≡ Some e) → number_in numbers e.1 ≡ Some e.0
        by_side (inl one) = first one
        by_side (inr two) = second two

pub least_there : (numbers : List (Option ℕ)) (least : List (Option (ℕ × ℕ))) (e : ℕ × ℕ) → AreLeast numbers least → least_found least 0 ≡ Some e → IsLeastNumber numbers e.1
least_there numbers least e are is = record {
  number = e.0;
  there = found_there numbers least are (length least) 0 (omega arith) e is;
  upto = λ i m at. subst (λ (o : Option (ℕ × ℕ)). IsFoundUpTo o (Some (m, i))) is (number_upto numbers least are i m at);
}

pub least_none : (numbers : List (Option ℕ)) (least : List (Option (ℕ × ℕ))) → AreLeast numbers least → least_found least 0 ≡ None → (i : ℕ) → number_in numbers i ≡ None
least_none numbers least are none i = by_number (number_in numbers i) refl
  where
    by_number : (o : Option ℕ) → number_in numbers i ≡ o → o ≡ None
    by_number None at = refl
    by_number (Some m) at = absurd (subst (λ (o : Option (ℕ × ℕ)). IsFoundUpTo o (Some (m, i))) none (number_upto numbers least are i m at))
