-- The order of names, and tests that are joined.
use Rattle.std.proofs.Common.{◌≡◌, ℕ, Bool, true, false, cond, List, Ordering, Less, Equal, Greater, is_eq, is_lt, refl, sym, ap, ◌∙◌}
use Rattle.std.specs.Cmp.{IsTotalOrder}
use Rattle.std.specs.Ordering.{nat_cmp, ordering_reverse}
use Rattle.std.specs.Cmp.Lexicographic.{slice_cmp}
use Rattle.std.proofs.lemmas.Cmp.{nat_list_cmp_total, on_total, then_total}
use Rattle.std.proofs.lemmas.Map.Lookups.{exact_bytes, exact_pairs}
use Rattle.je_order.specs.declared.name.Name.{Name}
use Rattle.je_order.specs.Order.{name_cmp}
use Rattle.je_order.proofs.Orderings.{equal_from_test}

pub total : IsTotalOrder name_cmp
total = then_total (on_total (λ (n : Name). n.key) nat_list_cmp_total) (on_total (λ (n : Name). n.dup) nat_list_cmp_total)

-- names that compare as equal are the same
pub same : (x y : Name) → name_cmp x y ≡ Equal → x ≡ y
same x y h =
    let make : List ℕ × List ℕ → Name = λ p. record { key = p.0; dup = p.1 } in
    ap make (exact_pairs (slice_cmp nat_cmp) (slice_cmp nat_cmp) exact_bytes exact_bytes (x.key, x.dup) (y.key, y.dup) h)

own_reverse : (o : Ordering) → o ≡ ordering_reverse o → o ≡ Equal
own_reverse Less e = absurd cc
own_reverse Equal e = refl
own_reverse Greater e = absurd cc

-- a name compares as equal with itself
pub itself : (x : Name) → name_cmp x x ≡ Equal
itself x = own_reverse (name_cmp x x) (total.antisymm x x)

-- the other way round
pub turned : (x y : Name) (o : Ordering) → name_cmp x y ≡ o → name_cmp y x ≡ ordering_reverse o
turned x y o e = total.antisymm y x ∙ ap ordering_reverse e

-- neither below nor equal is above
pub above_of : (o : Ordering) → is_lt o ≡ false → is_eq o ≡ false → o ≡ Greater
above_of Less e f = absurd cc
above_of Equal e f = absurd cc
above_of Greater e f = refl

-- a name that ties with two, ties these with each other
pub joined : (x y z : Name) → is_eq (name_cmp x y) ≡ true → is_eq (name_cmp x z) ≡ true → name_cmp y z ≡ Equal
joined x y z a b = sym (total.congr x y z (equal_from_test _ a)) ∙ equal_from_test _ b

-- ---- tests, one within another

pub test_again : {A : Type 0} (b c : Bool) (x y z : A) → c ≡ b → cond b x z ≡ cond b x (cond c y z)
test_again true c x y z e = refl
test_again false c x y z e = ap (λ d. cond d y z) (sym e)

pub tests_turned : {A : Type 0} (a b : Bool) (x y z : A) → (a ≡ true → b ≡ true → ⊥) → cond a x (cond b y z) ≡ cond b y (cond a x z)
tests_turned true true x y z apart = absurd (apart refl refl)
tests_turned true false x y z apart = refl
tests_turned false b x y z apart = refl
