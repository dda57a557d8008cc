-- Names and bounds.
use Rattle.std.proofs.Common.{◌≡◌, ℕ, Bool, true, false, not, List, [], ◌∷◌, Option, None, Some, Ordering, Less, Equal, Greater, is_eq, is_lt, is_gt, refl, sym, ap, ◌∙◌}
use Rattle.std.specs.Ordering.{ordering_reverse}
use Rattle.std.proofs.lemmas.Bool.{true≢false, false≢true, and_parts, and_from, not-true, not_from_false, false_from_ne_true}
use Rattle.std.proofs.lemmas.Cmp.{upto}
use Rattle.std.specs.List.{AllByRecursion}
use Rattle.je_order.specs.declared.name.Name.{Name}
use Rattle.je_order.specs.Order.{name_cmp}
use Rattle.node_core.proofs.NameOrder.{total, same, itself, turned}
use Rattle.je_order.proofs.Orderings.{equal_from_test}
use Rattle.log_trees.specs.Images.{NamedLsn}
use Rattle.log_trees.specs.Sound.{least_name, is_below, is_within, AreUp}

-- ---- orders

pub less_of : (o : Ordering) → is_lt o ≡ true → o ≡ Less
less_of Less e = refl
less_of Equal e = absurd cc
less_of Greater e = absurd cc

no_turn : (t : Bool) → t ≡ not t → ⊥
no_turn true h = true≢false h
no_turn false h = false≢true h

-- names on two sides of a bound are not the same
pub apart : (x y bound : Name) (t : Bool) → is_lt (name_cmp x bound) ≡ t → is_lt (name_cmp y bound) ≡ not t → is_eq (name_cmp x y) ≡ false
apart x y bound t a b =
    false_from_ne_true (is_eq (name_cmp x y))
    (λ e. let is : x ≡ y = same x y (equal_from_test _ e) in no_turn t (sym a ∙ ap (λ (n : Name). is_lt (name_cmp n bound)) is ∙ b))

lt_turned : (x y : Name) → is_lt (name_cmp y x) ≡ is_gt (name_cmp x y)
lt_turned x y = ap is_lt (turned x y (name_cmp x y) refl) ∙ by_order (name_cmp x y)
  where
    by_order : (o : Ordering) → is_lt (ordering_reverse o) ≡ is_gt o
    by_order Less = refl
    by_order Equal = refl
    by_order Greater = refl

-- the order tells two names apart either way round
pub eq_turned : (x y : Name) (t : Bool) → is_eq (name_cmp x y) ≡ t → is_eq (name_cmp y x) ≡ t
eq_turned x y t e = ap is_eq (turned x y (name_cmp x y) refl) ∙ by_order (name_cmp x y) ∙ e
  where
    by_order : (o : Ordering) → is_eq (ordering_reverse o) ≡ is_eq o
    by_order Less = refl
    by_order Equal = refl
    by_order Greater = refl

-- below a name that is not above another
pub low_turned : (x y : Name) → name_cmp x y ≡ Less → is_lt (name_cmp y x) ≡ false
low_turned x y e = ap is_lt (turned x y Less e)

-- a name below a bound is below one that is not
pub less_over : (x y bound : Name) → is_lt (name_cmp x bound) ≡ true → is_lt (name_cmp y bound) ≡ false → name_cmp x y ≡ Less
less_over x y bound a b = by_order (name_cmp x y) refl
  where
    by_order : (o : Ordering) → name_cmp x y ≡ o → o ≡ Less
    by_order Less e = refl
    by_order Equal e = absurd (true≢false (sym a ∙ ap (λ (n : Name). is_lt (name_cmp n bound)) (same x y e) ∙ b))
    by_order Greater e = absurd (true≢false (sym (ap is_lt (total.trans y x bound (turned x y Greater e) (less_of _ a))) ∙ b))

-- ---- bounds

pub below_more : (y n : Name) (high : Option Name) → is_lt (name_cmp y n) ≡ true → is_below n high ≡ true → is_below y high ≡ true
below_more y n None a b = refl
below_more y n (Some h) a b = ap is_lt (total.trans y n h (less_of _ a) (less_of _ b))

pub above_more : (low n y : Name) → is_lt (name_cmp n low) ≡ false → is_lt (name_cmp y n) ≡ false → is_lt (name_cmp y low) ≡ false
above_more low n y a b = lt_turned low y ∙ upto total low n y (sym (lt_turned low n) ∙ a) (sym (lt_turned n y) ∙ b)

pub within_parts : (low : Name) (high : Option Name) (x : Name) → is_within low high x ≡ true → (is_lt (name_cmp x low) ≡ false) × (is_below x high ≡ true)
within_parts low high x h =
    let both = and_parts (not (is_lt (name_cmp x low))) (is_below x high) h in
    (not-true (is_lt (name_cmp x low)) both.0, both.1)

pub within_from : (low : Name) (high : Option Name) (x : Name) → is_lt (name_cmp x low) ≡ false → is_below x high ≡ true → is_within low high x ≡ true
within_from low high x a b = and_from (not (is_lt (name_cmp x low))) (is_below x high) (not_from_false (is_lt (name_cmp x low)) a) b

pub not_below_itself : (x : Name) → is_lt (name_cmp x x) ≡ false
not_below_itself x = ap is_lt (itself x)

-- bounds at a name within others
pub wider_high : (low : Name) (high : Option Name) (n y : Name) → is_below n high ≡ true → is_within low (Some n) y ≡ true → is_within low high y ≡ true
wider_high low high n y n_in y_in = let both = within_parts low (Some n) y y_in in within_from low high y both.0 (below_more y n high both.1 n_in)

pub wider_low : (low : Name) (high : Option Name) (n y : Name) → is_lt (name_cmp n low) ≡ false → is_within n high y ≡ true → is_within low high y ≡ true
wider_low low high n y n_in y_in = let both = within_parts n high y y_in in within_from low high y (above_more low n y n_in both.0) both.1

-- slots from one on lie within bounds from its name on
pub within_next : (low : Name) (high : Option Name) (n : NamedLsn) (slots : List NamedLsn) → AllByRecursion (λ s. is_within low high s.0 ≡ true) (n ∷ slots) → AreUp (n ∷ slots) →
    AllByRecursion (λ s. is_within n.0 high s.0 ≡ true) (n ∷ slots)
within_next low high n slots all up = (
  within_from n.0 high n.0 (not_below_itself n.0) (within_parts low high n.0 all.0).1,
  both slots all.1 up.0,
)
  where
    both : (ts : List NamedLsn) → AllByRecursion (λ s. is_within low high s.0 ≡ true) ts → AllByRecursion (λ t. name_cmp n.0 t.0 ≡ Less) ts → AllByRecursion (λ s. is_within n.0 high s.0 ≡ true) ts
    both [] a b = tt
    both (t ∷ ts) a b = (within_from n.0 high t.0 (low_turned n.0 t.0 b.0) (within_parts low high t.0 a.0).1, both ts a.1 b.1)

-- no name is below the least
pub none_below_least : (x : Name) → is_lt (name_cmp x least_name) ≡ false
none_below_least x = by_parts x.key x.dup
  where
    by_parts : (key dup : List ℕ) → is_lt (name_cmp (record { key = key; dup = dup }) least_name) ≡ false
    by_parts [] [] = refl
    by_parts [] (b ∷ dup) = refl
    by_parts (b ∷ key) dup = refl
