-- Edges and names: what is below an edge is below all that is not.
use Rattle.std.proofs.Common.{◌≡◌, ◌⊎◌, inl, inr, true, false, refl, ap, sym, ◌∙◌, Ordering, Less, Equal, Greater, is_gt, is_ge}
use Rattle.std.proofs.lemmas.Bool.{both_ways}
use Rattle.je_order.specs.Edges.{Edge, is_below}
use Rattle.je_order.specs.Edges.Edge.{First, At, Behind, End}
use Rattle.je_order.specs.Order.{name_cmp}
use Rattle.je_order.specs.declared.name.Name.{Name}
use Rattle.je_order.proofs.Orderings.{name_exact}
use Rattle.store_model.proofs.StoreLaws.{names_total}
use Rattle.serial_replay.proofs.Rising.{turned_less, turned_greater}

-- ---- orderings by their tests

is_ge_less : (o : Ordering) → is_ge o ≡ false → o ≡ Less
is_ge_less Less e = refl
is_ge_less Equal e = absurd (cc (e))
is_ge_less Greater e = absurd (cc (e))

is_ge_cases : (o : Ordering) → is_ge o ≡ true → (o ≡ Equal) ⊎ (o ≡ Greater)
is_ge_cases Less e = absurd (cc (e))
is_ge_cases Equal e = inl refl
is_ge_cases Greater e = inr refl

is_gt_cases : (o : Ordering) → is_gt o ≡ false → (o ≡ Less) ⊎ (o ≡ Equal)
is_gt_cases Less e = inl refl
is_gt_cases Equal e = inr refl
is_gt_cases Greater e = absurd (cc (e))

is_gt_greater : (o : Ordering) → is_gt o ≡ true → o ≡ Greater
is_gt_greater Less e = absurd (cc (e))
is_gt_greater Equal e = absurd (cc (e))
is_gt_greater Greater e = refl

-- ---- names

-- a name at or below another one
pub at_or_below : (x y : Name) → is_ge (name_cmp y x) ≡ true → (x ≡ y) ⊎ (name_cmp x y ≡ Less)
at_or_below x y h = by (is_ge_cases (name_cmp y x) h)
  where
    by : (name_cmp y x ≡ Equal) ⊎ (name_cmp y x ≡ Greater) → (x ≡ y) ⊎ (name_cmp x y ≡ Less)
    by (inl e) = inl (sym (name_exact y x e))
    by (inr e) = inr (turned_greater y x e)

pub less_is_below : (x y : Name) → name_cmp x y ≡ Less → is_ge (name_cmp y x) ≡ true
less_is_below x y h = ap is_ge (turned_less x y h)

pub less_not_ge : (x y : Name) → name_cmp x y ≡ Less → is_ge (name_cmp x y) ≡ false
less_not_ge x y h = ap is_ge h

pub not_ge_less : (x y : Name) → is_ge (name_cmp x y) ≡ false → name_cmp x y ≡ Less
not_ge_less x y h = is_ge_less (name_cmp x y) h

trans : (x y z : Name) → name_cmp x y ≡ Less → name_cmp y z ≡ Less → name_cmp x z ≡ Less
trans x y z h k = names_total.trans x y z h k

from_equal : (x y z : Name) → name_cmp x y ≡ Equal → name_cmp y z ≡ Less → name_cmp x z ≡ Less
from_equal x y z h k = ap (λ (w : Name). name_cmp w z) (name_exact x y h) ∙ k

to_equal : (x y z : Name) → name_cmp x y ≡ Less → name_cmp y z ≡ Equal → name_cmp x z ≡ Less
to_equal x y z h k = ap (name_cmp x) (sym (name_exact y z k)) ∙ h

-- ---- edges

-- a name below an edge is less than one that is not
pub below_less : (e : Edge) (x y : Name) → is_below e x ≡ true → is_below e y ≡ false → name_cmp x y ≡ Less
below_less First x y h k = absurd (both_ways false refl h)
below_less (At n) x y h k = by (is_gt_cases (name_cmp n y) k)
  where
    low : name_cmp x n ≡ Less
    low = turned_greater n x (is_gt_greater (name_cmp n x) h)

    by : (name_cmp n y ≡ Less) ⊎ (name_cmp n y ≡ Equal) → name_cmp x y ≡ Less
    by (inl e) = trans x n y low e
    by (inr e) = to_equal x n y low e
below_less (Behind n) x y h k = by (is_ge_cases (name_cmp n x) h)
  where
    high : name_cmp n y ≡ Less
    high = is_ge_less (name_cmp n y) k

    by : (name_cmp n x ≡ Equal) ⊎ (name_cmp n x ≡ Greater) → name_cmp x y ≡ Less
    by (inl e) = ap (λ (w : Name). name_cmp w y) (sym (name_exact n x e)) ∙ high
    by (inr e) = trans x n y (turned_greater n x e) high
below_less End x y h k = absurd (both_ways true k refl)

-- what is greater than a name that is not below an edge is not below it
pub not_below_up : (e : Edge) (x y : Name) → is_below e x ≡ false → name_cmp x y ≡ Less → is_below e y ≡ false
not_below_up First x y h k = refl
not_below_up (At n) x y h k = by (is_gt_cases (name_cmp n x) h)
  where
    by : (name_cmp n x ≡ Less) ⊎ (name_cmp n x ≡ Equal) → is_gt (name_cmp n y) ≡ false
    by (inl e) = ap is_gt (trans n x y e k)
    by (inr e) = ap is_gt (from_equal n x y e k)
not_below_up (Behind n) x y h k = ap is_ge (trans n x y (is_ge_less (name_cmp n x) h) k)
not_below_up End x y h k = absurd (both_ways true h refl)
