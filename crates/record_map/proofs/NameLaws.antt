-- The order of names, and what a list has under a name.
use Rattle.std.proofs.Common.{◌≡◌, ℕ, List, Option, None, Some, IfSome, sym, Bool, false, cond, refl, ap, ap₂, ◌∙◌, ◌⊎◌, inl, inr, Ordering, Less, Equal, Greater, is_eq, is_lt, is_gt}
use Rattle.std.specs.Ordering.{ordering_then, ordering_reverse}
use Rattle.std.proofs.lemmas.Map.Lookups.{exact_bytes}
use Rattle.je_order.specs.Order.{bytes_cmp, name_cmp}
use Rattle.je_order.specs.declared.name.Name.{Name}
use Rattle.record_map.specs.Held.{names_are_ordered}

then_equal : (o p : Ordering) → ordering_then o p ≡ Equal → (o ≡ Equal) × (p ≡ Equal)
then_equal Less p h = (h, cc)
then_equal Equal p h = (refl, h)
then_equal Greater p h = (h, cc)

-- names that the order does not tell apart are the same
pub name_exact : (a b : Name) → name_cmp a b ≡ Equal → a ≡ b
name_exact a b h =
    let s = then_equal (bytes_cmp a.key b.key) (bytes_cmp a.dup b.dup) h in
    let make : List ℕ → List ℕ → Name = λ k d. record { key = k; dup = d } in
    ap₂ make (exact_bytes a.key b.key s.0) (exact_bytes a.dup b.dup s.1)

-- what is found by the order alone has that very name
pub found_exact : {A : Type 0} (name : A → Name) (x : Name) (o : Option A) → IfSome o (λ p. name_cmp x (name p) ≡ Equal) → IfSome o (λ p. name p ≡ x)
found_exact name x None h = tt
found_exact name x (Some p) h = sym (name_exact x (name p) h)

-- a name is the same as itself
pub name_same : (a : Name) → name_cmp a a ≡ Equal
name_same a = itself (name_cmp a a) (names_are_ordered.antisymm a a)
  where
    itself : (o : Ordering) → o ≡ ordering_reverse o → o ≡ Equal
    itself Less h = cc
    itself Equal h = refl
    itself Greater h = cc

-- a name is another one, or the order tells them apart
pub same_or_other : (a b : Name) → (a ≡ b) ⊎ (is_eq (name_cmp a b) ≡ false)
same_or_other a b = by_order (name_cmp a b) refl
  where
    by_order : (o : Ordering) → name_cmp a b ≡ o → (a ≡ b) ⊎ (is_eq (name_cmp a b) ≡ false)
    by_order Less e = inr (ap is_eq e)
    by_order Equal e = inl (name_exact a b e)
    by_order Greater e = inr (ap is_eq e)

-- a name that is not below another one is up to it from there
pub up_from_back : (a b : Name) → is_lt (name_cmp a b) ≡ false → is_gt (name_cmp b a) ≡ false
up_from_back a b h = ap is_gt (names_are_ordered.antisymm b a) ∙ back (name_cmp a b) h
  where
    back : (o : Ordering) → is_lt o ≡ false → is_gt (ordering_reverse o) ≡ false
    back Less e = cc
    back Equal e = refl
    back Greater e = refl

-- ---- what a list has under a name

-- a name that is not another one has what it had before
pub other_stays : {A : Type 0} (a b : Name) (x y : A) → is_eq (name_cmp a b) ≡ false → cond (is_eq (name_cmp a b)) x y ≡ y
other_stays a b x y apart = ap (λ (t : Bool). cond t x y) apart

-- a name has what was put under it
pub same_gets : {A : Type 0} (a : Name) (x y : A) → cond (is_eq (name_cmp a a)) x y ≡ x
same_gets a x y = ap (λ (o : Ordering). cond (is_eq o) x y) (name_same a)
