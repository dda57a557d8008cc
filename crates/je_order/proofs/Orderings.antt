-- What a test of an ordering says, and names that compare as equal.
use Rattle.std.proofs.Common.{◌≡◌, ℕ, List, true, refl, ap₂, Ordering, Less, Equal, Greater, is_eq, is_lt, is_gt}
use Rattle.std.specs.Ordering.{ordering_then}
use Rattle.std.proofs.lemmas.Map.Lookups.{exact_bytes}
use Rattle.je_order.specs.Order.{bytes_cmp, name_cmp}
use Rattle.je_order.specs.declared.name.Name.{Name}

-- `is_lt` is `Less`
pub less_from_test : (o : Ordering) → is_lt o ≡ true → o ≡ Less
less_from_test Less h = refl
less_from_test Equal h = cc
less_from_test Greater h = cc

-- `is_eq` is `Equal`
pub equal_from_test : (o : Ordering) → is_eq o ≡ true → o ≡ Equal
equal_from_test Less h = cc
equal_from_test Equal h = refl
equal_from_test Greater h = cc

-- `is_gt` is `Greater`
pub greater_from_test : (o : Ordering) → is_gt o ≡ true → o ≡ Greater
greater_from_test Less h = cc
greater_from_test Equal h = cc
greater_from_test Greater h = refl

-- two orders tell nothing apart together only where neither does
pub then_equal : (o p : Ordering) → ordering_then o p ≡ Equal → (o ≡ Equal) × (p ≡ Equal)
then_equal Less p h = (h, cc)
then_equal Equal p h = (refl, h)
then_equal Greater p h = (h, cc)

-- names that the order does not tell apart are the same
pub name_exact : (a b : Name) → name_cmp a b ≡ Equal → a ≡ b
name_exact a b h =
    let s = then_equal (bytes_cmp a.key b.key) (bytes_cmp a.dup b.dup) h in
    let make : List ℕ → List ℕ → Name = λ k d. record { key = k; dup = d } in
    ap₂ make (exact_bytes a.key b.key s.0) (exact_bytes a.dup b.dup s.1)
