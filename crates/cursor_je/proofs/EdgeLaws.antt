-- Edges, and the names on either side.
use Rattle.std.proofs.Common.{◌≡◌, ℕ, zero, suc, ◌==◌, cond, arith, List, [], ◌∷◌, ◌++◌, Bool, false, not, ◌&&◌, refl, ap, sym, ◌∙◌, Ordering, Less, Equal, Greater, is_eq, is_gt}
use Rattle.std.specs.Ordering.{nat_cmp, ordering_then, ordering_reverse, is_ge}
use Rattle.std.proofs.lemmas.Bool.{lt-ltb}
use Rattle.je_order.specs.Order.{bytes_cmp, name_cmp}
use Rattle.je_order.specs.Edges.{Edge, is_below}
use Rattle.je_order.specs.Edges.Edge.{First, At, Behind, End}
use Rattle.je_order.specs.declared.name.Name.{Name}
use Rattle.store_model.specs.Reads.{behind_key, just, is_within}
use Rattle.store_model.proofs.StoreLaws.{names_total}

-- ---- behind a key

then_same : (o p q : Ordering) → is_gt p ≡ is_ge q → is_gt (ordering_then o p) ≡ is_ge (ordering_then o q)
then_same Less p q h = refl
then_same Equal p q h = h
then_same Greater p q h = refl

nothing_first : (bytes : List ℕ) → is_gt (bytes_cmp [] bytes) ≡ false
nothing_first [] = refl
nothing_first (x ∷ xs) = refl

zero_first : (y : ℕ) (ys : List ℕ) → is_gt (bytes_cmp (0 ∷ []) (y ∷ ys)) ≡ false
zero_first zero ys = nothing_first ys
zero_first (suc y) ys = ap (λ (b : Bool). is_gt (ordering_then (cond b Less (cond (0 == suc y) Equal Greater)) (bytes_cmp [] ys))) (lt-ltb 0 (suc y) (omega arith))

-- the key and a zero byte come right behind the key
right_behind : (key bytes : List ℕ) → is_gt (bytes_cmp (key ++ 0 ∷ []) bytes) ≡ is_ge (bytes_cmp key bytes)
right_behind [] [] = refl
right_behind [] (y ∷ ys) = zero_first y ys
right_behind (x ∷ xs) [] = refl
right_behind (x ∷ xs) (y ∷ ys) = then_same (nat_cmp x y) (bytes_cmp (xs ++ 0 ∷ []) ys) (bytes_cmp xs ys) (right_behind xs ys)

then_first : (o p : Ordering) → is_gt p ≡ false → is_gt (ordering_then o p) ≡ is_gt o
then_first Less p h = refl
then_first Equal p h = h
then_first Greater p h = refl

-- the edge behind a key is above the names of keys up to it
pub below_behind_key : (key : List ℕ) (n : Name) → is_ge (bytes_cmp key n.key) ≡ is_below (behind_key key) n
below_behind_key key n = sym (then_first (bytes_cmp (key ++ 0 ∷ []) n.key) (bytes_cmp [] n.dup) (nothing_first n.dup) ∙ right_behind key n.key)

-- ---- along rising names

not_above : (n a b : Name) (o : Ordering) → name_cmp n a ≡ o → is_gt o ≡ false → name_cmp a b ≡ Less → name_cmp n b ≡ Less
not_above n a b Less is h less = names_total.trans n a b is less
not_above n a b Equal is h less = names_total.congr n a b is ∙ less
not_above n a b Greater is h less = absurd cc

ge_gt : (o : Ordering) → is_ge o ≡ false → is_gt o ≡ false
ge_gt Less h = refl
ge_gt Equal h = cc
ge_gt Greater h = cc

-- a name that is not below an edge has no later name below it
pub stays_above : (edge : Edge) (a b : Name) → name_cmp a b ≡ Less → is_below edge a ≡ false → is_below edge b ≡ false
stays_above First a b less h = refl
stays_above (At n) a b less h = ap is_gt (not_above n a b (name_cmp n a) refl h less)
stays_above (Behind n) a b less h = ap is_ge (not_above n a b (name_cmp n a) refl (ge_gt (name_cmp n a) h) less)
stays_above End a b less h = cc

-- ---- one name

same_name : (o p : Ordering) → p ≡ ordering_reverse o → (not (is_gt o) && is_ge o) ≡ is_eq p
same_name Less p h = sym (ap is_eq h)
same_name Equal p h = sym (ap is_eq h)
same_name Greater p h = sym (ap is_eq h)

-- the names from a name up to right behind it are that name
pub just_that : (n m : Name) → is_within (just n) m ≡ is_eq (name_cmp m n)
just_that n m = same_name (name_cmp n m) (name_cmp m n) (names_total.antisymm m n)

itself : (o : Ordering) → o ≡ ordering_reverse o → o ≡ Equal
itself Less h = cc
itself Equal h = refl
itself Greater h = cc

pub name_same : (a : Name) → name_cmp a a ≡ Equal
name_same a = itself (name_cmp a a) (names_total.antisymm a a)
