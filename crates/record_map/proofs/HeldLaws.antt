-- What is held of names, and the order that it shows.
use Rattle.std.proofs.Common.{◌≡◌, ℕ, zero, suc, List, [], ◌∷◌, take, ◌≤◌, length, arith, refl, ap, ap₂, sym, ◌∙◌, inl, inr}
use Rattle.std.proofs.lemmas.Bool.{cases_order}
use Rattle.std.proofs.lemmas.List.{length-take-le}
use Rattle.std.specs.declared.cmp.Ordering.{Ordering}
use Rattle.std.specs.declared.cmp.Ordering.TheVariants.{Less, Equal, Greater}
use Rattle.std.specs.Ordering.{ordering_then, ordering_reverse, nat_cmp}
use Rattle.std.specs.Cmp.{nat_cmp_is}
use Rattle.je_order.specs.Order.{bytes_cmp, name_cmp}
use Rattle.je_order.specs.declared.name.Name.{Name}
use Rattle.je_order.specs.Held.{padded_to}
use Rattle.je_order.proofs.PaddedLaws.{padded_len, padded_less}
use Rattle.record_map.specs.Held.{name_held, IsHeld}
use Rattle.record_map.specs.declared.held_name.HeldName.TheVariants.{Short}
use Rattle.std.proofs.lemmas.Cmp.{nat_list_cmp_total}

-- a head that is less is that of a lesser key
pub less_by_head : (count : ℕ) (a b : List ℕ) → bytes_cmp (padded_to count a) (padded_to count b) ≡ Less → bytes_cmp a b ≡ Less
less_by_head zero a b h = cc
less_by_head (suc count) [] [] h = less_by_head count [] [] h
less_by_head (suc count) [] (y ∷ b) h = refl
less_by_head (suc count) (zero ∷ a) [] h = behind_zero a (less_by_head count a [] h)
  where
    behind_zero : (rest : List ℕ) → bytes_cmp rest [] ≡ Less → Greater ≡ Less
    behind_zero [] e = cc
    behind_zero (z ∷ rest) e = e
less_by_head (suc count) (suc x ∷ a) [] h =
    ap (λ (o : Ordering). ordering_then o (bytes_cmp (padded_to count a) (padded_to count []))) (nat_cmp_is (suc x) 0 Greater (omega arith)) ∙ h
less_by_head (suc count) (x ∷ a) (y ∷ b) h = by_first (nat_cmp x y) (less_by_head count a b) h
  where
    by_first : (o : Ordering) → (bytes_cmp (padded_to count a) (padded_to count b) ≡ Less → bytes_cmp a b ≡ Less) → ordering_then o (bytes_cmp (padded_to count a) (padded_to count b)) ≡ Less → ordering_then o (bytes_cmp a b) ≡ Less
    by_first Less step h = refl
    by_first Equal step h = step h
    by_first Greater step h = h

-- heads that differ decide the order of the names
pub by_heads : (count : ℕ) (a b : Name) (o : Ordering) → bytes_cmp (padded_to count a.key) (padded_to count b.key) ≡ o → (o ≡ Equal → name_cmp a b ≡ o) → name_cmp a b ≡ o
by_heads count a b Less h equal = ap (λ (k : Ordering). ordering_then k (bytes_cmp a.dup b.dup)) (less_by_head count a.key b.key h)
by_heads count a b Equal h equal = equal refl
by_heads count a b Greater h equal =
    let back : bytes_cmp (padded_to count b.key) (padded_to count a.key) ≡ Less = nat_list_cmp_total.antisymm (padded_to count b.key) (padded_to count a.key) ∙ ap ordering_reverse h in
    let less : bytes_cmp b.key a.key ≡ Less = less_by_head count b.key a.key back in
    ap (λ (k : Ordering). ordering_then k (bytes_cmp a.dup b.dup)) (nat_list_cmp_total.antisymm a.key b.key ∙ ap ordering_reverse less)

-- ---- keys that are no longer than their heads

suc_cmp : (m n : ℕ) → nat_cmp (suc m) (suc n) ≡ nat_cmp m n
suc_cmp m n =
    elim (cases_order m n) [
      | inl same ↦ sym (nat_cmp_is (suc m) (suc n) Equal (omega (arith, same))) ∙ nat_cmp_is m n Equal same
      | inr other ↦ elim other [
        | inl less ↦ sym (nat_cmp_is (suc m) (suc n) Less (omega (arith, less))) ∙ nat_cmp_is m n Less less
        | inr more ↦ sym (nat_cmp_is (suc m) (suc n) Greater (omega (arith, more))) ∙ nat_cmp_is m n Greater more
      ]
    ]

-- where heads are the same, such keys are ordered by their lengths
pub cmp_by_lengths : (count : ℕ) (a b : List ℕ) → bytes_cmp (padded_to count a) (padded_to count b) ≡ Equal → length a ≤ count → length b ≤ count → bytes_cmp a b ≡ nat_cmp (length a) (length b)
cmp_by_lengths zero [] [] h la lb = refl
cmp_by_lengths zero (x ∷ a) b h la lb = absurd (omega arith)
cmp_by_lengths zero [] (y ∷ b) h la lb = absurd (omega arith)
cmp_by_lengths (suc count) [] [] h la lb = refl
cmp_by_lengths (suc count) [] (y ∷ b) h la lb = nat_cmp_is 0 (length (y ∷ b)) Less (omega arith)
cmp_by_lengths (suc count) (x ∷ a) [] h la lb = nat_cmp_is (length (x ∷ a)) 0 Greater (omega arith)
cmp_by_lengths (suc count) (x ∷ a) (y ∷ b) h la lb =
    by_first (nat_cmp x y) (λ e. cmp_by_lengths count a b e (omega arith) (omega arith)) h
  where
    by_first : (o : Ordering) → (bytes_cmp (padded_to count a) (padded_to count b) ≡ Equal → bytes_cmp a b ≡ nat_cmp (length a) (length b)) →
        ordering_then o (bytes_cmp (padded_to count a) (padded_to count b)) ≡ Equal → ordering_then o (bytes_cmp a b) ≡ nat_cmp (length (x ∷ a)) (length (y ∷ b))
    by_first Less step e = cc
    by_first Equal step e = step e ∙ sym (suc_cmp (length a) (length b))
    by_first Greater step e = cc

-- ---- what is held of a name

-- as many bytes as their length says
held_len : (len : ℕ) (bytes : List ℕ) → IsHeld (Short len bytes) → length (take len bytes) ≡ len
held_len len bytes held = length-take-le len bytes (omega (arith, held.1, ap length held.0, padded_len 22 (take len bytes)))

-- the first bytes of a short key
pub short_head : (len : ℕ) (bytes : List ℕ) → IsHeld (Short len bytes) → take 15 bytes ≡ padded_to 15 (take len bytes)
short_head len bytes held = ap (take 15) held.0 ∙ padded_less 15 22 (take len bytes) (omega arith)

then_none : (o : Ordering) → ordering_then o Equal ≡ o
then_none Less = refl
then_none Equal = refl
then_none Greater = refl

-- short names are ordered by their bytes with zeros behind, and then by their lengths
pub cmp_short : (la lb : ℕ) (a b : List ℕ) → IsHeld (Short la a) → IsHeld (Short lb b) →
    ordering_then (bytes_cmp a b) (nat_cmp la lb) ≡ name_cmp (name_held (Short la a)) (name_held (Short lb b))
cmp_short la lb a b ha hb = by_bytes (bytes_cmp a b) refl
  where
    m : Name
    m = name_held (Short la a)

    n : Name
    n = name_held (Short lb b)

    heads : bytes_cmp (padded_to 22 m.key) (padded_to 22 n.key) ≡ bytes_cmp a b
    heads = sym (ap₂ bytes_cmp ha.0 hb.0)

    by_bytes : (o : Ordering) → bytes_cmp a b ≡ o → ordering_then o (nat_cmp la lb) ≡ name_cmp m n
    by_bytes Less e = sym (by_heads 22 m n Less (heads ∙ e) (λ h. cc))
    by_bytes Equal e =
        sym (then_none (bytes_cmp m.key n.key)
        ∙ cmp_by_lengths 22 m.key n.key (heads ∙ e) (omega (arith, held_len la a ha, ha.1)) (omega (arith, held_len lb b hb, hb.1))
        ∙ ap₂ nat_cmp (held_len la a ha) (held_len lb b hb))
    by_bytes Greater e = sym (by_heads 22 m n Greater (heads ∙ e) (λ h. cc))
