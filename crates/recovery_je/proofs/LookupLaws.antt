-- Entries by their LSNs.
use Rattle.std.proofs.Common.{◌≡◌, ◌≢◌, ◌<◌, ◌≤◌, ◌==◌, ℕ, zero, suc, cond, List, [], ◌∷◌, map, Bool, true, false, None, Some, length, get_or, refl, sym, subst, ◌∙◌, arith}
use Rattle.std.proofs.lemmas.Bool.{cond-false, ne_eqb}
use Rattle.std.specs.List.{AllByRecursion}
use Rattle.log_entry.specs.declared.entry.Entry.{Entry}
use Rattle.log_trees.specs.Placed.{Placed, AreInOrder, entry_at}

-- the LSNs of entries
abbrev pub lsns_of : List Placed → List ℕ
lsns_of es = map (λ (p : Placed). p.0) es

-- ---- order

-- an LSN is below all later ones
pub below_all : (n : ℕ) (es : List Placed) (i : ℕ) → AllByRecursion (λ q. n < q.0) es → i < length es → n < get_or (lsns_of es) i 0
below_all n [] i all lt = absurd (omega (arith, lt))
below_all n (p ∷ es) zero all lt = all.0
below_all n (p ∷ es) (suc i) all lt = below_all n es i all.1 (omega (arith, lt))

pub lsns_rise : (es : List Placed) (i j : ℕ) → AreInOrder es → i ≤ j → j < length es → get_or (lsns_of es) i 0 ≤ get_or (lsns_of es) j 0
lsns_rise [] i j up le lt = absurd (omega (arith, lt))
lsns_rise (p ∷ es) zero zero up le lt = omega arith
lsns_rise (p ∷ es) zero (suc j) up le lt = let below = below_all p.0 es j up.0 (omega (arith, lt)) in omega (arith, below)
lsns_rise (p ∷ es) (suc i) zero up le lt = absurd (omega (arith, le))
lsns_rise (p ∷ es) (suc i) (suc j) up le lt = lsns_rise es i j up.1 (omega (arith, le)) (omega (arith, lt))

-- ---- look-ups

-- an LSN that none of the entries has
pub of_none : (es : List Placed) (at : ℕ) → ((k : ℕ) → k < length es → get_or (lsns_of es) k 0 ≢ at) → None ≡ entry_at es at
of_none [] at none = refl
of_none (p ∷ es) at none =
    of_none es at (λ k lt. none (suc k) (omega (arith, lt)))
    ∙ sym (cond-false (p.0 == at) (Some p.1) (entry_at es at) (ne_eqb p.0 at (none 0 (omega arith))))

-- an entry that an LSN names is one of the entries
pub named_entry : (P : Entry → Type 0) (es : List Placed) (at : ℕ) (e : Entry) → AllByRecursion (λ p. P p.1) es → Some e ≡ entry_at es at → P e
named_entry P [] at e all is = absurd cc
named_entry P (x ∷ es) at e all is = by_test (named_entry P es at e all.1) (x.0 == at) is
  where
    by_test : (Some e ≡ entry_at es at → P e) → (b : Bool) → Some e ≡ cond b (Some x.1) (entry_at es at) → P e
    by_test later true h = let same : e ≡ x.1 = cc in subst P (sym same) all.0
    by_test later false h = later h
