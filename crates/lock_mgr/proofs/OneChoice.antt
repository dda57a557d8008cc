-- The waits settle the victims.
use Rattle.std.proofs.Common.{◌≡◌, ◌≤◌, Bool, true, false, ◌&&◌, ◌||◌, nat_lt, List, [], ◌∷◌, ◌++◌, refl, ap, ap₂, sym, ◌∙◌, subst, ⊎_elim, arith}
use Rattle.std.specs.Prelude.{nat_le}
use Rattle.std.specs.List.{list_all}
use Rattle.std.proofs.lemmas.Bool.{and_parts, or_cases, both_ways, false≢true}
use Rattle.std.proofs.lemmas.Bool.Decides.{nat_tests}
use Rattle.je_order.specs.declared.txn_id.TxnId.{TxnId}
use Rattle.je_order.specs.Transactions.{is_same_txn}
use Rattle.je_order.proofs.TxnIds.{same_is}
use Rattle.waits_for.specs.Cycles.{is_in, closes_by, names_each_once, comes_first, IsFirstCycle}
use Rattle.lock_mgr.specs.Deadlock.{HasNoCycle, others, is_greatest, AreVictims, VictimsAreSettled}
use Rattle.lock_mgr.proofs.CycleLaws.{Waits}

-- ---- two lists that both come first

not_below : (x y : TxnId) → nat_lt x.0 y.0 ≡ true → is_same_txn y x ≡ true → ⊥
not_below x y h k = both_ways (nat_lt x.0 y.0) (grind (arith, nat_tests)) h

both_below : (x y : TxnId) → nat_lt x.0 y.0 ≡ true → nat_lt y.0 x.0 ≡ true → ⊥
both_below x y h k = both_ways (nat_lt x.0 y.0) (grind (arith, nat_tests)) h

one_first : (a b : List TxnId) → comes_first a b ≡ true → comes_first b a ≡ true → a ≡ b
one_first [] [] h k = refl
one_first [] (y ∷ b) h k = absurd (false≢true k)
one_first (x ∷ a) [] h k = absurd (false≢true h)
one_first (x ∷ a) (y ∷ b) h k = ⊎_elim
    (λ l. ⊎_elim
    (λ m. absurd (both_below x y l m))
    (λ m. absurd (not_below x y l (and_parts (is_same_txn y x) (comes_first b a) m).0))
    (or_cases (nat_lt y.0 x.0) (is_same_txn y x && comes_first b a) k))
    (λ l. let p = and_parts (is_same_txn x y) (comes_first a b) l in
    ⊎_elim
    (λ m. absurd (not_below y x m p.0))
    (λ m. ap₂ (λ (z : TxnId) (c : List TxnId). z ∷ c) (same_is x y p.0) (one_first a b p.1 (and_parts (is_same_txn y x) (comes_first b a) m).1))
    (or_cases (nat_lt y.0 x.0) (is_same_txn y x && comes_first b a) k))
    (or_cases (nat_lt x.0 y.0) (is_same_txn x y && comes_first a b) h)

tails : (x y : TxnId) (xs ys : List TxnId) → x ∷ xs ≡ y ∷ ys → (x ≡ y) × (xs ≡ ys)
tails x y xs ys e = (heads x y xs ys e, rests x y xs ys e)
  where
    heads : (a b : TxnId) (as_ bs : List TxnId) → a ∷ as_ ≡ b ∷ bs → a ≡ b
    heads a b as_ bs k = cc

    rests : (a b : TxnId) (as_ bs : List TxnId) → a ∷ as_ ≡ b ∷ bs → as_ ≡ bs
    rests a b as_ bs k = cc

longer : (t : TxnId) (xs : List TxnId) → [] ≡ xs ++ t ∷ [] → ⊥
longer t [] e = absurd (cc (e))
longer t (x ∷ xs) e = absurd (cc (e))

without_last : (t : TxnId) (xs ys : List TxnId) → xs ++ t ∷ [] ≡ ys ++ t ∷ [] → xs ≡ ys
without_last t [] [] e = refl
without_last t [] (y ∷ ys) e = absurd (longer t ys (tails t y [] (ys ++ t ∷ []) e).1)
without_last t (x ∷ xs) [] e = absurd (longer t xs (sym (tails x t (xs ++ t ∷ []) [] e).1))
without_last t (x ∷ xs) (y ∷ ys) e =
    let p = tails x y (xs ++ t ∷ []) (ys ++ t ∷ []) e in
    ap₂ (λ (z : TxnId) (c : List TxnId). z ∷ c) p.0 (without_last t xs ys p.1)

one_cycle : (R : Waits) (t : TxnId) (a b : List TxnId) → IsFirstCycle R t a → IsFirstCycle R t b → a ≡ b
one_cycle R t a b f g = without_last t a b (one_first (a ++ t ∷ []) (b ++ t ∷ []) (f.first b g.cycle g.from) (g.first a f.cycle f.from))

-- ---- one greatest

in_below : (u w : TxnId) (list : List TxnId) → is_in u list ≡ true → list_all (λ x. nat_le x.0 w.0) list ≡ true → nat_le u.0 w.0 ≡ true
in_below u w [] h k = absurd (false≢true h)
in_below u w (x ∷ xs) h k =
    let p = and_parts (nat_le x.0 w.0) (list_all (λ y. nat_le y.0 w.0) xs) k in
    ⊎_elim (λ e. subst (λ (y : TxnId). nat_le y.0 w.0 ≡ true) (sym (same_is u x e)) p.0) (λ e. in_below u w xs e p.1) (or_cases (is_same_txn u x) (is_in u xs) h)

same_both : (u w : TxnId) → nat_le u.0 w.0 ≡ true → nat_le w.0 u.0 ≡ true → is_same_txn u w ≡ true
same_both u w h k = grind (arith, nat_tests)

one_greatest : (u w : TxnId) (list : List TxnId) → is_greatest u list ≡ true → is_greatest w list ≡ true → u ≡ w
one_greatest u w list h k =
    let p = and_parts (is_in u list) (list_all (λ x. nat_le x.0 u.0) list) h in
    let q = and_parts (is_in w list) (list_all (λ x. nat_le x.0 w.0) list) k in
    same_is u w (same_both u w (in_below u w list p.0 q.1) (in_below w u list q.0 p.1))

-- ---- the victims

none_and_some : (R : Waits) (t : TxnId) (list : List TxnId) → HasNoCycle R → IsFirstCycle R t list → ⊥
none_and_some R t list none f = both_ways (closes_by R list) (none list) (and_parts (closes_by R list) (names_each_once list) f.cycle).0

pub victims_settled : VictimsAreSettled
victims_settled t R [] [] h k = refl
victims_settled t R [] (w ∷ ws) h k = absurd (none_and_some R t w.1 h k.0)
victims_settled t R (v ∷ vs) [] h k = absurd (none_and_some R t v.1 k h.0)
victims_settled t R (v ∷ vs) (w ∷ ws) h k =
    let cycles : v.1 ≡ w.1 = one_cycle R t v.1 w.1 h.0 k.0 in
    let names : w.0 ≡ v.0 = one_greatest w.0 v.0 w.1 k.1 (subst (λ (l : List TxnId). is_greatest v.0 l ≡ true) cycles h.1) in
    ap₂ (λ (a : TxnId × List TxnId) (b : List (TxnId × List TxnId)). a ∷ b)
    (ap₂ (λ (u : TxnId) (l : List TxnId). (u, l)) (sym names) cycles)
    (victims_settled t (others v.0 R) vs ws h.2 (subst (λ (u : TxnId). AreVictims t (others u R) ws) names k.2))
