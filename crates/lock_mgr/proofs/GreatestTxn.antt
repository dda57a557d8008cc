-- The greatest of a list.
use Rattle.std.proofs.Common.{◌≡◌, ℕ, ◌<◌, ◌≤◌, true, false, List, [], ◌∷◌, ◌++◌, map, zero, suc, length, get_or, refl, ap, ◌∙◌, subst, ◌⊎◌, inl, inr, ⊎_elim, arith}
use Rattle.std.specs.Prelude.{nat_le, nat_lt}
use Rattle.std.specs.List.{list_all}
use Rattle.std.proofs.lemmas.Bool.{and_from, or_parts, or_left, or_right, cases_Bool, cond-true, cond-false, ltb-true, ltb-false, le-leb}
use Rattle.je_order.specs.declared.txn_id.TxnId.{TxnId}
use Rattle.waits_for.specs.Cycles.{is_in}
use Rattle.je_order.specs.Transactions.{is_same_txn}
use Rattle.je_order.proofs.TxnIds.{same_itself, same_either}
use Rattle.lock_mgr.specs.Deadlock.{is_greatest}
use Rattle.lock_mgr.specs.Reach.{greater, greatest_from}

record IsTop (g f : TxnId) (xs : List TxnId) : Type 0 where
  pub first : f.0 ≤ g.0
  pub all : list_all (λ x. nat_le x.0 g.0) xs ≡ true
  pub among : (g ≡ f) ⊎ (is_in g xs ≡ true)

top : (f : TxnId) (xs : List TxnId) → IsTop (greatest_from f xs) f xs
top f [] = record { first = omega arith; all = refl; among = inl refl }
top f (x ∷ xs) = ⊎_elim
    (λ h. let e : greater f x ≡ x = cond-true (nat_lt f.0 x.0) x f h in let t = top (greater f x) xs in
    let l = ltb-true f.0 x.0 h in let m : x.0 ≤ (greatest_from (greater f x) xs).0 = subst (λ (u : TxnId). u.0 ≤ (greatest_from (greater f x) xs).0) e t.first in
    record {
      first = omega arith;
      all = and_from (nat_le x.0 (greatest_from (greater f x) xs).0) _ (le-leb x.0 (greatest_from (greater f x) xs).0 m) t.all;
      among = ⊎_elim (λ i. inr (or_left (is_same_txn (greatest_from (greater f x) xs) x) (is_in (greatest_from (greater f x) xs) xs) (subst (λ (u : TxnId). is_same_txn (greatest_from (greater f x) xs) u ≡ true) (i ∙ e) (same_itself (greatest_from (greater f x) xs))))) (λ i. inr (or_right (is_same_txn (greatest_from (greater f x) xs) x) (is_in (greatest_from (greater f x) xs) xs) i)) t.among;
    })
    (λ h. let e : greater f x ≡ f = cond-false (nat_lt f.0 x.0) x f h in let t = top (greater f x) xs in
    let l = ltb-false f.0 x.0 h in let m : f.0 ≤ (greatest_from (greater f x) xs).0 = subst (λ (u : TxnId). u.0 ≤ (greatest_from (greater f x) xs).0) e t.first in
    let k : x.0 ≤ (greatest_from (greater f x) xs).0 = omega (arith, l, m) in
    record {
      first = m;
      all = and_from (nat_le x.0 (greatest_from (greater f x) xs).0) _ (le-leb x.0 (greatest_from (greater f x) xs).0 k) t.all;
      among = ⊎_elim (λ i. inl (i ∙ e)) (λ i. inr (or_right (is_same_txn (greatest_from (greater f x) xs) x) (is_in (greatest_from (greater f x) xs) xs) i)) t.among;
    })
    (cases_Bool (nat_lt f.0 x.0))

pub greatest_is : (f : TxnId) (xs : List TxnId) → f ≡ get_or xs 0 f → 0 < length xs → is_greatest (greatest_from f xs) xs ≡ true
greatest_is f [] e h = absurd (omega arith)
greatest_is f (x ∷ xs) e h = let t = top f (x ∷ xs) in
    and_from (is_in (greatest_from f (x ∷ xs)) (x ∷ xs)) (list_all (λ y. nat_le y.0 (greatest_from f (x ∷ xs)).0) (x ∷ xs))
    (⊎_elim (λ i. or_left (is_same_txn (greatest_from f (x ∷ xs)) x) (is_in (greatest_from f (x ∷ xs)) xs) (subst (λ (u : TxnId). is_same_txn (greatest_from f (x ∷ xs)) u ≡ true) (i ∙ e) (same_itself (greatest_from f (x ∷ xs))))) (λ i. i) t.among) t.all

pub greatest_list : (d : TxnId) (xs : List TxnId) → 0 < length xs → is_greatest (greatest_from (get_or xs 0 d) xs) xs ≡ true
greatest_list d [] h = absurd (omega arith)
greatest_list d (x ∷ xs) h = greatest_is x (x ∷ xs) refl h

pub append_none : {X : Type 0} (xs : List X) → xs ++ [] ≡ xs
append_none [] = refl
append_none (x ∷ xs) = ap (λ ys. x ∷ ys) (append_none xs)

-- who is not among the victims is not this one
pub not_among : {X : Type 0} (t : TxnId) (vs : List (TxnId × X)) (i : ℕ) (d : TxnId × X) → is_in t (map (λ v. v.0) vs) ≡ false → i < length vs → is_same_txn (get_or vs i d).0 t ≡ false
not_among t [] i d n h = absurd (omega arith)
not_among t (v ∷ vs) zero d n h = same_either v.0 t ∙ (or_parts (is_same_txn t v.0) (is_in t (map (λ u. u.0) vs)) n).0
not_among t (v ∷ vs) (suc i) d n h = not_among t vs i d (or_parts (is_same_txn t v.0) (is_in t (map (λ u. u.0) vs)) n).1 (omega arith)
