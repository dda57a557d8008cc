-- Which list comes first.
use Rattle.std.proofs.Common.{◌≡◌, Bool, true, false, ◌&&◌, ◌||◌, nat_lt, List, [], ◌∷◌, ◌++◌, refl, ap₂, sym, ◌∙◌, ◌⊎◌, inl, inr, ⊎_elim}
use Rattle.std.proofs.lemmas.Bool.{and_parts, and_from, or_left, or_right, or_cases, false≢true}
use Rattle.je_order.specs.declared.txn_id.TxnId.{TxnId}
use Rattle.je_order.specs.Transactions.{is_same_txn}
use Rattle.je_order.proofs.TxnIds.{same_is, same_itself}
use Rattle.waits_for.specs.Cycles.{comes_first}

-- a list that comes first does so however it goes on, or the other goes on from it
pub split_first : (p l : List TxnId) → comes_first p l ≡ true → ((r : List TxnId) → comes_first (p ++ r) l ≡ true) ⊎ ((s : List TxnId) × (l ≡ p ++ s))
split_first [] l h = inr (l, refl)
split_first (x ∷ p) [] h = absurd (false≢true h)
split_first (x ∷ p) (y ∷ l) h = ⊎_elim
    (λ e. inl (λ r. or_left (nat_lt x.0 y.0) (is_same_txn x y && comes_first (p ++ r) l) e))
    (λ e. let k = and_parts (is_same_txn x y) (comes_first p l) e in
    ⊎_elim
    (λ f. inl (λ r. or_right (nat_lt x.0 y.0) (is_same_txn x y && comes_first (p ++ r) l) (and_from (is_same_txn x y) (comes_first (p ++ r) l) k.0 (f r))))
    (λ f. inr (f.0, ap₂ (λ (a : TxnId) (b : List TxnId). a ∷ b) (sym (same_is x y k.0)) f.1))
    (split_first p l k.1))
    (or_cases (nat_lt x.0 y.0) (is_same_txn x y && comes_first p l) h)

-- behind the same list what comes first goes on to
pub after_same : (p a b : List TxnId) → comes_first a b ≡ true → comes_first (p ++ a) (p ++ b) ≡ true
after_same [] a b h = h
after_same (x ∷ p) a b h = or_right (nat_lt x.0 x.0) (is_same_txn x x && comes_first (p ++ a) (p ++ b)) (and_from (is_same_txn x x) (comes_first (p ++ a) (p ++ b)) (same_itself x) (after_same p a b h))

-- the front of a list that comes first
pub front_first : (p q l : List TxnId) → comes_first (p ++ q) l ≡ true → comes_first p l ≡ true
front_first [] q l h = refl
front_first (x ∷ p) q [] h = h
front_first (x ∷ p) q (y ∷ l) h = ⊎_elim
    (λ e. or_left (nat_lt x.0 y.0) (is_same_txn x y && comes_first p l) e)
    (λ e. let k = and_parts (is_same_txn x y) (comes_first (p ++ q) l) e in
    or_right (nat_lt x.0 y.0) (is_same_txn x y && comes_first p l) (and_from (is_same_txn x y) (comes_first p l) k.0 (front_first p q l k.1)))
    (or_cases (nat_lt x.0 y.0) (is_same_txn x y && comes_first (p ++ q) l) h)
