-- What holds while the search for a cycle goes on.
use Rattle.std.specs.Prelude.{◌≡◌, ℕ, ◌+◌, ◌<◌, Bool, true, false, cond, not, List, [], ◌∷◌, ◌++◌, reverse, length, ◌⊎◌}
use Rattle.std.specs.List.{list_any, filter, AllByRecursion}
use Rattle.std.specs.BTreeSet.{BTreeSet, contains}
use Rattle.je_order.specs.declared.txn_id.TxnId.{TxnId}
use Rattle.je_order.specs.Transactions.{is_same_txn, txn_cmp}
use Rattle.waits_for.specs.Cycles.{is_pair, is_edge, is_in, is_cycle, comes_first, begins_with}

-- x was seen
abbrev pub is_seen : BTreeSet TxnId → TxnId → Bool
is_seen seen x = contains txn_cmp seen x

-- the edges of one waiter, the least owner first
abbrev pub AreRising : List (TxnId × TxnId) → Type 0
AreRising [] = Unit {0}
AreRising (e ∷ es) = AllByRecursion (λ f. e.1.0 < f.1.0) es × AreRising es

-- a path from the first transaction on, its last one first in the list: each was waited for by the one behind it, and none is named twice
abbrev pub IsPath : List (TxnId × TxnId) → TxnId → List TxnId → Type 0
IsPath edges from [] = ⊥
IsPath edges from (x ∷ []) = is_same_txn x from ≡ true
IsPath edges from (x ∷ (w ∷ ws)) = (is_edge edges w x ≡ true) × (is_in x (w ∷ ws) ≡ false) × IsPath edges from (w ∷ ws)

-- back along such a path to a transaction
abbrev pub back_to : TxnId → List TxnId → List TxnId
back_to x [] = []
back_to x (p ∷ ps) = cond (is_same_txn x p) (p ∷ ps) (back_to x ps)

-- the edges that are to be followed, the next one first, lead from along the path, from its end backwards, and those of one transaction rise
abbrev pub AreAhead : List TxnId → List (TxnId × TxnId) → Type 0
AreAhead ps [] = Unit {0}
AreAhead ps (e ∷ es) = (is_in e.0 ps ≡ true) × AllByRecursion (λ f. is_same_txn e.0 f.0 ≡ true → e.1.0 < f.1.0) es × AreAhead (back_to e.0 ps) es

-- no cycle from the first transaction on comes before the path
abbrev pub NoneBefore : List (TxnId × TxnId) → TxnId → List TxnId → Type 0
NoneBefore edges from list = (other : List TxnId) → is_cycle edges other ≡ true → begins_with from other ≡ true → comes_first list (other ++ from ∷ []) ≡ true

-- the search stands at the end of a path: each edge from a transaction that was seen is still to be followed, or leads to one that was seen and is not the first
pub record IsWalk (edges : List (TxnId × TxnId)) (from : TxnId) (S : TxnId → Bool) (ps : List TxnId) (todo : List (TxnId × TxnId)) : Type 0 where
  pub path : IsPath edges from ps
  pub seen : (x : TxnId) → is_in x ps ≡ true → S x ≡ true
  pub ahead : AreAhead ps todo
  pub real : AllByRecursion (λ e. is_edge edges e.0 e.1 ≡ true) todo
  pub closed : (x y : TxnId) → is_edge edges x y ≡ true → S x ≡ true → (list_any (is_pair x y) todo ≡ true) ⊎ ((S y ≡ true) × (is_same_txn y from ≡ false))
  pub first : NoneBefore edges from (reverse ps)

-- the same where an edge from the end of the path is followed now
pub record IsAtEdge (edges : List (TxnId × TxnId)) (from : TxnId) (S : TxnId → Bool) (ps : List TxnId) (todo : List (TxnId × TxnId)) (x y : TxnId) : Type 0 where
  pub path : IsPath edges from ps
  pub last : begins_with x ps ≡ true
  pub seen : (z : TxnId) → is_in z ps ≡ true → S z ≡ true
  pub edge : is_edge edges x y ≡ true
  pub above : AllByRecursion (λ f. is_same_txn x f.0 ≡ true → y.0 < f.1.0) todo
  pub ahead : AreAhead ps todo
  pub real : AllByRecursion (λ e. is_edge edges e.0 e.1 ≡ true) todo
  pub closed : (a b : TxnId) → is_edge edges a b ≡ true → S a ≡ true → (is_pair a b (x, y) ≡ true) ⊎ ((list_any (is_pair a b) todo ≡ true) ⊎ ((S b ≡ true) × (is_same_txn b from ≡ false)))
  pub first : NoneBefore edges from (reverse ps)

-- how many edges may still be followed
abbrev pub left : List (TxnId × TxnId) → (TxnId → Bool) → List (TxnId × TxnId) → ℕ
left edges S todo = length (filter (λ e. not (S e.0)) edges) + length todo
