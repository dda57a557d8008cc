-- Waits-for edges as a list of pairs (who waits, for whom), and cycles by that relation.
use Rattle.std.specs.Prelude.{◌≡◌, Bool, true, false, not, ◌&&◌, ◌||◌, nat_lt, List, [], ◌∷◌, ◌++◌}
use Rattle.std.specs.List.{list_any, filter}
use Rattle.je_order.specs.declared.txn_id.TxnId.{TxnId}
use Rattle.je_order.specs.Transactions.{is_same_txn}

-- the pair is that of these two
abbrev pub is_pair : TxnId → TxnId → TxnId × TxnId → Bool
is_pair x y e = is_same_txn x e.0 && is_same_txn y e.1

-- the pair leads from this one
abbrev pub is_from : TxnId → TxnId × TxnId → Bool
is_from x e = is_same_txn x e.0

-- x waits for y
abbrev pub is_edge : List (TxnId × TxnId) → TxnId → TxnId → Bool
is_edge edges x y = list_any (is_pair x y) edges

-- from x on each is related to the next, and the last to the first
abbrev pub leads_by : (TxnId → TxnId → Bool) → TxnId → TxnId → List TxnId → Bool
leads_by waits first x [] = waits x first
leads_by waits first x (y ∷ ys) = waits x y && leads_by waits first y ys

-- a list, not empty, in which each is related to the next and the last to the first
abbrev pub closes_by : (TxnId → TxnId → Bool) → List TxnId → Bool
closes_by waits [] = false
closes_by waits (x ∷ xs) = leads_by waits x x xs

-- x is in the list
abbrev pub is_in : TxnId → List TxnId → Bool
is_in x list = list_any (is_same_txn x) list

-- no transaction is in the list twice
abbrev pub names_each_once : List TxnId → Bool
names_each_once [] = true
names_each_once (x ∷ xs) = not (is_in x xs) && names_each_once xs

-- a cycle of a relation: each is related to the next and the last to the first, and none is named twice
abbrev pub is_cycle_by : (TxnId → TxnId → Bool) → List TxnId → Bool
is_cycle_by waits list = closes_by waits list && names_each_once list

-- from x on each waits for the next, and the last for the first
abbrev pub leads_to : List (TxnId × TxnId) → TxnId → TxnId → List TxnId → Bool
leads_to edges = leads_by (is_edge edges)

-- each waits for the next and the last for the first
abbrev pub closes : List (TxnId × TxnId) → List TxnId → Bool
closes edges = closes_by (is_edge edges)

-- a cycle: each waits for the next and the last for the first, and none is named twice
abbrev pub is_cycle : List (TxnId × TxnId) → List TxnId → Bool
is_cycle edges = is_cycle_by (is_edge edges)

-- a list comes before another, or begins it: at the first place where they differ it has the lesser number
abbrev pub comes_first : List TxnId → List TxnId → Bool
comes_first [] ys = true
comes_first (x ∷ xs) [] = false
comes_first (x ∷ xs) (y ∷ ys) = nat_lt x.0 y.0 || (is_same_txn x y && comes_first xs ys)

-- the list begins with this transaction
abbrev pub begins_with : TxnId → List TxnId → Bool
begins_with t [] = false
begins_with t (x ∷ xs) = is_same_txn t x

-- the first cycle from a transaction on, as a search finds it that goes depth first and tries lesser numbers first: the lists of two such cycles, each closed by the transaction itself, are compared number by number, and that of no other comes before
pub record IsFirstCycle (waits : TxnId → TxnId → Bool) (t : TxnId) (list : List TxnId) : Type 0 where
  pub cycle : is_cycle_by waits list ≡ true
  pub from : begins_with t list ≡ true
  pub first : (other : List TxnId) → is_cycle_by waits other ≡ true → begins_with t other ≡ true → comes_first (list ++ t ∷ []) (other ++ t ∷ []) ≡ true

-- the edges without those of one waiter
abbrev pub edges_without : TxnId → List (TxnId × TxnId) → List (TxnId × TxnId)
edges_without x edges = filter (λ e. not (is_from x e)) edges
