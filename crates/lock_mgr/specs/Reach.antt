-- The waits that are reached from one transaction, and the search's state.
use Rattle.std.specs.Prelude.{◌≡◌, ℕ, ◌+◌, Bool, true, false, cond, nat_lt, List, [], ◌∷◌, length, ◌⊎◌}
use Rattle.std.specs.BTreeSet.{BTreeSet, contains}
use Rattle.je_order.specs.declared.txn_id.TxnId.{TxnId}
use Rattle.waits_for.specs.Cycles.{is_in, is_edge, closes_by, IsFirstCycle}
use Rattle.lock_table.specs.declared.record_id.RecordId.{RecordId}
use Rattle.lock_table.specs.Table.{Locks, waits_for}
use Rattle.lock_mgr.specs.Deadlock.{others, is_greatest}
use Rattle.je_order.specs.Transactions.{txn_cmp}

-- every edge of S is one of R
abbrev pub IsWithin : (TxnId → TxnId → Bool) → (TxnId → TxnId → Bool) → Type 0
IsWithin R S = (x y : TxnId) → S x y ≡ true → R x y ≡ true

-- E has only edges of R, and all those that are reached from the transaction
pub record IsReach (R E : TxnId → TxnId → Bool) (t : TxnId) : Type 0 where
  pub real : IsWithin R E
  pub inside : TxnId → Bool
  pub start : inside t ≡ true
  pub stays : (x y : TxnId) → inside x ≡ true → R x y ≡ true → inside y ≡ true
  pub edge : (x y : TxnId) → inside x ≡ true → R x y ≡ true → E x y ≡ true

-- victims, one after another, until no cycle through the transaction is left
abbrev pub BreaksAll : (TxnId → TxnId → Bool) → TxnId → List (TxnId × List TxnId) → Type 0
BreaksAll E t [] = (list : List TxnId) → closes_by E list ≡ true → is_in t list ≡ false
BreaksAll E t (v ∷ vs) = IsFirstCycle E t v.1 × (is_greatest v.0 v.1 ≡ true) × BreaksAll (others v.0 E) t vs

-- the greater of two transactions, and of one and a list
abbrev pub greater : TxnId → TxnId → TxnId
greater a b = cond (nat_lt a.0 b.0) b a

abbrev pub greatest_from : TxnId → List TxnId → TxnId
greatest_from f [] = f
greatest_from f (x ∷ xs) = greatest_from (greater f x) xs

-- the transaction was seen
abbrev pub is_reached : BTreeSet TxnId → TxnId → Bool
is_reached seen x = contains txn_cmp seen x

-- each wait of a transaction that was seen is an edge, and leads to one that was seen or is to be looked at
pub record IsFilling (R : TxnId → TxnId → Bool) (t : TxnId) (edges : List (TxnId × TxnId)) (seen : BTreeSet TxnId) (todo : List TxnId) : Type 0 where
  pub real : IsWithin R (is_edge edges)
  pub start : (is_reached seen t ≡ true) ⊎ (is_in t todo ≡ true)
  pub edge : (x y : TxnId) → is_reached seen x ≡ true → R x y ≡ true → is_edge edges x y ≡ true
  pub stays : (x y : TxnId) → is_reached seen x ≡ true → R x y ≡ true → (is_reached seen y ≡ true) ⊎ (is_in y todo ≡ true)

-- how many waits may still be followed
abbrev pub weight : Locks → BTreeSet TxnId → List (TxnId × RecordId) → ℕ
weight v seen [] = 0
weight v seen (e ∷ es) = cond (is_reached seen e.0) 0 (length (waits_for e.0 v)) + weight v seen es
