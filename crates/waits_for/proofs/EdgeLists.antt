-- What is in a list of pairs: joined lists, a reversed one, a filter by the waiter.
use Rattle.std.proofs.Common.{◌≡◌, Bool, true, false, cond, ◌&&◌, ◌||◌, List, [], ◌∷◌, ◌++◌, reverse, length, refl, arith, ⊎_elim}
use Rattle.std.specs.List.{list_any, filter, AllByRecursion}
use Rattle.std.proofs.lemmas.Grind.{common_steps, reverse_onto}
use Rattle.std.proofs.lemmas.List.Folds.{list_any-append}
use Rattle.std.proofs.lemmas.Bool.{and_parts, and_from, cases_Bool, or_left, or_right}
use Rattle.je_order.specs.declared.txn_id.TxnId.{TxnId}
use Rattle.waits_for.specs.Cycles.{is_pair, is_edge, is_from}
use Rattle.je_order.specs.Transactions.{is_same_txn}
use Rattle.je_order.proofs.Lists.{all_append}
use Rattle.je_order.proofs.TxnIds.{same_is, same_itself}

pub pair_is : (x y : TxnId) (e : TxnId × TxnId) → is_pair x y e ≡ true → (x ≡ e.0) × (y ≡ e.1)
pair_is x y e h = let p = and_parts (is_same_txn x e.0) (is_same_txn y e.1) h in (same_is x e.0 p.0, same_is y e.1 p.1)

pub reverse_cons : {X : Type 0} (x : X) (xs : List X) → reverse (x ∷ xs) ≡ reverse xs ++ (x ∷ [])
reverse_cons x xs = reverse_onto xs x []

pub any_reverse : {X : Type 0} (p : X → Bool) (xs : List X) → list_any p (reverse xs) ≡ list_any p xs
any_reverse p [] = refl
any_reverse p (x ∷ xs) = rw (reverse_cons x xs, list_any-append p (reverse xs) (x ∷ []), any_reverse p xs) (swapped (list_any p xs) (p x))
  where
    swapped : (a b : Bool) → (a || (b || false)) ≡ (b || a)
    swapped true true = refl
    swapped true false = refl
    swapped false true = refl
    swapped false false = refl

pub length_reverse : {X : Type 0} (xs : List X) → length (reverse xs) ≡ length xs
length_reverse xs = grind (arith, common_steps)

pub all_front : {X : Type 0} (P : X → Type 0) (xs ys : List X) → AllByRecursion P (xs ++ ys) → AllByRecursion P xs
all_front P [] ys a = tt
all_front P (x ∷ xs) ys a = (a.0, all_front P xs ys a.1)

pub all_back : {X : Type 0} (P : X → Type 0) (xs ys : List X) → AllByRecursion P (xs ++ ys) → AllByRecursion P ys
all_back P [] ys a = a
all_back P (x ∷ xs) ys a = all_back P xs ys a.1

pub all_reverse : {X : Type 0} (P : X → Type 0) (xs : List X) → AllByRecursion P xs → AllByRecursion P (reverse xs)
all_reverse P [] a = tt
all_reverse P (x ∷ xs) a = rw (reverse_cons x xs) (all_append P (reverse xs) (x ∷ []) (all_reverse P xs a.1) (a.0, tt))

-- each kept item passes the test and is in the list
pub all_filter : {X : Type 0} (P : X → Type 0) (p : X → Bool) (xs : List X) → ((x : X) → p x ≡ true → P x) → AllByRecursion P (filter p xs)
all_filter P p [] h = tt
all_filter P p (x ∷ xs) h = ⊎_elim (λ e. rw e (h x e, all_filter P p xs h)) (λ e. rw e (all_filter P p xs h)) (cases_Bool (p x))

-- an edge is among the edges of its waiter
row_step : {X : Type 0} (p : X → Bool) (b s r : Bool) (e : X) (f : List X) → list_any p f ≡ r → p e ≡ (b && s) → list_any p (cond b (e ∷ f) f) ≡ ((b && s) || r)
row_step p true s r e f i j = cc
row_step p false s r e f i j = i

pub any_row : (x y : TxnId) (es : List (TxnId × TxnId)) → list_any (is_pair x y) (filter (is_from x) es) ≡ list_any (is_pair x y) es
any_row x y [] = refl
any_row x y (e ∷ es) = row_step (is_pair x y) (is_same_txn x e.0) (is_same_txn y e.1) (list_any (is_pair x y) es) e (filter (is_from x) es) (any_row x y es) refl

pub edge_itself : (e : TxnId × TxnId) → is_pair e.0 e.1 e ≡ true
edge_itself e = and_from (is_same_txn e.0 e.0) (is_same_txn e.1 e.1) (same_itself e.0) (same_itself e.1)

-- each edge of a row is an edge, and its waiter has what the row's waiter has
pub row_real : (edges : List (TxnId × TxnId)) (y : TxnId) (Q : TxnId → Type 0) (es : List (TxnId × TxnId)) → ((v : TxnId × TxnId) → is_edge es v.0 v.1 ≡ true → is_edge edges v.0 v.1 ≡ true) → ((v : TxnId × TxnId) → is_same_txn y v.0 ≡ true → Q v.0)
    → AllByRecursion (λ v. (is_edge edges v.0 v.1 ≡ true) × Q v.0) (filter (is_from y) es)
row_real edges y Q [] in_edges q = tt
row_real edges y Q (e ∷ es) in_edges q =
    let rest = row_real edges y Q es (λ v h. in_edges v (or_right (is_pair v.0 v.1 e) (is_edge es v.0 v.1) h)) q in
    ⊎_elim (λ h. rw h ((in_edges e (or_left (is_pair e.0 e.1 e) (is_edge es e.0 e.1) (edge_itself e)), q e h), rest)) (λ h. rw h rest) (cases_Bool (is_same_txn y e.0))
