-- The least owner of the records of one database, and those who were told to wait there.
use Rattle.std.proofs.Common.{◌≡◌, ℕ, Bool, cond, List, [], ◌∷◌, ◌++◌, map, Some, None, true, false, Option, refl, ap, sym, ◌∙◌}
use Rattle.std.specs.Ordering.{nat_cmp, is_eq}
use Rattle.std.specs.List.{flat_map}
use Rattle.je_order.specs.declared.txn_id.TxnId.{TxnId}
use Rattle.lock_table.specs.declared.lock.Lock.{Lock}
use Rattle.lock_table.specs.declared.record_id.RecordId.{RecordId}
use Rattle.lock_table.specs.Locks.{lesser, least}
use Rattle.lock_table.specs.Table.{at_txn}
use Rattle.lock_table.proofs.LeastTxn.{lesser_assoc}

pub least_append : (xs ys : List TxnId) → least (xs ++ ys) ≡ lesser (least xs) (least ys)
least_append [] ys = refl
least_append (x ∷ xs) ys = ap (lesser (Some x)) (least_append xs ys) ∙ sym (lesser_assoc (Some x) (least xs) (least ys))

map_append : (xs ys : List Lock) → map (λ (o : Lock). o.txn) (xs ++ ys) ≡ map (λ (o : Lock). o.txn) xs ++ map (λ (o : Lock). o.txn) ys
map_append [] ys = refl
map_append (x ∷ xs) ys = ap (λ zs. x.txn ∷ zs) (map_append xs ys)

-- the least of the owners of these records
abbrev pub least_owner : List (RecordId × (List Lock × List Lock)) → Option TxnId
least_owner es = least (map (λ o. o.txn) (flat_map (λ e. e.1.0) es))

pub least_more : (found : Option TxnId) (e : RecordId × (List Lock × List Lock)) (es : List (RecordId × (List Lock × List Lock))) → lesser (lesser found (least (map (λ o. o.txn) e.1.0))) (least_owner es) ≡ lesser found (least_owner (e ∷ es))
least_more found e es = lesser_assoc found (least (map (λ o. o.txn) e.1.0)) (least_owner es) ∙ ap (lesser found) (sym (least_append (map (λ o. o.txn) e.1.0) (map (λ o. o.txn) (flat_map (λ e. e.1.0) es))) ∙ ap least (sym (map_append e.1.0 (flat_map (λ e. e.1.0) es))))

-- ---- waits
-- a wait in the database is among those that are left
abbrev pub IsLeft : ℕ → List (TxnId × RecordId) → List (TxnId × RecordId) → Type 0
IsLeft db all rest = (t : TxnId) (r : RecordId) → at_txn t all ≡ Some r → r.db ≡ db → at_txn t rest ≡ Some r

pub left_begins : (db : ℕ) (all rest : List (TxnId × RecordId)) → rest ≡ all → IsLeft db all rest
left_begins db all rest is t r found there = ap (at_txn t) is ∙ found

pub left_step : (db : ℕ) (all : List (TxnId × RecordId)) (e : TxnId × RecordId) (left rest : List (TxnId × RecordId)) → left ≡ e ∷ rest → (e.1.db ≡ db → ⊥) → IsLeft db all left → IsLeft db all rest
left_step db all e left rest is other l t r found there = past (is_eq (nat_cmp t.0 e.0.0)) (sym (ap (at_txn t) is) ∙ l t r found there)
  where
    past : (b : Bool) → cond b (Some e.1) (at_txn t rest) ≡ Some r → at_txn t rest ≡ Some r
    past true h = let k : e.1 ≡ r = cc in absurd (other (ap (λ (x : RecordId). x.db) k ∙ there))
    past false h = h

pub left_ends : (db : ℕ) (all rest : List (TxnId × RecordId)) → rest ≡ [] → IsLeft db all rest → (t : TxnId) (r : RecordId) → at_txn t all ≡ Some r → r.db ≡ db → ⊥
left_ends db all rest is l t r found there = let k : None ≡ Some r = sym (ap (at_txn t) is) ∙ l t r found there in cc
