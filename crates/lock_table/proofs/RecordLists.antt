-- A change of one transaction's list of records, read at every transaction and record.
use Rattle.std.proofs.Common.{◌≡◌, ◌<◌, ℕ, length, get_or, Bool, true, false, cond, ◌&&◌, ◌||◌, List, [], ◌∷◌, ◌++◌, ◌⊎◌, inl, inr, ap₂, Vec, IsPermutation, Result, Ok, Err, OnErr, Some, None, Option, refl, ap, sym, ◌∙◌, subst, ⊎_elim, arith}
use Rattle.std.specs.declared.alloc.Global.{Global}
use Rattle.std.specs.Ordering.{nat_cmp, is_eq}
use Rattle.std.specs.Option.{option_map_or, is_some, IfSome}
use Rattle.std.specs.List.{list_any}
use Rattle.std.proofs.lemmas.Bool.{cases_Bool, both_ways, cond-false, false_from_ne_true}
use Rattle.std.proofs.lemmas.Bool.Decides.{nat_tests}
use Rattle.std.specs.BTreeMap.{BTreeMap}
use Rattle.std.proofs.lemmas.List.{get_or_default}
use Rattle.std.proofs.lemmas.List.Folds.{list_any-append, list_any_at}
use Rattle.std.proofs.lemmas.List.Sorted.{list_any-IsPermutation}
use Rattle.je_order.specs.declared.txn_id.TxnId.{TxnId}
use Rattle.lock_table.specs.declared.record_id.RecordId.{RecordId}
use Rattle.je_order.specs.Transactions.{is_same_txn}
use Rattle.lock_table.specs.Records.{is_record}
use Rattle.lock_table.specs.Table.{at_txn, at_db, lists_record, is_listed}
use Rattle.je_order.proofs.TxnIds.{same_is, same_itself, at_same}
use Rattle.lock_table.proofs.QueueMaps.{record_is}
use Rattle.lock_table.proofs.CallSteps.{record_same, record_either, listed_from}

-- what stands at one transaction is another, and all else is as it was
abbrev pub IsChangedAt : {X : Type 0} → List (TxnId × X) → List (TxnId × X) → TxnId → Option X → Type 0
IsChangedAt {X} old new u w = (q : TxnId) → at_txn q new ≡ cond (is_eq (nat_cmp u.0 q.0)) w (at_txn q old)

pub changed_here : {X : Type 0} (old new : List (TxnId × X)) (u : TxnId) (w : Option X) → IsChangedAt old new u w → (t : TxnId) → is_same_txn u t ≡ true → at_txn t new ≡ w
changed_here old new u w c t h = c t ∙ ap (λ b. cond b w (at_txn t old)) (at_same u t ∙ h)

pub changed_there : {X : Type 0} (old new : List (TxnId × X)) (u : TxnId) (w : Option X) → IsChangedAt old new u w → (t : TxnId) → is_same_txn u t ≡ false → at_txn t new ≡ at_txn t old
changed_there old new u w c t h = c t ∙ ap (λ b. cond b w (at_txn t old)) (at_same u t ∙ h)

-- the same by the test of transactions
pub changed_at : {X : Type 0} (old new : List (TxnId × X)) (u : TxnId) (w : Option X) → IsChangedAt old new u w → (t : TxnId) → at_txn t new ≡ cond (is_same_txn u t) w (at_txn t old)
changed_at old new u w c t = c t ∙ ap (λ b. cond b w (at_txn t old)) (at_same u t)

abbrev Records : Type 0
Records = BTreeMap ℕ (Vec RecordId Global)

abbrev reads : RecordId → Option Records → Bool
reads r o = option_map_or (λ m. lists_record m.entries r) o false

pub list_written : (old new : List (TxnId × Records)) (u : TxnId) (at : RecordId) (b : Bool) (v w : Records) → Some v ≡ at_txn u old
    → ((r : RecordId) → lists_record w.entries r ≡ cond (is_record at r) b (lists_record v.entries r)) → IsChangedAt old new u (Some w)
    → (t : TxnId) (r : RecordId) → is_listed new t r ≡ cond (is_same_txn u t && is_record at r) b (is_listed old t r)
list_written old new u at b v w has is c t r = ⊎_elim
    (λ h. let k : Some v ≡ at_txn t old = subst (λ (x : TxnId). Some v ≡ at_txn x old) (same_is u t h) has in
    ap (reads r) (changed_here old new u (Some w) c t h) ∙ (is r ∙ (ap (λ x. cond (is_record at r) b x) (ap (reads r) k) ∙ sym (ap (λ x. cond (x && is_record at r) b (is_listed old t r)) h))))
    (λ h. ap (reads r) (changed_there old new u (Some w) c t h) ∙ sym (ap (λ x. cond (x && is_record at r) b (is_listed old t r)) h))
    (cases_Bool (is_same_txn u t))

pub list_same : (old new : List (TxnId × Records)) (u : TxnId) (v w : Records) → Some v ≡ at_txn u old → ((r : RecordId) → lists_record w.entries r ≡ lists_record v.entries r) → IsChangedAt old new u (Some w)
    → (t : TxnId) (r : RecordId) → is_listed new t r ≡ is_listed old t r
list_same old new u v w has is c t r = ⊎_elim
    (λ h. let k : Some v ≡ at_txn t old = subst (λ (x : TxnId). Some v ≡ at_txn x old) (same_is u t h) has in
    ap (reads r) (changed_here old new u (Some w) c t h) ∙ (is r ∙ ap (reads r) k))
    (λ h. ap (reads r) (changed_there old new u (Some w) c t h))
    (cases_Bool (is_same_txn u t))

pub list_added : (old new : List (TxnId × Records)) (u : TxnId) (at : RecordId) (w : Records) → None ≡ at_txn u old
    → ((r : RecordId) → lists_record w.entries r ≡ is_record at r) → IsChangedAt old new u (Some w)
    → (t : TxnId) (r : RecordId) → is_listed new t r ≡ cond (is_same_txn u t && is_record at r) true (is_listed old t r)
list_added old new u at w none is c t r = ⊎_elim
    (λ h. let k : None ≡ at_txn t old = subst (λ (x : TxnId). None ≡ at_txn x old) (same_is u t h) none in
    ap (reads r) (changed_here old new u (Some w) c t h) ∙ (is r ∙ (itself (is_record at r) ∙ (ap (λ x. cond (is_record at r) true x) (ap (reads r) k) ∙ sym (ap (λ x. cond (x && is_record at r) true (is_listed old t r)) h)))))
    (λ h. ap (reads r) (changed_there old new u (Some w) c t h) ∙ sym (ap (λ x. cond (x && is_record at r) true (is_listed old t r)) h))
    (cases_Bool (is_same_txn u t))
  where
    itself : (b : Bool) → b ≡ cond b true false
    itself true = refl
    itself false = refl

-- a transaction's records without one of them
pub unlisted : (old new : List (TxnId × Records)) (u : TxnId) (at : RecordId) (v w : Records) → Some v ≡ at_txn u old
    → ((r : RecordId) → lists_record w.entries r ≡ false → (lists_record v.entries r ≡ false) ⊎ (is_record at r ≡ true)) → IsChangedAt old new u (Some w)
    → (t : TxnId) (r : RecordId) → is_listed new t r ≡ false → (is_listed old t r ≡ false) ⊎ ((is_same_txn u t && is_record at r) ≡ true)
unlisted old new u at v w has is c t r n = ⊎_elim
    (λ h. let k : Some v ≡ at_txn t old = subst (λ (x : TxnId). Some v ≡ at_txn x old) (same_is u t h) has in
    ⊎_elim
    (λ i. inl (sym (ap (reads r) k) ∙ i))
    (λ i. inr (ap₂ (λ a b. a && b) h i))
    (is r (sym (ap (reads r) (changed_here old new u (Some w) c t h)) ∙ n)))
    (λ h. inl (sym (ap (reads r) (changed_there old new u (Some w) c t h)) ∙ n))
    (cases_Bool (is_same_txn u t))

-- ---- one transaction's records, by database
-- what stands at one database is another, and all else is as it was
abbrev pub IsChangedIn : {X : Type 0} → List (ℕ × X) → List (ℕ × X) → ℕ → Option X → Type 0
IsChangedIn {X} old new d w = (q : ℕ) → at_db q new ≡ cond (is_eq (nat_cmp d q)) w (at_db q old)

changed_in : {X : Type 0} (old new : List (ℕ × X)) (d : ℕ) (w : Option X) → IsChangedIn old new d w → (q : ℕ) → is_eq (nat_cmp d q) ≡ true → at_db q new ≡ w
changed_in old new d w c q h = c q ∙ ap (λ b. cond b w (at_db q old)) h

changed_out : {X : Type 0} (old new : List (ℕ × X)) (d : ℕ) (w : Option X) → IsChangedIn old new d w → (q : ℕ) → is_eq (nat_cmp d q) ≡ false → at_db q new ≡ at_db q old
changed_out old new d w c q h = c q ∙ ap (λ b. cond b w (at_db q old)) h

same_number : (a b : ℕ) → is_eq (nat_cmp a b) ≡ true → a ≡ b
same_number a b h = grind (arith, nat_tests)

number_itself : (a : ℕ) → is_eq (nat_cmp a a) ≡ true
number_itself a = grind (arith, nat_tests)

-- a record of another database is another record
other_record : (at r : RecordId) → is_eq (nat_cmp at.db r.db) ≡ false → is_record at r ≡ false
other_record at r h = false_from_ne_true (is_record at r) (λ k. both_ways (is_eq (nat_cmp at.db r.db)) h (subst (λ (x : RecordId). is_eq (nat_cmp at.db x.db) ≡ true) (record_is at r k) (number_itself at.db)))

abbrev has_in : RecordId → Option (Vec RecordId Global) → Bool
has_in r o = option_map_or (λ s. list_any (is_record r) s.items) o false

pub db_written : (old new : List (ℕ × Vec RecordId Global)) (at : RecordId) (b : Bool) (v w : Vec RecordId Global) → Some v ≡ at_db at.db old
    → ((r : RecordId) → list_any (is_record r) w.items ≡ cond (is_record at r) b (list_any (is_record r) v.items)) → IsChangedIn old new at.db (Some w)
    → (r : RecordId) → lists_record new r ≡ cond (is_record at r) b (lists_record old r)
db_written old new at b v w has is c r = ⊎_elim
    (λ h. let k : Some v ≡ at_db r.db old = subst (λ (x : ℕ). Some v ≡ at_db x old) (same_number at.db r.db h) has in
    ap (has_in r) (changed_in old new at.db (Some w) c r.db h) ∙ (is r ∙ ap (λ x. cond (is_record at r) b x) (ap (has_in r) k)))
    (λ h. ap (has_in r) (changed_out old new at.db (Some w) c r.db h) ∙ sym (cond-false (is_record at r) b (lists_record old r) (other_record at r h)))
    (cases_Bool (is_eq (nat_cmp at.db r.db)))

pub db_same : (old new : List (ℕ × Vec RecordId Global)) (d : ℕ) (v w : Vec RecordId Global) → Some v ≡ at_db d old → w.items ≡ v.items → IsChangedIn old new d (Some w) → (r : RecordId) → lists_record new r ≡ lists_record old r
db_same old new d v w has is c r = ⊎_elim
    (λ h. let k : Some v ≡ at_db r.db old = subst (λ (x : ℕ). Some v ≡ at_db x old) (same_number d r.db h) has in
    ap (has_in r) (changed_in old new d (Some w) c r.db h) ∙ (ap (list_any (is_record r)) is ∙ ap (has_in r) k))
    (λ h. ap (has_in r) (changed_out old new d (Some w) c r.db h))
    (cases_Bool (is_eq (nat_cmp d r.db)))

pub db_added : (old new : List (ℕ × Vec RecordId Global)) (at : RecordId) (w : Vec RecordId Global) → None ≡ at_db at.db old
    → ((r : RecordId) → list_any (is_record r) w.items ≡ cond (is_record at r) true false) → IsChangedIn old new at.db (Some w)
    → (r : RecordId) → lists_record new r ≡ cond (is_record at r) true (lists_record old r)
db_added old new at w none is c r = ⊎_elim
    (λ h. let k : None ≡ at_db r.db old = subst (λ (x : ℕ). None ≡ at_db x old) (same_number at.db r.db h) none in
    ap (has_in r) (changed_in old new at.db (Some w) c r.db h) ∙ (is r ∙ ap (λ x. cond (is_record at r) true x) (ap (has_in r) k)))
    (λ h. ap (has_in r) (changed_out old new at.db (Some w) c r.db h) ∙ sym (cond-false (is_record at r) true (lists_record old r) (other_record at r h)))
    (cases_Bool (is_eq (nat_cmp at.db r.db)))

pub on_err : {T E P : Type 0} (r : Result T E) → P → OnErr r P
on_err (Ok x) p = tt
on_err (Err e) p = p

-- a list with one record more at its end
pub pushed : (vs ws : List RecordId) (k at r : RecordId) → k ≡ at → ws ≡ vs ++ k ∷ [] → list_any (is_record r) ws ≡ cond (is_record at r) true (list_any (is_record r) vs)
pushed vs ws k at r e is = ap (list_any (is_record r)) is ∙ (list_any-append (is_record r) vs (k ∷ []) ∙ either (list_any (is_record r) vs) (is_record r k) (is_record at r) (ap (is_record r) e ∙ record_either r at))
  where
    either : (a b c : Bool) → b ≡ c → (a || (b || false)) ≡ cond c true a
    either true true c e = last c e
      where
        last : (c : Bool) → true ≡ c → true ≡ cond c true true
        last true e = refl
        last false e = refl
    either true false c e = last c e
      where
        last : (c : Bool) → false ≡ c → true ≡ cond c true true
        last true e = refl
        last false e = refl
    either false true c e = ap (λ x. cond x true false) e
    either false false c e = ap (λ x. cond x true false) e

-- the record that was listed last is listed
pub listed_now : (t : TxnId) (at : RecordId) (new old : Bool) → new ≡ cond (is_same_txn t t && is_record at at) true old → new ≡ false → (P : Type 0) → P
listed_now t at new old e n P = absurd (both_ways (is_same_txn t t && is_record at at) (listed_from new old (is_same_txn t t && is_record at at) e n).1 (ap₂ (λ a b. a && b) (same_itself t) (record_same at)))

-- a record that was found in a list and taken out of it
pub the_same : (xs : List RecordId) (i : ℕ) (x at : RecordId) → i < length xs → x ≡ get_or xs i x → is_record at (get_or xs i at) ≡ true → is_record at x ≡ true
the_same xs i x at within is there = ap (is_record at) (is ∙ get_or_default xs i x at within) ∙ there

-- a record that was found in the list of its database is there
pub stands : (dbs : List (ℕ × Vec RecordId Global)) (at : RecordId) (v : Vec RecordId Global) → Some v ≡ at_db at.db dbs → (xs : List RecordId) → xs ≡ v.items → (o : Option ℕ)
    → IfSome o (λ i. i < length xs) → IfSome o (λ i. is_record at (get_or xs i at) ≡ true) → is_some o ≡ true → lists_record dbs at ≡ true
stands dbs at v has xs is None within there h = absurd (both_ways false refl h)
stands dbs at v has xs is (Some i) within there h = sym (ap (has_in at) has) ∙ (ap (list_any (is_record at)) (sym is) ∙ list_any_at (is_record at) xs i at within there)

-- a list without one of its records
pub db_unlisted : (old new : List (ℕ × Vec RecordId Global)) (at x : RecordId) (v w : Vec RecordId Global) → Some v ≡ at_db at.db old → IsPermutation v.items (x ∷ w.items) → is_record at x ≡ true → IsChangedIn old new at.db (Some w)
    → (r : RecordId) → lists_record new r ≡ false → (lists_record old r ≡ false) ⊎ (is_record at r ≡ true)
db_unlisted old new at x v w has is same c r n = ⊎_elim
    (λ h. let k : Some v ≡ at_db r.db old = subst (λ (y : ℕ). Some v ≡ at_db y old) (same_number at.db r.db h) has in
    let m : list_any (is_record r) w.items ≡ false = sym (ap (has_in r) (changed_in old new at.db (Some w) c r.db h)) ∙ n in
    let p : list_any (is_record r) v.items ≡ (is_record r x || list_any (is_record r) w.items) = list_any-IsPermutation (is_record r) v.items (x ∷ w.items) is in
    ⊎_elim
    (λ i. inr (subst (λ (y : RecordId). is_record at y ≡ true) (sym (record_is r x i)) same))
    (λ i. inl (sym (ap (has_in r) k) ∙ (p ∙ ap₂ (λ a b. a || b) i m)))
    (cases_Bool (is_record r x)))
    (λ h. inl (sym (ap (has_in r) (changed_out old new at.db (Some w) c r.db h)) ∙ n))
    (cases_Bool (is_eq (nat_cmp at.db r.db)))

pub unless : {X : Type 0} (n o : Option X) (s b : Bool) → n ≡ cond (s && b) None o → s ≡ false → n ≡ o
unless n o true b e h = absurd (both_ways true h refl)
unless n o false b e h = e
