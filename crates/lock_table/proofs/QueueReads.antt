-- A lock of no more than READ that goes: what it keeps of one record.
use Rattle.std.proofs.Common.{◌≡◌, true, false, List, [], ◌∷◌, ◌++◌, map, Some, None, Option, refl, ap, sym, ◌∙◌, subst, ◌⊎◌, inl, inr, ⊎_elim}
use Rattle.std.specs.List.{find, AllByRecursion}
use Rattle.std.specs.Option.{option_map}
use Rattle.std.proofs.lemmas.Bool.{cases_Bool, both_ways, or_parts, cond-true, cond-false}
use Rattle.je_order.specs.declared.txn_id.TxnId.{TxnId}
use Rattle.lock_mode.specs.declared.lock_type.LockType.{LockType}
use Rattle.lock_mode.specs.declared.lock_type.LockType.TheVariants.{Read, Write, RangeRead, RangeWrite, RangeInsert}
use Rattle.lock_mode.specs.Modes.{upgraded, can_be_held}
use Rattle.lock_table.specs.declared.lock.Lock.{Lock}
use Rattle.lock_table.specs.Locks.{is_of, has_lock, without_txn, held_by, is_blocked, upgraded_by, with_lock, granted, after_give_back, read_given_back, after_read, IsSettled}
use Rattle.je_order.specs.Transactions.{is_same_txn}
use Rattle.je_order.proofs.TxnIds.{same_is}
use Rattle.je_order.proofs.Lists.{all_weaker, all_append, none_each}
use Rattle.lock_table.proofs.OwnersAndWaits.{all_mapped}
use Rattle.lock_table.proofs.Owners.{granted_cases, held_each}
use Rattle.lock_table.specs.Table.{IsOut}
use Rattle.lock_table.proofs.RecordCalls.{none_of, settled_give_back, out_give_back, waits_give_back}

abbrev pub Queue : Type 0
Queue = List Lock × List Lock

pub held_none : (t : TxnId) (os : List Lock) → has_lock t os ≡ false → held_by t os ≡ None
held_none t [] n = refl
held_none t (o ∷ os) n =
    let k = or_parts (is_of t o) (has_lock t os) n in
    ap (option_map (λ (l : Lock). l.mode)) (cond-false (is_of t o) (Some o) (find (is_of t) os) k.0) ∙ held_none t os k.1

-- where the transaction holds nothing, nothing goes
pub read_nothing : (t : TxnId) (q : Queue) → has_lock t q.0 ≡ false → after_read t q ≡ q
read_nothing t q n = ap (λ o. read_given_back t o q) (held_none t q.0 n)

settled_read_by : (t : TxnId) (held : Option LockType) (q : Queue) → held_by t q.0 ≡ held → IsSettled q → IsSettled (read_given_back t held q)
settled_read_by t None q e s = s
settled_read_by t (Some Read) q e s = settled_give_back t None Read q s e tt
settled_read_by t (Some m) q e s = s

pub settled_read : (t : TxnId) (q : Queue) → IsSettled q → IsSettled (after_read t q)
settled_read t q s = settled_read_by t (held_by t q.0) q refl s

out_read_by : (t u : TxnId) (held : Option LockType) (q : Queue) → IsOut t q → IsOut t (read_given_back u held q)
out_read_by t u (Some Read) q o = out_give_back t u None q o
out_read_by t u held q o = o

pub out_read : (t u : TxnId) (q : Queue) → IsOut t q → IsOut t (after_read u q)
out_read t u q o = out_read_by t u (held_by u q.0) q o

waits_read_by : (t u : TxnId) (held : Option LockType) (q : Queue) → has_lock t (read_given_back u held q).1 ≡ true → has_lock t q.1 ≡ true
waits_read_by t u (Some Read) q h = waits_give_back t u None q h
waits_read_by t u held q h = h

pub waits_read : (t u : TxnId) (q : Queue) → has_lock t (after_read u q).1 ≡ true → has_lock t q.1 ≡ true
waits_read t u q h = waits_read_by t u (held_by u q.0) q h

-- ---- what is given back twice is given back once
-- the lock is another's, or more than READ
abbrev pub IsMore : TxnId → Lock → Type 0
IsMore t o = is_of t o ≡ true → o.mode ≡ Read → ⊥

upgraded_read : (a b : LockType) → upgraded a b ≡ Read → (a ≡ Read) ⊎ (b ≡ Read)
upgraded_read Read b h = inl refl
upgraded_read Write Read h = absurd (cc)
upgraded_read Write Write h = absurd (cc)
upgraded_read Write RangeRead h = absurd (cc)
upgraded_read Write RangeWrite h = absurd (cc)
upgraded_read Write RangeInsert h = absurd (cc)
upgraded_read RangeRead Read h = absurd (cc)
upgraded_read RangeRead Write h = absurd (cc)
upgraded_read RangeRead RangeRead h = absurd (cc)
upgraded_read RangeRead RangeWrite h = absurd (cc)
upgraded_read RangeRead RangeInsert h = absurd (cc)
upgraded_read RangeWrite b h = absurd (cc)
upgraded_read RangeInsert b h = inr h

more_upgraded : (t : TxnId) (w o : Lock) → IsMore t w → IsMore t o → IsMore t (upgraded_by w o)
more_upgraded t w o mw mo = ⊎_elim
    (λ h. subst (IsMore t) (sym (cond-true (is_of w.txn o) (record { txn = o.txn; mode = upgraded o.mode w.mode }) o h))
    (λ i e. ⊎_elim (λ a. mo i a) (λ b. mw (subst (λ (x : TxnId). is_same_txn t x ≡ true) (sym (same_is w.txn o.txn h)) i) b) (upgraded_read o.mode w.mode e)))
    (λ h. subst (IsMore t) (sym (cond-false (is_of w.txn o) (record { txn = o.txn; mode = upgraded o.mode w.mode }) o h)) mo)
    (cases_Bool (is_of w.txn o))

more_taken : (t : TxnId) (w : Lock) (os : List Lock) → IsMore t w → AllByRecursion (IsMore t) os → AllByRecursion (IsMore t) (with_lock w os)
more_taken t w os m a = ⊎_elim
    (λ h. ⊎_elim
    (λ k. subst (AllByRecursion (IsMore t)) (sym (cond-true (can_be_held w.mode) _ os h ∙ cond-true (has_lock w.txn os) (map (upgraded_by w) os) (os ++ (w ∷ [])) k)) (all_mapped (upgraded_by w) (IsMore t) (IsMore t) (λ o n. more_upgraded t w o m n) os a))
    (λ k. subst (AllByRecursion (IsMore t)) (sym (cond-true (can_be_held w.mode) _ os h ∙ cond-false (has_lock w.txn os) (map (upgraded_by w) os) (os ++ (w ∷ [])) k)) (all_append _ os (w ∷ []) a (m, tt)))
    (cases_Bool (has_lock w.txn os)))
    (λ h. subst (AllByRecursion (IsMore t)) (sym (cond-false (can_be_held w.mode) _ os h)) a)
    (cases_Bool (can_be_held w.mode))

more_granted : (t : TxnId) (ws os : List Lock) → AllByRecursion (IsMore t) ws → AllByRecursion (IsMore t) os → AllByRecursion (IsMore t) (granted os ws).0
more_granted t [] os m a = a
more_granted t (w ∷ ws) os m a = granted_cases (λ q. AllByRecursion (IsMore t) q.0) os w ws (λ _. more_granted t ws os m.1 a) (λ _. more_granted t ws (with_lock w os) m.1 (more_taken t w os m.0 a))

more_held : (t : TxnId) (os : List Lock) → AllByRecursion (IsMore t) os → held_by t os ≡ Some Read → ⊥
more_held t [] a e = cc
more_held t (o ∷ os) a e = ⊎_elim
    (λ i. let g : Some o.mode ≡ Some Read = sym (ap (option_map (λ (l : Lock). l.mode)) (cond-true (is_of t o) (Some o) (find (is_of t) os) i)) ∙ e in a.0 i (cc))
    (λ i. more_held t os a.1 (sym (ap (option_map (λ (l : Lock). l.mode)) (cond-false (is_of t o) (Some o) (find (is_of t) os) i)) ∙ e))
    (cases_Bool (is_of t o))

-- what an owner holds conflicts with no other owner
held_free : (t : TxnId) (m : LockType) (os ps : List Lock) → held_by t os ≡ Some m → AllByRecursion (λ o. is_blocked ps o ≡ false) os → is_blocked ps (record { txn = t; mode = m }) ≡ false
held_free t m [] ps e a = absurd (cc)
held_free t m (o ∷ os) ps e a = ⊎_elim
    (λ i. let g : Some o.mode ≡ Some m = sym (ap (option_map (λ (l : Lock). l.mode)) (cond-true (is_of t o) (Some o) (find (is_of t) os) i)) ∙ e in
    let k : o.mode ≡ m = cc in
    subst (λ (l : Lock). is_blocked ps l ≡ false) (ap (λ (x : TxnId). record { txn = x; mode = o.mode }) (sym (same_is t o.txn i)) ∙ ap (λ (x : LockType). record { txn = t; mode = x }) k) a.0)
    (λ i. held_free t m os ps (sym (ap (option_map (λ (l : Lock). l.mode)) (cond-false (is_of t o) (Some o) (find (is_of t) os) i)) ∙ e) a.1)
    (cases_Bool (is_of t o))

-- who holds READ waits for more
more_waits : (t : TxnId) (q : Queue) → IsSettled q → held_by t q.0 ≡ Some Read → AllByRecursion (IsMore t) q.1
more_waits t q s e = all_weaker _ (IsMore t)
    (λ w b i m. let k : w ≡ record { txn = t; mode = Read } = ap (λ (x : TxnId). record { txn = x; mode = w.mode }) (sym (same_is t w.txn i)) ∙ ap (λ (x : LockType). record { txn = t; mode = x }) m in
    both_ways (is_blocked q.0 w) (subst (λ (l : Lock). is_blocked q.0 l ≡ false) (sym k) (held_free t Read q.0 q.0 e s.owners.agree)) b) q.1 s.waits

more_nothing : (t : TxnId) (held : Option LockType) (q : Queue) → (held ≡ Some Read → ⊥) → read_given_back t held q ≡ q
more_nothing t None q n = refl
more_nothing t (Some Read) q n = absurd (n refl)
more_nothing t (Some m) q n = refl

more_left : (t : TxnId) (os : List Lock) → AllByRecursion (IsMore t) (without_txn t os)
more_left t os = all_weaker _ (IsMore t) (λ o n i m. both_ways (is_of t o) n i) (without_txn t os) (none_each (is_of t) (without_txn t os) (none_of t os))

read_twice_by : (t : TxnId) (held : Option LockType) (q : Queue) → held_by t q.0 ≡ held → IsSettled q → after_read t (read_given_back t held q) ≡ read_given_back t held q
read_twice_by t None q e s = ap (λ o. read_given_back t o q) e
read_twice_by t (Some Read) q e s = more_nothing t (held_by t (after_give_back t None q).0) (after_give_back t None q) (more_held t (granted (without_txn t q.0) q.1).0 (more_granted t q.1 (without_txn t q.0) (more_waits t q s e) (more_left t q.0)))
read_twice_by t (Some m) q e s = ap (λ o. read_given_back t o q) e

pub read_twice : (t : TxnId) (q : Queue) → IsSettled q → after_read t (after_read t q) ≡ after_read t q
read_twice t q s = read_twice_by t (held_by t q.0) q refl s

-- ---- what is left
held_none_each : (t : TxnId) (os : List Lock) → held_by t os ≡ None → AllByRecursion (IsMore t) os
held_none_each t [] e = tt
held_none_each t (o ∷ os) e = ⊎_elim
    (λ i. let g : Some o.mode ≡ None = sym (ap (option_map (λ (l : Lock). l.mode)) (cond-true (is_of t o) (Some o) (find (is_of t) os) i)) ∙ e in absurd (cc))
    (λ i. ((λ j m. both_ways (is_of t o) i j), held_none_each t os (sym (ap (option_map (λ (l : Lock). l.mode)) (cond-false (is_of t o) (Some o) (find (is_of t) os) i)) ∙ e)))
    (cases_Bool (is_of t o))

held_more_each : (t : TxnId) (h : LockType) (q : Queue) → IsSettled q → held_by t q.0 ≡ Some h → (h ≡ Read → ⊥) → AllByRecursion (IsMore t) q.0
held_more_each t h q s e n = all_weaker (λ o. is_of t o ≡ true → o.mode ≡ h) (IsMore t) (λ o p i m. n (sym (p i) ∙ m)) q.0 (held_each t h q.0 s.owners.apart e)

more_owners_by : (t : TxnId) (held : Option LockType) (q : Queue) → held_by t q.0 ≡ held → IsSettled q → AllByRecursion (IsMore t) (read_given_back t held q).0
more_owners_by t None q e s = held_none_each t q.0 e
more_owners_by t (Some Read) q e s = more_granted t q.1 (without_txn t q.0) (more_waits t q s e) (more_left t q.0)
more_owners_by t (Some Write) q e s = held_more_each t Write q s e (λ h. cc)
more_owners_by t (Some RangeRead) q e s = held_more_each t RangeRead q s e (λ h. cc)
more_owners_by t (Some RangeWrite) q e s = held_more_each t RangeWrite q s e (λ h. cc)
more_owners_by t (Some RangeInsert) q e s = held_more_each t RangeInsert q s e (λ h. cc)

-- the transaction owns no READ any more
pub more_owners : (t : TxnId) (q : Queue) → IsSettled q → AllByRecursion (IsMore t) (after_read t q).0
more_owners t q s = more_owners_by t (held_by t q.0) q refl s

-- where each of the transaction's locks is more than READ, nothing goes
pub read_more : (t : TxnId) (q : Queue) → AllByRecursion (IsMore t) q.0 → after_read t q ≡ q
read_more t q a = more_nothing t (held_by t q.0) q (more_held t q.0 a)
