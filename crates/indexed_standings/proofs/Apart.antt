-- No two transactions change the same record: each holds a lock for writing on those that it changes.
use Rattle.std.proofs.Common.{◌≡◌, ◌⊎◌, inl, inr, ℕ, ◌<◌, ◌==◌, Bool, true, false, cond, List, [], ◌∷◌, map, find, Option, None, Some, refl, ap, ap₂, sym, subst, ⊎_elim, arith, option_map}
use Rattle.std.specs.List.{AllByRecursion}
use Rattle.std.proofs.lemmas.Bool.{cases_Bool, both_ways, eqb-true}
use Rattle.std.proofs.lemmas.Option.{none-some}
use Rattle.je_order.specs.Order.{is_same_bytes}
use Rattle.je_order.specs.declared.name.Name.{Name}
use Rattle.je_order.specs.declared.bound.Bound.TheVariants.{At as On}
use Rattle.je_order.specs.declared.txn_id.TxnId.{TxnId}
use Rattle.je_order.specs.Transactions.{is_same_txn}
use Rattle.je_order.proofs.TxnIds.{same_is}
use Rattle.lock_mode.specs.declared.lock_type.LockType.{LockType}
use Rattle.lock_table.specs.declared.lock.Lock.{Lock}
use Rattle.lock_table.specs.declared.record_id.RecordId.{RecordId}
use Rattle.lock_table.specs.Locks.{lock_of, is_of, held_by, is_blocked}
use Rattle.store_model.specs.declared.record_change.RecordChange.{RecordChange}
use Rattle.store_model.specs.Store.{named, changed_name}
use Rattle.store_model.proofs.IndexLaws.{bytes_are}
use Rattle.je_answers.specs.declared.active.Active.{Active}
use Rattle.je_answers.specs.Standing.{LockState}
use Rattle.je_answers.specs.Views.{of_db}
use Rattle.standing_laws.specs.Right.{AreNumbered, AreTables, HasWrite, HoldsWrite, txn_id}
use Rattle.standing_laws.proofs.Among.{IsAmong, all_at, all_of, found_is}
use Rattle.standing_laws.proofs.Writers.{stops}
use Rattle.index_laws.specs.Keeping.{HasNoneOf, AreApart, Owns, AreAllApart}

-- ---- one writer

-- the lock that a transaction holds
owner_is : (t : TxnId) (m : LockType) (os : List Lock) → held_by t os ≡ Some m → IsAmong (lock_of t m) os
owner_is t m os held = by (find (is_of t) os) refl held
  where
    make : TxnId → LockType → Lock
    make u n = record { txn = u; mode = n }

    by : (o : Option Lock) → find (is_of t) os ≡ o → option_map (λ (l : Lock). l.mode) o ≡ Some m → IsAmong (lock_of t m) os
    by None e h = absurd (none-some m h)
    by (Some o) e h =
        let f = found_is (is_of t) os o e in
        let mode : o.mode ≡ m = cc (h) in
        subst (λ (l : Lock). IsAmong l os) (ap₂ make (sym (same_is t o.txn f.1)) mode) f.0

pub one_writer : (locks : LockState) (t u : TxnId) (r : RecordId) → AreTables locks → is_same_txn u t ≡ false → HasWrite t (locks.at r).0 → HasWrite u (locks.at r).0 → ⊥
one_writer locks t u r tables apart h k =
    both_ways (is_blocked (locks.at r).0 (lock_of t h.mode))
    (all_at (λ (o : Lock). is_blocked (locks.at r).0 o ≡ false) (locks.at r).0 (lock_of t h.mode) (tables.settled r).owners.agree (owner_is t h.mode (locks.at r).0 h.held))
    (stops t u h.mode k.mode (locks.at r).0 apart k.held k.writes h.writes)

-- ---- own changes in a database

-- what holds of own changes holds of those in a database
pub of_db_all : (P : ℕ × RecordChange → Type 0) (n : ℕ) (own : List (ℕ × RecordChange)) → AllByRecursion P own → AllByRecursion (λ c. P (n, c)) (of_db n own)
of_db_all P n [] all = tt
of_db_all P n (c ∷ own) all = by (c.0 == n) refl (of_db_all P n own all.1)
  where
    by : (b : Bool) → (c.0 == n) ≡ b → AllByRecursion (λ x. P (n, x)) (of_db n own) → AllByRecursion (λ x. P (n, x)) (cond b (c.1 ∷ of_db n own) (of_db n own))
    by true e rest = (subst (λ (m : ℕ). P (m, c.1)) (eqb-true c.0 n e) all.0, rest)
    by false e rest = rest

-- a change of the record of a key, or none
one_or_none : (key : List ℕ) (cs : List RecordChange) → ((c : RecordChange) × IsAmong c cs × (is_same_bytes (changed_name c).key key ≡ true)) ⊎ HasNoneOf key cs
one_or_none key [] = inr tt
one_or_none key (c ∷ cs) = by (is_same_bytes (changed_name c).key key) refl (one_or_none key cs)
  where
    by : (b : Bool) → is_same_bytes (changed_name c).key key ≡ b → ((d : RecordChange) × IsAmong d cs × (is_same_bytes (changed_name d).key key ≡ true)) ⊎ HasNoneOf key cs →
        ((d : RecordChange) × IsAmong d (c ∷ cs) × (is_same_bytes (changed_name d).key key ≡ true)) ⊎ HasNoneOf key (c ∷ cs)
    by true e rest = inl (c, inl refl, e)
    by false e (inl d) = inl (d.0, inr d.1, d.2)
    by false e (inr none) = inr (e, none)

plain_name : (n : Name) (key : List ℕ) → is_same_bytes n.key key ≡ true → n.dup ≡ [] → n ≡ named key []
plain_name n key same none = ap₂ named (bytes_are n.key key same) none

abbrev IsWithoutData : RecordChange → Type 0
IsWithoutData c = (changed_name c).dup ≡ []

pub apart_owns : (locks : LockState) (t u : TxnId) (n : ℕ) (xs ys : List RecordChange) → AreTables locks → is_same_txn u t ≡ false →
    AllByRecursion (λ c. HoldsWrite locks.at t (n, c)) xs → AllByRecursion IsWithoutData xs → AllByRecursion (λ c. HoldsWrite locks.at u (n, c)) ys → AllByRecursion IsWithoutData ys → AreApart xs ys
apart_owns locks t u n xs ys tables apart held_x plain_x held_y plain_y key = by (one_or_none key xs)
  where
    at : Name → RecordId
    at m = record { db = n; at = On m }

    by : ((c : RecordChange) × IsAmong c xs × (is_same_bytes (changed_name c).key key ≡ true)) ⊎ HasNoneOf key xs → HasNoneOf key xs ⊎ HasNoneOf key ys
    by (inr none) = inl none
    by (inl c) = inr (all_of (λ d. is_same_bytes (changed_name d).key key ≡ false) ys (λ d k. ⊎_elim
        (λ e. let name_c = plain_name (changed_name c.0) key c.2 (all_at IsWithoutData xs c.0 plain_x c.1) in
        let name_d = plain_name (changed_name d) key e (all_at IsWithoutData ys d plain_y k) in
        absurd (one_writer locks t u (at (named key [])) tables apart
        (subst (λ (m : Name). HasWrite t (locks.at (at m)).0) name_c (all_at (λ (x : RecordChange). HoldsWrite locks.at t (n, x)) xs c.0 held_x c.1))
        (subst (λ (m : Name). HasWrite u (locks.at (at m)).0) name_d (all_at (λ (x : RecordChange). HoldsWrite locks.at u (n, x)) ys d held_y k))))
        (λ e. e)
        (cases_Bool (is_same_bytes (changed_name d).key key))))

-- ---- the own changes of all

abbrev pub owns : (ℕ → List (ℕ × RecordChange)) → ℕ → ℕ → Active → Owns
owns own primary index a = (of_db primary (own a.txn.0), of_db index (own a.txn.0))

later_apart : (t u : TxnId) → t.0 < u.0 → is_same_txn u t ≡ false
later_apart t u less = ⊎_elim
    (λ e. let k = ap (λ (x : TxnId). x.0) (same_is u t e) in absurd (omega (arith, less, k)))
    (λ e. e)
    (cases_Bool (is_same_txn u t))

others_apart : (locks : LockState) (own : ℕ → List (ℕ × RecordChange)) (primary index : ℕ) (a : Active) (as_ : List Active) → AreTables locks →
    ((n : ℕ) → AllByRecursion (HoldsWrite locks.at (txn_id n)) (own n)) → ((n : ℕ) → AllByRecursion IsWithoutData (of_db primary (own n))) →
    AllByRecursion (λ b. a.txn.0 < b.txn.0) as_ → AllByRecursion (λ other. AreApart other.0 (of_db primary (own a.txn.0))) (map (owns own primary index) as_)
others_apart locks own primary index a [] tables held plain less = tt
others_apart locks own primary index a (b ∷ as_) tables held plain less = (
  turned (apart_owns locks (txn_id a.txn.0) (txn_id b.txn.0) primary (of_db primary (own a.txn.0)) (of_db primary (own b.txn.0)) tables (later_apart (txn_id a.txn.0) (txn_id b.txn.0) less.0)
      (of_db_all (HoldsWrite locks.at (txn_id a.txn.0)) primary (own a.txn.0) (held a.txn.0)) (plain a.txn.0)
      (of_db_all (HoldsWrite locks.at (txn_id b.txn.0)) primary (own b.txn.0) (held b.txn.0)) (plain b.txn.0)),
  others_apart locks own primary index a as_ tables held plain less.1,
)
  where
    turned : AreApart (of_db primary (own a.txn.0)) (of_db primary (own b.txn.0)) → AreApart (of_db primary (own b.txn.0)) (of_db primary (own a.txn.0))
    turned apart key = ⊎_elim (λ h. inr h) (λ h. inl h) (apart key)

pub all_apart : (last : ℕ) (locks : LockState) (own : ℕ → List (ℕ × RecordChange)) (primary index : ℕ) (as_ : List Active) → AreTables locks →
    ((n : ℕ) → AllByRecursion (HoldsWrite locks.at (txn_id n)) (own n)) → ((n : ℕ) → AllByRecursion IsWithoutData (of_db primary (own n))) → AreNumbered last as_ →
    AreAllApart (map (owns own primary index) as_)
all_apart last locks own primary index [] tables held plain numbers = tt
all_apart last locks own primary index (a ∷ as_) tables held plain numbers =
    (others_apart locks own primary index a as_ tables held plain numbers.1, all_apart last locks own primary index as_ tables held plain numbers.2)
