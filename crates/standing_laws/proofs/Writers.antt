-- Who has changed a name alone: who got the lock for writing there.
use Rattle.std.proofs.Common.{◌≡◌, ◌≢◌, ◌⊎◌, inl, inr, ℕ, ◌==◌, Bool, true, false, cond, not, ◌&&◌, List, [], ◌∷◌, ◌++◌, map, Some, None, Option, refl, ap, ap₂, sym, ◌∙◌, is_eq}
use Rattle.std.specs.List.{find, flat_map, AllByRecursion}
use Rattle.std.specs.Option.{option_map}
use Rattle.std.proofs.lemmas.Bool.{cond-true, cond-false, or_left, or_right, both_ways, eqb-true}
use Rattle.std.proofs.lemmas.Bool.Decides.{eqb_tells}
use Rattle.std.proofs.lemmas.Option.{none-some, same_Some}
use Rattle.je_order.specs.Order.{name_cmp}
use Rattle.je_order.specs.declared.name.Name.{Name}
use Rattle.je_order.specs.declared.bound.Bound.TheVariants.{At as On}
use Rattle.je_order.specs.declared.txn_id.TxnId.{TxnId}
use Rattle.je_order.specs.Transactions.{is_same_txn}
use Rattle.je_order.proofs.TxnIds.{same_is, same_either}
use Rattle.je_order.proofs.Orderings.{equal_from_test, name_exact}
use Rattle.je_order.proofs.Lists.{all_weaker}
use Rattle.lock_mode.specs.declared.lock_type.LockType.{LockType}
use Rattle.lock_mode.specs.declared.lock_type.LockType.TheVariants.{Read, Write, RangeRead, RangeWrite, RangeInsert}
use Rattle.lock_mode.specs.Modes.{conflicts_with, can_be_held, upgraded}
use Rattle.lock_table.specs.declared.lock.Lock.{Lock}
use Rattle.lock_table.specs.declared.record_id.RecordId.{RecordId}
use Rattle.lock_table.specs.Locks.{lock_of, is_of, is_write, has_lock, held_by, is_blocked, is_blocking, upgraded_by, with_lock, after_ask}
use Rattle.lock_table.specs.Records.{is_record}
use Rattle.store_model.specs.declared.isolation.Isolation.{Isolation}
use Rattle.store_model.specs.declared.isolation.Isolation.TheVariants.{ReadUncommitted, ReadCommitted, RepeatableRead, Serializable}
use Rattle.store_model.specs.declared.kind.Kind.{Kind}
use Rattle.store_model.specs.declared.need.Need.{Need}
use Rattle.store_model.specs.declared.answer.Answer.{Answer}
use Rattle.store_model.specs.declared.call.Call.{Call}
use Rattle.store_model.specs.declared.record_change.RecordChange.{RecordChange}
use Rattle.store_model.specs.Store.{Pair}
use Rattle.store_model.specs.Indexes.{Numbered}
use Rattle.store_model.specs.Reads.{seen, passed_to}
use Rattle.store_model.specs.Records.{Evaluated, unless_early, conclude, early_of, look_of}
use Rattle.store_model.specs.Needs.{need, write_type, changed_name, change_needs, record_needs, needs_unless, part_needs, part_of, ends}
use Rattle.je_answers.specs.declared.active.Active.{Active}
use Rattle.je_answers.specs.Standing.{Standing}
use Rattle.je_answers.specs.Views.{Target, view_in, view_of, occupied_in, occupied, of_db, changes_with, with_numbers, outcome_of, needs_in}
use Rattle.je_answers.specs.Locking.{Queues, record_of, got, is_stopped, first_blocked}
use Rattle.standing_laws.specs.Right.{AreSound, HoldsWrite, place_of, txn_id}
use Rattle.standing_laws.specs.Laws.{IsOnlyOf, WritersAreFree, UnusedHasNoChanges}

-- ---- what others hold stays where a transaction gets a lock

held_here : (t : TxnId) (o : Lock) (os : List Lock) → is_of t o ≡ true → held_by t (o ∷ os) ≡ Some o.mode
held_here t o os e = ap (option_map (λ (l : Lock). l.mode)) (cond-true (is_of t o) (Some o) (find (is_of t) os) e)

held_there : (t : TxnId) (o : Lock) (os : List Lock) → is_of t o ≡ false → held_by t (o ∷ os) ≡ held_by t os
held_there t o os e = ap (option_map (λ (l : Lock). l.mode)) (cond-false (is_of t o) (Some o) (find (is_of t) os) e)

held_upgraded : (u : TxnId) (w : Lock) (os : List Lock) → is_same_txn u w.txn ≡ false → held_by u (map (upgraded_by w) os) ≡ held_by u os
held_upgraded u w [] apart = refl
held_upgraded u w (o ∷ os) apart = by (is_of w.txn o) refl (is_of u o) refl (held_upgraded u w os apart)
  where
    up : Lock
    up = record { txn = o.txn; mode = upgraded o.mode w.mode }

    by : (b : Bool) → is_of w.txn o ≡ b → (c : Bool) → is_of u o ≡ c → held_by u (map (upgraded_by w) os) ≡ held_by u os → held_by u (map (upgraded_by w) (o ∷ os)) ≡ held_by u (o ∷ os)
    by true e c f rest =
        let other : is_of u o ≡ false = ap (is_same_txn u) (sym (same_is w.txn o.txn e)) ∙ apart in
        ap (λ (b : Bool). held_by u (cond b up o ∷ map (upgraded_by w) os)) e ∙ held_there u up (map (upgraded_by w) os) other ∙ rest ∙ sym (held_there u o os other)
    by false e true f rest =
        ap (λ (b : Bool). held_by u (cond b up o ∷ map (upgraded_by w) os)) e ∙ held_here u o (map (upgraded_by w) os) f ∙ sym (held_here u o os f)
    by false e false f rest =
        ap (λ (b : Bool). held_by u (cond b up o ∷ map (upgraded_by w) os)) e ∙ held_there u o (map (upgraded_by w) os) f ∙ rest ∙ sym (held_there u o os f)

held_pushed : (u : TxnId) (w : Lock) (os : List Lock) → is_same_txn u w.txn ≡ false → held_by u (os ++ w ∷ []) ≡ held_by u os
held_pushed u w [] apart = held_there u w [] apart
held_pushed u w (o ∷ os) apart = by (is_of u o) refl (held_pushed u w os apart)
  where
    by : (b : Bool) → is_of u o ≡ b → held_by u (os ++ w ∷ []) ≡ held_by u os → held_by u (o ∷ (os ++ w ∷ [])) ≡ held_by u (o ∷ os)
    by true e rest = held_here u o (os ++ w ∷ []) e ∙ sym (held_here u o os e)
    by false e rest = held_there u o (os ++ w ∷ []) e ∙ rest ∙ sym (held_there u o os e)

held_with : (u : TxnId) (w : Lock) (os : List Lock) → is_same_txn u w.txn ≡ false → held_by u (with_lock w os) ≡ held_by u os
held_with u w os apart = by (can_be_held w.mode) (has_lock w.txn os)
  where
    by : (b c : Bool) → held_by u (cond b (cond c (map (upgraded_by w) os) (os ++ w ∷ [])) os) ≡ held_by u os
    by true true = held_upgraded u w os apart
    by true false = held_pushed u w os apart
    by false c = refl

held_asked : (u : TxnId) (w : Lock) (q : List Lock × List Lock) → is_same_txn u w.txn ≡ false → held_by u (after_ask w q).0 ≡ held_by u q.0
held_asked u w q apart = by (is_blocked q.0 w)
  where
    pushed : List Lock × List Lock
    pushed = (q.0, q.1 ++ w ∷ [])

    had : List Lock × List Lock
    had = (with_lock w q.0, q.1)

    by : (b : Bool) → held_by u (cond b pushed had).0 ≡ held_by u q.0
    by true = refl
    by false = held_with u w q.0 apart

pub held_got : (t u : TxnId) (n : Need) (at : Queues) (r : RecordId) → is_same_txn u t ≡ false → held_by u (got t n at r).0 ≡ held_by u (at r).0
held_got t u n at r apart = by (is_record (record_of n) r)
  where
    by : (b : Bool) → held_by u (cond b (after_ask (lock_of t n.asked) (at r)) (at r)).0 ≡ held_by u (at r).0
    by true = held_asked u (lock_of t n.asked) (at r) apart
    by false = refl

-- ---- who writes stops who wants to

conflict : (m asked : LockType) → is_write m ≡ true → is_write asked ≡ true → conflicts_with m asked ≡ true
conflict Read asked h k = absurd cc
conflict RangeRead asked h k = absurd cc
conflict RangeInsert asked h k = absurd cc
conflict Write Read h k = absurd cc
conflict Write Write h k = refl
conflict Write RangeRead h k = absurd cc
conflict Write RangeWrite h k = refl
conflict Write RangeInsert h k = absurd cc
conflict RangeWrite asked h k = refl

pub stops : (t u : TxnId) (asked m : LockType) (os : List Lock) → is_same_txn u t ≡ false → held_by u os ≡ Some m → is_write m ≡ true → is_write asked ≡ true → is_blocked os (lock_of t asked) ≡ true
stops t u asked m [] apart held h k = absurd (none-some m held)
stops t u asked m (o ∷ os) apart held h k = by (is_of u o) refl (λ more. stops t u asked m os apart more h k)
  where
    by : (b : Bool) → is_of u o ≡ b → (held_by u os ≡ Some m → is_blocked os (lock_of t asked) ≡ true) → is_blocked (o ∷ os) (lock_of t asked) ≡ true
    by true e rest =
        let mode : o.mode ≡ m = same_Some o.mode m (sym (held_here u o os e) ∙ held) in
        let other : is_same_txn t o.txn ≡ false = ap (is_same_txn t) (sym (same_is u o.txn e)) ∙ same_either t u ∙ apart in
        or_left (is_blocking (lock_of t asked) o) (is_blocked os (lock_of t asked))
        (ap₂ (λ (b : Bool) (x : LockType). not b && conflicts_with x asked) other mode ∙ conflict m asked h k)
    by false e rest = or_right (is_blocking (lock_of t asked) o) (is_blocked os (lock_of t asked)) (rest (sym (held_there u o os e) ∙ held))

-- nobody else writes at the record of a need that was got for writing
abbrev IsFreeNeed : TxnId → Queues → Need → Type 0
IsFreeNeed t at n = is_write n.asked ≡ true → (u : TxnId) (m : LockType) → is_same_txn u t ≡ false → held_by u (at (record_of n)).0 ≡ Some m → is_write m ≡ true → ⊥

free_needs : (t : TxnId) (needs : List Need) (at : Queues) → first_blocked t needs at ≡ None → AllByRecursion (IsFreeNeed t at) needs
free_needs t [] at none = tt
free_needs t (n ∷ needs) at none = by (is_stopped t n at) refl none (λ more. free_needs t needs (got t n at) more)
  where
    by : (b : Bool) → is_stopped t n at ≡ b → cond b (Some n) (first_blocked t needs (got t n at)) ≡ None → (first_blocked t needs (got t n at) ≡ None → AllByRecursion (IsFreeNeed t (got t n at)) needs) →
        AllByRecursion (IsFreeNeed t at) (n ∷ needs)
    by true e h rest = absurd (none-some n (sym h))
    by false e h rest = (
      λ k u m apart held w. both_ways (is_stopped t n at) e (stops t u n.asked m (at (record_of n)).0 apart held w k),
      all_weaker (IsFreeNeed t (got t n at)) (IsFreeNeed t at) (λ x free k u m apart held w. free k u m apart (held_got t u n at (record_of x) apart ∙ held) w) needs (rest h),
    )

-- ---- the needs of changes

all_behind : {X : Type 0} (P : X → Type 0) (xs ys : List X) → AllByRecursion P (xs ++ ys) → AllByRecursion P ys
all_behind P [] ys all = all
all_behind P (x ∷ xs) ys all = all_behind P xs ys all.1

pub writes_of : (P : Need → Type 0) (level : Isolation) (see : Numbered → List Pair) (names : Numbered → List Name) (cs : List (Numbered × RecordChange)) →
    AllByRecursion P (flat_map (change_needs level see names) cs) → AllByRecursion (λ c. P (need c.0 (On (changed_name c.1)) (write_type level))) (with_numbers cs)
writes_of P level see names [] all = tt
writes_of P level see names (c ∷ cs) all =
    (all.0, writes_of P level see names cs (all_behind P (change_needs level see names c) (flat_map (change_needs level see names) cs) all))

pub write_is : (level : Isolation) → is_write (write_type level) ≡ true
write_is ReadUncommitted = refl
write_is ReadCommitted = refl
write_is RepeatableRead = refl
write_is Serializable = refl

-- a call that is answered before it looks changes nothing
pub by_early : (P : Need → Type 0) (Q : List RecordChange → Type 0) (early : Option Answer) (at : Option Name) (front back : List Need) (evaluated : Evaluated) →
    AllByRecursion P (needs_unless early (front ++ back)) → Q [] → (AllByRecursion P back → Q evaluated.changes) → Q (unless_early early at evaluated).changes
by_early P Q None at front back evaluated all nothing then_all = then_all (all_behind P front back all)
by_early P Q (Some answer) at front back evaluated all nothing then_all = nothing

-- what holds of the needs of a call holds of those of what it changes
pub of_changes : (P : Need → Type 0) (st : Standing) (a : Active) (call : Call) (g : Target) → AllByRecursion P (needs_in st a call g) →
    AllByRecursion (λ c. P (need c.0 (On (changed_name c.1)) (write_type a.level))) (with_numbers (changes_with st a g (outcome_of st a call g).changes))
of_changes P st a call g all =
    let kind : Kind = g.database.kind in
    let view : List Pair = view_of st a g in
    let l = look_of kind call g.at in
    let taken : List Pair = seen kind l.way l.range view in
    let evaluated : Evaluated = conclude kind call g.at taken in
    by_early P (λ cs. AllByRecursion (λ c. P (need c.0 (On (changed_name c.1)) (write_type a.level))) (with_numbers (changes_with st a g cs))) (early_of kind call g.at view) g.at
    (part_needs g.db (part_of a.level call) (passed_to kind l.way l.range taken) (ends l.way evaluated.answered taken) (occupied st g) ++ record_needs (part_of a.level call) g.over evaluated.answer)
    (flat_map (change_needs a.level (view_in st a) (occupied_in st)) (changes_with st a g evaluated.changes)) evaluated all tt
    (writes_of P a.level (view_in st a) (occupied_in st) (changes_with st a g evaluated.changes))

-- ---- own changes

both_true : (a b : Bool) → (a && b) ≡ true → (a ≡ true) × (b ≡ true)
both_true true b h = (refl, h)
both_true false b h = absurd cc

only_of : (st : Standing) (t : TxnId) (d : ℕ) (level : Isolation) (c : RecordChange) → AreSound st → IsFreeNeed t st.locks.at (need d (On (changed_name c)) (write_type level)) → IsOnlyOf d (changed_name c) t.0 st.own
only_of st t d level c sound free u apart = all_weaker (HoldsWrite st.locks.at (txn_id u)) (λ o. is_its o ≡ false) each (st.own u) (sound.own_locked u)
  where
    is_its : ℕ × RecordChange → Bool
    is_its o = (o.0 == d) && is_eq (name_cmp (changed_name c) (changed_name o.1))

    other : ((u == t.0) ≡ true) × (u ≡ t.0) ⊎ ((u == t.0) ≡ false) × (u ≢ t.0) → is_same_txn (txn_id u) t ≡ false
    other (inl same) = absurd (apart same.1)
    other (inr k) = k.0

    each : (o : ℕ × RecordChange) → HoldsWrite st.locks.at (txn_id u) o → is_its o ≡ false
    each o h = by (is_its o) refl
      where
        by : (b : Bool) → is_its o ≡ b → is_its o ≡ false
        by true e =
            let parts = both_true (o.0 == d) (is_eq (name_cmp (changed_name c) (changed_name o.1))) e in
            let db : o.0 ≡ d = eqb-true o.0 d parts.0 in
            let name : changed_name c ≡ changed_name o.1 = name_exact (changed_name c) (changed_name o.1) (equal_from_test (name_cmp (changed_name c) (changed_name o.1)) parts.1) in
            let make : ℕ → Name → RecordId = λ n x. record { db = n; at = On x } in
            absurd (free (write_is level) (txn_id u) h.mode (other (eqb_tells u t.0))
            (ap (λ (r : RecordId). held_by (txn_id u) (st.locks.at r).0) (ap₂ make (sym db) name) ∙ h.held) h.writes)
        by false e = e

pub writers-are_free : WritersAreFree
writers-are_free st a call g sound none =
    all_weaker (λ (c : ℕ × RecordChange). IsFreeNeed a.txn st.locks.at (need c.0 (On (changed_name c.1)) (write_type a.level))) (λ c. IsOnlyOf c.0 (changed_name c.1) a.txn.0 st.own)
    (λ c free. only_of st a.txn c.0 a.level c.1 sound free) (with_numbers (changes_with st a g (outcome_of st a call g).changes))
    (of_changes (IsFreeNeed a.txn st.locks.at) st a call g (free_needs a.txn (needs_in st a call g) st.locks.at none))

-- ---- a database that nobody uses

unused : (at : Queues) (t : TxnId) (db : ℕ) (own : List (ℕ × RecordChange)) → ((r : RecordId) → r.db ≡ db → at r ≡ ([], [])) → AllByRecursion (HoldsWrite at t) own → of_db db own ≡ []
unused at t db [] free all = refl
unused at t db (c ∷ own) free all = by (c.0 == db) refl (unused at t db own free all.1)
  where
    by : (b : Bool) → (c.0 == db) ≡ b → of_db db own ≡ [] → cond b (c.1 ∷ of_db db own) (of_db db own) ≡ []
    by true e rest =
        absurd (none-some all.0.mode (ap (λ (q : List Lock × List Lock). held_by t q.0) (sym (free (place_of c) (eqb-true c.0 db e))) ∙ all.0.held))
    by false e rest = rest

pub unused-has_no_changes : UnusedHasNoChanges
unused-has_no_changes st db sound free t =
    unused st.locks.at (txn_id t) db (st.own t) (λ r e. ap (λ (n : ℕ). st.locks.at (record { db = n; at = r.at })) e ∙ free.locks r.at) (sound.own_locked t)
