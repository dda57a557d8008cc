-- Each step of an event keeps what holds: locks that are taken and given back.
use Rattle.std.proofs.Common.{◌≡◌, ℕ, Bool, true, false, cond, ◌⊎◌, inl, inr, List, [], ◌∷◌, ◌++◌, Some, None, Option, refl, ap, sym, ◌∙◌, subst, ⊎_elim}
use Rattle.std.specs.List.{AllByRecursion}
use Rattle.std.proofs.lemmas.Bool.{cases_Bool, cond-true, cond-false}
use Rattle.je_order.specs.declared.txn_id.TxnId.{TxnId}
use Rattle.je_order.proofs.TxnIds.{same_is}
use Rattle.lock_table.specs.declared.lock.Lock.{Lock}
use Rattle.lock_table.specs.declared.record_id.RecordId.{RecordId}
use Rattle.lock_table.specs.Locks.{lock_of, is_of, is_write, has_lock, held_by, is_blocked, with_lock, after_ask, after_read, IsSettled}
use Rattle.lock_table.specs.Records.{is_record}
use Rattle.lock_table.proofs.QueueMaps.{record_is}
use Rattle.lock_table.proofs.CallSteps.{record_same}
use Rattle.lock_table.proofs.RecordCalls.{settled_ask}
use Rattle.lock_table.proofs.QueueReads.{settled_read, waits_read}
use Rattle.store_model.specs.declared.isolation.Isolation.{Isolation}
use Rattle.store_model.specs.declared.isolation.Isolation.TheVariants.{ReadUncommitted, ReadCommitted, RepeatableRead, Serializable}
use Rattle.store_model.specs.declared.need.Need.{Need}
use Rattle.store_model.specs.declared.place.Place.{Place}
use Rattle.store_model.specs.declared.record_change.RecordChange.{RecordChange}
use Rattle.je_answers.specs.declared.active.Active.{Active}
use Rattle.je_answers.specs.declared.wait.Wait.{Wait}
use Rattle.je_answers.specs.Standing.{LockState}
use Rattle.je_answers.specs.Locking.{Queues, record_of, got, all_got, is_stopped, granted_part, first_blocked, given_back}
use Rattle.standing_laws.specs.Right.{HasWrite, HoldsWrite, place_of, txn_id, is_active, AreTables, IsSoundAt}
use Rattle.standing_laws.proofs.Waiters.{waiter_active}
use Rattle.standing_laws.proofs.Owners.{lock_keeps, lock_writes, read_keeps, read_before, locked_before}

abbrev pub Queue : Type 0
Queue = List Lock × List Lock

abbrev pub Changes : Type 0
Changes = ℕ → List (ℕ × RecordChange)

abbrev pub Cursors : Type 0
Cursors = ℕ → List Place

abbrev pub state : Queues → (TxnId → Option RecordId) → LockState
state at pending = record { at = at; pending = pending }

pub all_each : {X : Type 0} (P Q : X → Type 0) → ((x : X) → P x → Q x) → (xs : List X) → AllByRecursion P xs → AllByRecursion Q xs
all_each P Q f [] h = tt
all_each P Q f (x ∷ xs) h = (f x h.0, all_each P Q f xs h.1)

-- ---- one need is got

-- a record is as it was, or one lock more is owned there
abbrev pub IsGotAt : Lock → Queue → Queue → Type 0
IsGotAt w q new = (new ≡ q) ⊎ (new ≡ (with_lock w q.0, q.1))

pub got_is : (t : TxnId) (n : Need) (at : Queues) → is_stopped t n at ≡ false → (r : RecordId) → IsGotAt (lock_of t n.asked) (at r) (got t n at r)
got_is t n at free r = ⊎_elim
    (λ e. let blocked : is_blocked (at r).0 (lock_of t n.asked) ≡ false = ap (λ (x : RecordId). is_blocked (at x).0 (lock_of t n.asked)) (sym (record_is (record_of n) r e)) ∙ free in
    inr (cond-true (is_record (record_of n) r) (after_ask (lock_of t n.asked) (at r)) (at r) e ∙ cond-false (is_blocked (at r).0 (lock_of t n.asked)) ((at r).0, (at r).1 ++ lock_of t n.asked ∷ []) (with_lock (lock_of t n.asked) (at r).0, (at r).1) blocked))
    (λ e. inl (cond-false (is_record (record_of n) r) (after_ask (lock_of t n.asked) (at r)) (at r) e))
    (cases_Bool (is_record (record_of n) r))

settled_got : (t : TxnId) (n : Need) (at : Queues) → ((r : RecordId) → IsSettled (at r)) → ((r : RecordId) → has_lock t (at r).1 ≡ false) → (r : RecordId) → IsSettled (got t n at r)
settled_got t n at settled none r = by (is_record (record_of n) r)
  where
    by : (b : Bool) → IsSettled (cond b (after_ask (lock_of t n.asked) (at r)) (at r))
    by true = settled_ask (lock_of t n.asked) (at r) (settled r) (none r)
    by false = settled r

got_keeps : (w : Lock) (u : TxnId) (q new : Queue) → IsGotAt w q new → HasWrite u q.0 → HasWrite u new.0
got_keeps w u q new (inl e) h = subst (λ (x : Queue). HasWrite u x.0) (sym e) h
got_keeps w u q new (inr e) h = subst (λ (x : Queue). HasWrite u x.0) (sym e) (lock_keeps u w q.0 h)

got_waits : (w : Lock) (u : TxnId) (q new : Queue) → IsGotAt w q new → has_lock u new.1 ≡ true → has_lock u q.1 ≡ true
got_waits w u q new (inl e) h = subst (λ (x : Queue). has_lock u x.1 ≡ true) e h
got_waits w u q new (inr e) h = subst (λ (x : Queue). has_lock u x.1 ≡ true) e h

got_owns : (w : Lock) (u : TxnId) (q new : Queue) → IsGotAt w q new → has_lock u new.0 ≡ true → (has_lock u q.0 ≡ true) ⊎ (is_of u w ≡ true)
got_owns w u q new (inl e) h = inl (subst (λ (x : Queue). has_lock u x.0 ≡ true) e h)
got_owns w u q new (inr e) h = locked_before u w q.0 (subst (λ (x : Queue). has_lock u x.0 ≡ true) e h)

-- who was told nothing waits on no record
pub waits_nowhere : (locks : LockState) (t : TxnId) → AreTables locks → locks.pending t ≡ None → (r : RecordId) → has_lock t (locks.at r).1 ≡ false
waits_nowhere locks t tables none r = ⊎_elim
    (λ e. let k : None ≡ Some r = sym none ∙ tables.alone t r e in absurd (cc (k)))
    (λ e. e)
    (cases_Bool (has_lock t (locks.at r).1))

pub sound_got : (last : ℕ) (as_ : List Active) (ch : Changes) (cu : Cursors) (ws : List Wait) (locks : LockState) (t : TxnId) (n : Need) → IsSoundAt last as_ ch cu ws locks → is_active t as_ ≡ true → locks.pending t ≡ None
    → is_stopped t n locks.at ≡ false → IsSoundAt last as_ ch cu ws (state (got t n locks.at) locks.pending)
sound_got last as_ ch cu ws locks t n s active none free = record {
  numbers = s.numbers;
  waits = s.waits;
  tables = record {
    settled = settled_got t n locks.at s.tables.settled (waits_nowhere locks t s.tables none);
    alone = λ u r h. s.tables.alone u r (got_waits (lock_of t n.asked) u (locks.at r) (got t n locks.at r) (got_is t n locks.at free r) h);
  };
  owners = λ u r h. ⊎_elim (λ k. s.owners u r k) (λ k. subst (λ (x : TxnId). is_active x as_ ≡ true) (sym (same_is u t k)) active) (got_owns (lock_of t n.asked) u (locks.at r) (got t n locks.at r) (got_is t n locks.at free r) h);
  own_active = s.own_active;
  own_locked = λ m. all_each (HoldsWrite locks.at (txn_id m)) (HoldsWrite (got t n locks.at) (txn_id m))
      (λ c h. got_keeps (lock_of t n.asked) (txn_id m) (locks.at (place_of c)) (got t n locks.at (place_of c)) (got_is t n locks.at free (place_of c)) h) (ch m) (s.own_locked m);
  places = s.places;
}

-- ---- all needs are got

stopped_or : (t : TxnId) (n : Need) (ns : List Need) (at : Queues) → first_blocked t (n ∷ ns) at ≡ None → (is_stopped t n at ≡ false) × (first_blocked t ns (got t n at) ≡ None)
stopped_or t n ns at h = ⊎_elim
    (λ e. let k : Some n ≡ None = sym (cond-true (is_stopped t n at) (Some n) (first_blocked t ns (got t n at)) e) ∙ h in absurd (cc (k)))
    (λ e. (e, sym (cond-false (is_stopped t n at) (Some n) (first_blocked t ns (got t n at)) e) ∙ h))
    (cases_Bool (is_stopped t n at))

pub sound_all_got : (last : ℕ) (as_ : List Active) (ch : Changes) (cu : Cursors) (ws : List Wait) (locks : LockState) (t : TxnId) (ns : List Need) → IsSoundAt last as_ ch cu ws locks → is_active t as_ ≡ true → locks.pending t ≡ None
    → first_blocked t ns locks.at ≡ None → IsSoundAt last as_ ch cu ws (state (all_got t ns locks.at) locks.pending)
sound_all_got last as_ ch cu ws locks t [] s active none free = s
sound_all_got last as_ ch cu ws locks t (n ∷ ns) s active none free =
    let k = stopped_or t n ns locks.at free in
    sound_all_got last as_ ch cu ws (state (got t n locks.at) locks.pending) t ns (sound_got last as_ ch cu ws locks t n s active none k.0) active none k.1

pub granted_free : (t : TxnId) (ns : List Need) (at : Queues) → first_blocked t (granted_part t ns at) at ≡ None
granted_free t [] at = refl
granted_free t (n ∷ ns) at = ⊎_elim
    (λ e. ap (λ (l : List Need). first_blocked t l at) (cond-true (is_stopped t n at) [] (n ∷ granted_part t ns (got t n at)) e))
    (λ e. ap (λ (l : List Need). first_blocked t l at) (cond-false (is_stopped t n at) [] (n ∷ granted_part t ns (got t n at)) e)
    ∙ (cond-false (is_stopped t n at) (Some n) (first_blocked t (granted_part t ns (got t n at)) (got t n at)) e ∙ granted_free t ns (got t n at)))
    (cases_Bool (is_stopped t n at))

-- the need that is stopped is stopped behind those that were granted
pub stopped_behind : (t : TxnId) (ns : List Need) (at : Queues) (n : Need) → first_blocked t ns at ≡ Some n → is_stopped t n (all_got t (granted_part t ns at) at) ≡ true
stopped_behind t [] at n h = absurd (cc (h))
stopped_behind t (m ∷ ms) at n h = ⊎_elim
    (λ e. let k : Some m ≡ Some n = sym (cond-true (is_stopped t m at) (Some m) (first_blocked t ms (got t m at)) e) ∙ h in
    let same : m ≡ n = some_need m n k in
    ap (λ (l : List Need). is_stopped t n (all_got t l at)) (cond-true (is_stopped t m at) [] (m ∷ granted_part t ms (got t m at)) e) ∙ subst (λ (x : Need). is_stopped t x at ≡ true) same e)
    (λ e. ap (λ (l : List Need). is_stopped t n (all_got t l at)) (cond-false (is_stopped t m at) [] (m ∷ granted_part t ms (got t m at)) e)
    ∙ stopped_behind t ms (got t m at) n (sym (cond-false (is_stopped t m at) (Some m) (first_blocked t ms (got t m at)) e) ∙ h))
    (cases_Bool (is_stopped t m at))
  where
    some_need : (x y : Need) → Some x ≡ Some y → x ≡ y
    some_need x y e = cc

all_got_keeps : (t u : TxnId) (ns : List Need) (at : Queues) (r : RecordId) → first_blocked t ns at ≡ None → HasWrite u (at r).0 → HasWrite u (all_got t ns at r).0
all_got_keeps t u [] at r free h = h
all_got_keeps t u (n ∷ ns) at r free h = let k = stopped_or t n ns at free in all_got_keeps t u ns (got t n at) r k.1 (got_keeps (lock_of t n.asked) u (at r) (got t n at r) (got_is t n at k.0 r) h)

-- what is needed for writing is then written
abbrev pub IsWritten : Queues → TxnId → Need → Type 0
IsWritten at t n = is_write n.asked ≡ true → HasWrite t (at (record_of n)).0

got_writes : (t : TxnId) (n : Need) (at : Queues) → is_stopped t n at ≡ false → is_write n.asked ≡ true → HasWrite t (got t n at (record_of n)).0
got_writes t n at free w = subst (λ (q : Queue). HasWrite t q.0)
    (sym (cond-true (is_record (record_of n) (record_of n)) (after_ask (lock_of t n.asked) (at (record_of n))) (at (record_of n)) (record_same (record_of n))
    ∙ cond-false (is_blocked (at (record_of n)).0 (lock_of t n.asked)) ((at (record_of n)).0, (at (record_of n)).1 ++ lock_of t n.asked ∷ []) (with_lock (lock_of t n.asked) (at (record_of n)).0, (at (record_of n)).1) free))
    (lock_writes (lock_of t n.asked) (at (record_of n)).0 w)

pub all_written : (t : TxnId) (ns : List Need) (at : Queues) → first_blocked t ns at ≡ None → AllByRecursion (IsWritten (all_got t ns at) t) ns
all_written t [] at free = tt
all_written t (n ∷ ns) at free =
    let k = stopped_or t n ns at free in
    (λ w. all_got_keeps t t ns (got t n at) (record_of n) k.1 (got_writes t n at k.0 w), all_written t ns (got t n at) k.1)

-- ---- what a level does not keep is given back

pub sound_back : (last : ℕ) (as_ : List Active) (ch : Changes) (cu : Cursors) (ws : List Wait) (locks : LockState) (level : Isolation) (t : TxnId) → IsSoundAt last as_ ch cu ws locks
    → IsSoundAt last as_ ch cu ws (state (given_back level t locks.at) locks.pending)
sound_back last as_ ch cu ws locks ReadUncommitted t s = s
sound_back last as_ ch cu ws locks RepeatableRead t s = s
sound_back last as_ ch cu ws locks Serializable t s = s
sound_back last as_ ch cu ws locks ReadCommitted t s = record {
  numbers = s.numbers;
  waits = s.waits;
  tables = record {
    settled = λ r. settled_read t (locks.at r) (s.tables.settled r);
    alone = λ u r h. s.tables.alone u r (waits_read u t (locks.at r) h);
  };
  owners = λ u r h. ⊎_elim (λ k. s.owners u r k) (λ k. waiter u r (s.tables.alone u r k)) (read_before t u (held_by t (locks.at r).0) (locks.at r) h);
  own_active = s.own_active;
  own_locked = λ m. all_each (HoldsWrite locks.at (txn_id m)) (HoldsWrite (λ r. after_read t (locks.at r)) (txn_id m)) (λ c h. read_keeps t (txn_id m) (locks.at (place_of c)) h) (ch m) (s.own_locked m);
  places = s.places;
}
  where
    waiter : (u : TxnId) (r : RecordId) → locks.pending u ≡ Some r → is_active u as_ ≡ true
    waiter u r k = waiter_active u as_ ws locks.pending s.waits r k
