-- Who waits for whom after each step of the locks: no step closes a cycle, and the victims of a wait break those that it closes.
use Rattle.std.proofs.Common.{◌≡◌, ◌⊎◌, inl, inr, ℕ, Bool, true, false, cond, List, [], ◌∷◌, ◌++◌, map, filter, find, Option, None, Some, refl, ap, sym, ◌∙◌, subst, ⊎_elim}
use Rattle.std.specs.Option.{option_map_or}
use Rattle.std.proofs.lemmas.Bool.{cases_Bool, cond-true, cond-false, both_ways, or_left, or_right, or_parts, false_from_ne_true}
use Rattle.je_order.specs.declared.txn_id.TxnId.{TxnId}
use Rattle.je_order.specs.Transactions.{is_same_txn}
use Rattle.je_order.proofs.TxnIds.{same_is, same_itself, same_either}
use Rattle.waits_for.specs.Cycles.{is_in}
use Rattle.lock_table.specs.declared.lock.Lock.{Lock}
use Rattle.lock_table.specs.declared.record_id.RecordId.{RecordId}
use Rattle.lock_table.specs.Locks.{lock_of, is_of, has_lock, held_by, is_blocking, is_blocked, waited_for, with_lock, after_ask, after_read, IsSettled}
use Rattle.lock_table.specs.Records.{is_record}
use Rattle.lock_table.proofs.QueueMaps.{record_is}
use Rattle.lock_table.proofs.CallSteps.{record_same}
use Rattle.lock_table.proofs.RecordCalls.{settled_release, waits_release as has_release}
use Rattle.lock_mgr.specs.Deadlock.{HasNoCycle, AreVictims}
use Rattle.lock_mgr.proofs.CycleLaws.{Waits, GrowsFrom, still_none, within_none, none_after}
use Rattle.lock_mgr.proofs.WaitsForLaws.{Queue, waits_on, wait_parts, waits_release, waits_read, waits_taken}
use Rattle.lock_mgr.proofs.NoDeadlockLaws.{waits_less}
use Rattle.store_model.specs.declared.isolation.Isolation.{Isolation}
use Rattle.store_model.specs.declared.isolation.Isolation.TheVariants.{ReadUncommitted, ReadCommitted, RepeatableRead, Serializable}
use Rattle.store_model.specs.declared.need.Need.{Need}
use Rattle.je_answers.specs.declared.active.Active.{Active}
use Rattle.je_answers.specs.declared.wait.Wait.{Wait}
use Rattle.je_answers.specs.Standing.{LockState}
use Rattle.je_answers.specs.Locking.{record_of, got, all_got, is_stopped, first_blocked, given_back, all_given_back, released, forgotten, with_wait, waits_for_in, waits_in}
use Rattle.standing_laws.specs.Right.{AreTables, IsSoundAt, is_active}
use Rattle.standing_laws.proofs.Steps.{Changes, Cursors, state, IsGotAt, got_is, sound_got, sound_back}

-- ---- who waits for whom

abbrev pub waits_of : LockState → Waits
waits_of locks x y = is_in y (waits_for_in locks x)

record IsWaitAt (x y : TxnId) (locks : LockState) : Type 0 where
  pub at : RecordId
  pub pending : locks.pending x ≡ Some at
  pub on : waits_on x y (locks.at at) ≡ true

parts : (locks : LockState) (x y : TxnId) → waits_of locks x y ≡ true → IsWaitAt x y locks
parts locks x y h = by (locks.pending x) refl
  where
    by : (o : Option RecordId) → locks.pending x ≡ o → IsWaitAt x y locks
    by None e = absurd (both_ways false refl (sym (ap (λ (o : Option RecordId). is_in y (option_map_or (λ r. waited_for x (locks.at r)) o [])) e) ∙ h))
    by (Some r) e = record { at = r; pending = e; on = sym (ap (λ (o : Option RecordId). is_in y (option_map_or (λ s. waited_for x (locks.at s)) o [])) e) ∙ h }

from : (locks : LockState) (x y : TxnId) (r : RecordId) → locks.pending x ≡ Some r → waits_on x y (locks.at r) ≡ true → waits_of locks x y ≡ true
from locks x y r e h = ap (λ (o : Option RecordId). is_in y (option_map_or (λ s. waited_for x (locks.at s)) o [])) e ∙ h

found_has : (x : TxnId) (ws : List Lock) (w : Lock) → find (is_of x) ws ≡ Some w → has_lock x ws ≡ true
found_has x [] w e = absurd (cc (e))
found_has x (v ∷ ws) w e = ⊎_elim
    (λ h. or_left (is_of x v) (has_lock x ws) h)
    (λ h. or_right (is_of x v) (has_lock x ws) (found_has x ws w (sym (cond-false (is_of x v) (Some v) (find (is_of x) ws) h) ∙ e)))
    (cases_Bool (is_of x v))

-- who was told nothing waits for nobody, and so does who has no wait where it was told
no_edge : (locks : LockState) (x : TxnId) → locks.pending x ≡ None → (z : TxnId) → waits_of locks x z ≡ false
no_edge locks x e z = false_from_ne_true (waits_of locks x z) (λ h. let p = parts locks x z h in let q = p.pending in absurd (cc (q, e)))

no_wait : (locks : LockState) (x : TxnId) (r : RecordId) → locks.pending x ≡ Some r → has_lock x (locks.at r).1 ≡ false → (z : TxnId) → waits_of locks x z ≡ false
no_wait locks x r e n z = false_from_ne_true (waits_of locks x z) (λ h.
    let p = parts locks x z h in
    let s : p.at ≡ r = cc (p.pending, e) in
    let w = wait_parts x z (locks.at p.at) p.on in
    both_ways (has_lock x (locks.at r).1) n (subst (λ (u : RecordId). has_lock x (locks.at u).1 ≡ true) s (found_has x (locks.at p.at).1 w.0 w.1)))

-- ---- queues

-- settled queues; who waits on a record was told so, or is forgotten
pub record AreQueues (locks : LockState) : Type 0 where
  pub settled : (r : RecordId) → IsSettled (locks.at r)
  pub alone : (t : TxnId) (r : RecordId) → has_lock t (locks.at r).1 ≡ true → (locks.pending t ≡ Some r) ⊎ (locks.pending t ≡ None)

pub queues_of : (locks : LockState) → AreTables locks → AreQueues locks
queues_of locks t = record { settled = t.settled; alone = λ u r h. inl (t.alone u r h) }

-- who waited somewhere and does so no more waits for nobody
granted_free : (old new : LockState) (y : TxnId) (r : RecordId) → (old.pending y ≡ Some r) ⊎ (old.pending y ≡ None) → ((new.pending y ≡ None) ⊎ (new.pending y ≡ old.pending y)) → has_lock y (new.at r).1 ≡ false → (z : TxnId) → waits_of new y z ≡ false
granted_free old new y r o (inl none) gone z = no_edge new y none z
granted_free old new y r (inl some) (inr same) gone z = no_wait new y r (same ∙ some) gone z
granted_free old new y r (inr none) (inr same) gone z = no_edge new y (same ∙ none) z

some_if : (b : Bool) (o : Option RecordId) (r : RecordId) → cond b None o ≡ Some r → (b ≡ false) × (o ≡ Some r)
some_if true o r h = absurd (cc (h))
some_if false o r h = (refl, h)

-- ---- an end

pub released_free : (t : TxnId) (locks : LockState) → AreQueues locks → HasNoCycle (waits_of locks) → HasNoCycle (waits_of (released t locks))
released_free t locks q free = still_none (waits_of locks) (waits_of (released t locks)) grows free
  where
    pending_is : (y : TxnId) → (cond (is_same_txn t y) None (locks.pending y) ≡ None) ⊎ (cond (is_same_txn t y) None (locks.pending y) ≡ locks.pending y)
    pending_is y = ⊎_elim (λ e. inl (cond-true (is_same_txn t y) None (locks.pending y) e)) (λ e. inr (cond-false (is_same_txn t y) None (locks.pending y) e)) (cases_Bool (is_same_txn t y))

    grows : GrowsFrom (waits_of locks) (waits_of (released t locks))
    grows x y h =
        let k = parts (released t locks) x y h in
        ⊎_elim
        (λ o. inl (from locks x y k.at (some_if (is_same_txn t x) (locks.pending x) k.at k.pending).1 o))
        (λ g. inr (granted_free locks (released t locks) y k.at (q.alone y k.at g.0) (pending_is y) g.1))
        (waits_release x y t (locks.at k.at) (q.settled k.at).apart k.on)

pub released_queues : (t : TxnId) (locks : LockState) → AreQueues locks → AreQueues (released t locks)
released_queues t locks q = record {
  settled = λ r. settled_release t (locks.at r) (q.settled r);
  alone = λ u r h. ⊎_elim
      (λ e. inr (cond-true (is_same_txn t u) None (locks.pending u) e))
      (λ e. ⊎_elim (λ o. inl (cond-false (is_same_txn t u) None (locks.pending u) e ∙ o)) (λ o. inr (cond-false (is_same_txn t u) None (locks.pending u) e ∙ o)) (q.alone u r (has_release u t (locks.at r) h)))
      (cases_Bool (is_same_txn t u));
}

-- ---- a call that goes on

pub forgotten_free : (t : TxnId) (locks : LockState) → HasNoCycle (waits_of locks) → HasNoCycle (waits_of (forgotten t locks))
forgotten_free t locks free = within_none (waits_of locks) (waits_of (forgotten t locks)) (λ x y h.
    let k = parts (forgotten t locks) x y h in from locks x y k.at (some_if (is_same_txn t x) (locks.pending x) k.at k.pending).1 k.on) free

pub forgotten_queues : (t : TxnId) (locks : LockState) → AreQueues locks → AreQueues (forgotten t locks)
forgotten_queues t locks q = record {
  settled = q.settled;
  alone = λ u r h. ⊎_elim
      (λ e. inr (cond-true (is_same_txn t u) None (locks.pending u) e))
      (λ e. ⊎_elim (λ o. inl (cond-false (is_same_txn t u) None (locks.pending u) e ∙ o)) (λ o. inr (cond-false (is_same_txn t u) None (locks.pending u) e ∙ o)) (q.alone u r h))
      (cases_Bool (is_same_txn t u));
}

-- ---- needs that are got

got_free : (t : TxnId) (n : Need) (locks : LockState) → locks.pending t ≡ None → is_stopped t n locks.at ≡ false → HasNoCycle (waits_of locks) → HasNoCycle (waits_of (state (got t n locks.at) locks.pending))
got_free t n locks none free no_cycle = still_none (waits_of locks) (waits_of (state (got t n locks.at) locks.pending)) grows no_cycle
  where
    by : (x y : TxnId) (r : RecordId) → locks.pending x ≡ Some r → IsGotAt (lock_of t n.asked) (locks.at r) (got t n locks.at r) → waits_on x y (got t n locks.at r) ≡ true
        → (waits_of locks x y ≡ true) ⊎ ((z : TxnId) → waits_of (state (got t n locks.at) locks.pending) y z ≡ false)
    by x y r p (inl e) h = inl (from locks x y r p (subst (λ (q : Queue). waits_on x y q ≡ true) e h))
    by x y r p (inr e) h = ⊎_elim
        (λ o. inl (from locks x y r p o))
        (λ o. inr (no_edge (state (got t n locks.at) locks.pending) y (ap locks.pending (same_is y t o) ∙ none)))
        (waits_taken x y (lock_of t n.asked) (locks.at r) (subst (λ (q : Queue). waits_on x y q ≡ true) e h))

    grows : GrowsFrom (waits_of locks) (waits_of (state (got t n locks.at) locks.pending))
    grows x y h = let k = parts (state (got t n locks.at) locks.pending) x y h in by x y k.at k.pending (got_is t n locks.at free k.at) k.on

pub all_got_free : (last : ℕ) (as_ : List Active) (ch : Changes) (cu : Cursors) (ws : List Wait) (locks : LockState) (t : TxnId) (ns : List Need) → IsSoundAt last as_ ch cu ws locks → is_active t as_ ≡ true → locks.pending t ≡ None
    → first_blocked t ns locks.at ≡ None → HasNoCycle (waits_of locks) → HasNoCycle (waits_of (state (all_got t ns locks.at) locks.pending))
all_got_free last as_ ch cu ws locks t [] s active none free no_cycle = no_cycle
all_got_free last as_ ch cu ws locks t (n ∷ ns) s active none free no_cycle = by (is_stopped t n locks.at) refl free (λ e f.
    all_got_free last as_ ch cu ws (state (got t n locks.at) locks.pending) t ns (sound_got last as_ ch cu ws locks t n s active none e) active none f (got_free t n locks none e no_cycle))
  where
    by : (b : Bool) → is_stopped t n locks.at ≡ b → cond b (Some n) (first_blocked t ns (got t n locks.at)) ≡ None
        → (is_stopped t n locks.at ≡ false → first_blocked t ns (got t n locks.at) ≡ None → HasNoCycle (waits_of (state (all_got t ns (got t n locks.at)) locks.pending)))
        → HasNoCycle (waits_of (state (all_got t (n ∷ ns) locks.at) locks.pending))
    by true e h more = absurd (cc (h))
    by false e h more = more e h

-- ---- locks given back

read_free : (t : TxnId) (locks : LockState) → AreQueues locks → HasNoCycle (waits_of locks) → HasNoCycle (waits_of (state (λ r. after_read t (locks.at r)) locks.pending))
read_free t locks q free = still_none (waits_of locks) (waits_of (state (λ r. after_read t (locks.at r)) locks.pending)) grows free
  where
    grows : GrowsFrom (waits_of locks) (waits_of (state (λ r. after_read t (locks.at r)) locks.pending))
    grows x y h =
        let k = parts (state (λ r. after_read t (locks.at r)) locks.pending) x y h in
        ⊎_elim
        (λ o. inl (from locks x y k.at k.pending o))
        (λ g. inr (granted_free locks (state (λ r. after_read t (locks.at r)) locks.pending) y k.at (q.alone y k.at g.0) (inr refl) g.1))
        (waits_read x y t (held_by t (locks.at k.at).0) (locks.at k.at) refl (q.settled k.at).owners.apart (q.settled k.at).apart k.on)

pub back_free : (level : Isolation) (t : TxnId) (locks : LockState) → AreQueues locks → HasNoCycle (waits_of locks) → HasNoCycle (waits_of (state (given_back level t locks.at) locks.pending))
back_free ReadUncommitted t locks q free = free
back_free ReadCommitted t locks q free = read_free t locks q free
back_free RepeatableRead t locks q free = free
back_free Serializable t locks q free = free

pub all_back_free : (l : List Active) (last : ℕ) (as_ : List Active) (ch : Changes) (cu : Cursors) (ws : List Wait) (locks : LockState) → IsSoundAt last as_ ch cu ws locks → HasNoCycle (waits_of locks)
    → HasNoCycle (waits_of (state (all_given_back l locks.at) locks.pending))
all_back_free [] last as_ ch cu ws locks sound free = free
all_back_free (a ∷ l) last as_ ch cu ws locks sound free =
    all_back_free l last as_ ch cu ws (state (given_back a.level a.txn locks.at) locks.pending) (sound_back last as_ ch cu ws locks a.level a.txn sound) (back_free a.level a.txn locks (queues_of locks sound.tables) free)

-- ---- a wait and its victims

put_other : (x : TxnId) (w : Lock) (ws : List Lock) → is_same_txn w.txn x ≡ false → find (is_of x) (ws ++ w ∷ []) ≡ find (is_of x) ws
put_other x w [] n = cond-false (is_of x w) (Some w) None (same_either x w.txn ∙ n)
put_other x w (v ∷ ws) n = ap (λ (o : Option Lock). cond (is_of x v) (Some v) o) (put_other x w ws n)

put_own : (w : Lock) (ws : List Lock) → has_lock w.txn ws ≡ false → find (is_of w.txn) (ws ++ w ∷ []) ≡ Some w
put_own w [] n = cond-true (is_of w.txn w) (Some w) None (same_itself w.txn)
put_own w (v ∷ ws) n = let k = or_parts (is_of w.txn v) (has_lock w.txn ws) n in cond-false (is_of w.txn v) (Some v) (find (is_of w.txn) (ws ++ w ∷ [])) k.0 ∙ put_own w ws k.1

module _ (t : TxnId) (n : Need) (gone : List TxnId) (locks : LockState) (stopped : is_stopped t n locks.at ≡ true) (nowhere : (r : RecordId) → has_lock t (locks.at r).1 ≡ false) where
  abbrev asks : Lock
  asks = lock_of t n.asked

  -- where the need is asked its wait is put down behind the others
  put_at : (r : RecordId) → is_record (record_of n) r ≡ true → got t n locks.at r ≡ ((locks.at r).0, (locks.at r).1 ++ asks ∷ [])
  put_at r e =
      cond-true (is_record (record_of n) r) (after_ask asks (locks.at r)) (locks.at r) e
      ∙ cond-true (is_blocked (locks.at r).0 asks) ((locks.at r).0, (locks.at r).1 ++ asks ∷ []) (with_lock asks (locks.at r).0, (locks.at r).1)
      (subst (λ (x : RecordId). is_blocked (locks.at x).0 asks ≡ true) (record_is (record_of n) r e) stopped)

  -- who waits afterwards waited before, or is the one that asked
  waits_then : (x y : TxnId) → waits_of (with_wait t n gone locks) x y ≡ true → (is_in x gone ≡ false) × (waits_in asks (record_of n) locks x y ≡ true)
  waits_then x y h = (m.0, by (is_same_txn t x) refl)
    where
      k : IsWaitAt x y (with_wait t n gone locks)
      k = parts (with_wait t n gone locks) x y h

      m : (is_in x gone ≡ false) × (waits_on x y (got t n locks.at k.at) ≡ true)
      m = waits_less x y gone (got t n locks.at k.at) k.on

      told : cond (is_same_txn t x) (Some (record_of n)) (locks.pending x) ≡ Some k.at
      told = (some_if (is_in x gone) (cond (is_same_txn t x) (Some (record_of n)) (locks.pending x)) k.at k.pending).1

      listed : List Lock → Option Lock → Bool
      listed os o = is_in y (option_map_or (λ w. map (λ (l : Lock). l.txn) (filter (is_blocking w) os)) o [])

      some_is : (p q : RecordId) → Some p ≡ Some q → p ≡ q
      some_is p q e = cc (e)

      by : (b : Bool) → is_same_txn t x ≡ b → waits_in asks (record_of n) locks x y ≡ true
      by true e =
          let r : record_of n ≡ k.at = some_is (record_of n) k.at (sym (cond-true (is_same_txn t x) (Some (record_of n)) (locks.pending x) e) ∙ told) in
          let on : waits_on x y ((locks.at (record_of n)).0, (locks.at (record_of n)).1 ++ asks ∷ []) ≡ true =
          subst (λ (q : Queue). waits_on x y q ≡ true) (put_at (record_of n) (itself (record_of n))) (subst (λ (p : RecordId). waits_on x y (got t n locks.at p) ≡ true) (sym r) m.1) in
          cond-true (is_same_txn t x) (is_in y (map (λ (o : Lock). o.txn) (filter (is_blocking asks) (locks.at (record_of n)).0))) (is_in y (waits_for_in locks x)) e
          ∙ (sym (ap (listed (locks.at (record_of n)).0) (ap (λ (u : TxnId). find (is_of u) ((locks.at (record_of n)).1 ++ asks ∷ [])) (sym (same_is t x e)) ∙ put_own asks (locks.at (record_of n)).1 (nowhere (record_of n)))) ∙ on)
        where
          itself : (r : RecordId) → is_record r r ≡ true
          itself r = record_same r
      by false e =
          let p : locks.pending x ≡ Some k.at = sym (cond-false (is_same_txn t x) (Some (record_of n)) (locks.pending x) e) ∙ told in
          cond-false (is_same_txn t x) (is_in y (map (λ (o : Lock). o.txn) (filter (is_blocking asks) (locks.at (record_of n)).0))) (is_in y (waits_for_in locks x)) e
          ∙ from locks x y k.at p (before (is_record (record_of n) k.at) refl)
        where
          before : (b : Bool) → is_record (record_of n) k.at ≡ b → waits_on x y (locks.at k.at) ≡ true
          before true f = sym (ap (listed (locks.at k.at).0) (put_other x asks (locks.at k.at).1 e)) ∙ subst (λ (q : Queue). waits_on x y q ≡ true) (put_at k.at f) m.1
          before false f = subst (λ (q : Queue). waits_on x y q ≡ true) (cond-false (is_record (record_of n) k.at) (after_ask asks (locks.at k.at)) (locks.at k.at) f) m.1

  pub wait_free : (vs : List (TxnId × List TxnId)) → ((u : TxnId) → is_in u (map (λ v. v.0) vs) ≡ is_in u gone) → AreVictims t (waits_in asks (record_of n) locks) vs → HasNoCycle (waits_of (with_wait t n gone locks))
  wait_free vs same victims = none_after t (waits_in asks (record_of n) locks) (waits_of (with_wait t n gone locks)) vs (λ x y h. (waits_then x y h).1) (λ x y h. same x ∙ (waits_then x y h).0) victims
