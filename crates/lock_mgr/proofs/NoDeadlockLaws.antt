-- What each call of the lock table keeps of the freedom from deadlock.
use Rattle.std.proofs.Common.{◌≡◌, Bool, true, false, cond, not, ◌&&◌, ◌||◌, List, [], ◌∷◌, ◌++◌, map, Some, None, Option, refl, ap, sym, ◌∙◌, subst, ◌⊎◌, inl, inr, ⊎_elim}
use Rattle.std.specs.Prelude.{Result, Ok, Err, OnOk, OnErr}
use Rattle.std.specs.List.{filter, find}
use Rattle.std.specs.Option.{option_map_or}
use Rattle.std.proofs.lemmas.Bool.{both_ways, cases_Bool, cond-true, cond-false, or_from, or_parts, or_cases, or_left, or_right, and_from, and_left, and_parts, false_from_ne_true, false≢true}
use Rattle.std.proofs.lemmas.List.Folds.{list_any-append}
use Rattle.je_order.specs.declared.txn_id.TxnId.{TxnId}
use Rattle.lock_mode.specs.declared.lock_type.LockType.{LockType}
use Rattle.waits_for.specs.Cycles.{is_in, closes_by}
use Rattle.lock_table.specs.declared.lock.Lock.{Lock}
use Rattle.lock_table.specs.declared.record_id.RecordId.{RecordId}
use Rattle.lock_table.specs.Locks.{is_of, has_lock, held_by, is_blocking, is_blocked, waited_for, without_txn, with_lock, after_ask, after_cancel, after_read, after_release, after_give_back, WasHeld}
use Rattle.je_order.specs.Transactions.{is_same_txn}
use Rattle.lock_table.specs.Records.{is_record}
use Rattle.lock_table.specs.Table.{Locks, locks_at, pending_at, is_waiting, was_granted, waits_for, IsLockTable, IsSameTable}
use Rattle.je_order.proofs.TxnIds.{same_is, same_either, same_itself}
use Rattle.lock_table.proofs.QueueMaps.{record_is}
use Rattle.lock_table.proofs.RecordCalls.{cancel_nothing}
use Rattle.lock_table.proofs.WholeTable.{cancel_asked}
use Rattle.lock_table.proofs.CallSteps.{record_same}
use Rattle.lock_mgr.specs.declared.requested.Requested.{Requested}
use Rattle.lock_mgr.specs.declared.requested.Requested.TheVariants.{Granted, Waiting, NotAvailable, Victims}
use Rattle.lock_mgr.specs.Deadlock.{waits, waits_with, HasNoCycle, NoDeadlock, AreVictims, owner_of, SaysWas, others, without_waits}
use Rattle.lock_mgr.proofs.CycleLaws.{GrowsFrom, still_none, within_none, within_cycle, none_after, on_cycle, apart_cycle, victim_waits}
use Rattle.lock_mgr.proofs.WaitsForLaws.{Queue, waits_on, wait_parts, found_without, none_without, waits_cancel, waits_release, waits_give_back, waits_read, waits_taken, waits_parts, waits_from, waits_has, waits_not, waits_none}

pub some_if : {X : Type 0} (n o : Option X) (b : Bool) (r : X) → n ≡ cond b None o → n ≡ Some r → (b ≡ false) × (o ≡ Some r)
some_if n o true r e h = absurd (cc (e, h))
some_if n o false r e h = (refl, sym e ∙ h)

pub free_cancel : (v w : Locks) (t : TxnId) → NoDeadlock v → IsLockTable w → ((r : RecordId) → locks_at r w ≡ after_cancel t (locks_at r v)) → ((x : TxnId) → pending_at x w ≡ cond (is_same_txn t x && is_waiting t v) None (pending_at x v)) → NoDeadlock w
free_cancel v w t n s l p = record {
  sound = s;
  free = within_none (waits v) (waits w) (λ x y h.
      let k = waits_parts w x y h in
      waits_from v x y k.at (some_if _ (pending_at x v) _ k.at (p x) k.pending).1 (waits_cancel x y t (locks_at k.at v) (subst (λ (q : Queue). waits_on x y q ≡ true) (l k.at) k.on))) n.free;
}

pub free_release : (v w : Locks) (t : TxnId) → NoDeadlock v → IsLockTable w → ((r : RecordId) → locks_at r w ≡ after_release t (locks_at r v)) → ((x : TxnId) → pending_at x w ≡ cond (is_same_txn t x) None (pending_at x v)) → NoDeadlock w
free_release v w t n s l p = record { sound = s; free = still_none (waits v) (waits w) grows n.free }
  where
    grows : GrowsFrom (waits v) (waits w)
    grows x y h =
        let k = waits_parts w x y h in
        ⊎_elim
        (λ o. inl (waits_from v x y k.at (some_if _ (pending_at x v) _ k.at (p x) k.pending).1 o))
        (λ g. let e = n.sound.alone y k.at g.0 in let gone : has_lock y (locks_at k.at w).1 ≡ false = ap (λ (q : Queue). has_lock y q.1) (l k.at) ∙ g.1 in
        inr (⊎_elim (λ b. waits_none w y (p y ∙ cond-true (is_same_txn t y) None (pending_at y v) b)) (λ b. waits_not w y k.at (p y ∙ (cond-false (is_same_txn t y) None (pending_at y v) b ∙ e)) gone) (cases_Bool (is_same_txn t y))))
        (waits_release x y t (locks_at k.at v) (n.sound.settled k.at).apart (subst (λ (q : Queue). waits_on x y q ≡ true) (l k.at) k.on))

pub free_give_back : (v w : Locks) (t : TxnId) (at : RecordId) (was : Option LockType) (h : LockType) → NoDeadlock v → IsLockTable w → held_by t (locks_at at v).0 ≡ Some h → WasHeld was h
    → ((r : RecordId) → locks_at r w ≡ cond (is_record at r) (after_give_back t was (locks_at r v)) (locks_at r v)) → ((x : TxnId) → pending_at x w ≡ pending_at x v) → NoDeadlock w
free_give_back v w t at was h n s held wh l p = record { sound = s; free = still_none (waits v) (waits w) grows n.free }
  where
    grows : GrowsFrom (waits v) (waits w)
    grows x y k0 =
        let k = waits_parts w x y k0 in
        ⊎_elim
        (λ b. let d = record_is at k.at b in let q = l k.at ∙ cond-true (is_record at k.at) (after_give_back t was (locks_at k.at v)) (locks_at k.at v) b in
        ⊎_elim
        (λ o. inl (waits_from v x y k.at (sym (p x) ∙ k.pending) o))
        (λ g. inr (waits_not w y k.at (p y ∙ n.sound.alone y k.at g.0) (ap (λ (u : Queue). has_lock y u.1) q ∙ g.1)))
        (waits_give_back x y t was h (locks_at k.at v) (n.sound.settled k.at).owners.apart (n.sound.settled k.at).apart (subst (λ (r : RecordId). held_by t (locks_at r v).0 ≡ Some h) d held) wh (subst (λ (u : Queue). waits_on x y u ≡ true) q k.on)))
        (λ b. let q = l k.at ∙ cond-false (is_record at k.at) (after_give_back t was (locks_at k.at v)) (locks_at k.at v) b in
        inl (waits_from v x y k.at (sym (p x) ∙ k.pending) (subst (λ (u : Queue). waits_on x y u ≡ true) q k.on)))
        (cases_Bool (is_record at k.at))

-- locks of no more than READ go
pub free_read : (v w : Locks) (t : TxnId) → NoDeadlock v → IsLockTable w → ((r : RecordId) → locks_at r w ≡ after_read t (locks_at r v)) → ((x : TxnId) → pending_at x w ≡ pending_at x v) → NoDeadlock w
free_read v w t n s l p = record { sound = s; free = still_none (waits v) (waits w) grows n.free }
  where
    grows : GrowsFrom (waits v) (waits w)
    grows x y h =
        let k = waits_parts w x y h in
        ⊎_elim
        (λ o. inl (waits_from v x y k.at (sym (p x) ∙ k.pending) o))
        (λ g. inr (waits_not w y k.at (p y ∙ n.sound.alone y k.at g.0) (ap (λ (u : Queue). has_lock y u.1) (l k.at) ∙ g.1)))
        (waits_read x y t (held_by t (locks_at k.at v).0) (locks_at k.at v) refl (n.sound.settled k.at).owners.apart (n.sound.settled k.at).apart (subst (λ (u : Queue). waits_on x y u ≡ true) (l k.at) k.on))

-- where a transaction was told to wait is forgotten
pub free_forget : (v w : Locks) (t : TxnId) → NoDeadlock v → IsLockTable w → ((r : RecordId) → locks_at r w ≡ locks_at r v) → ((x : TxnId) → pending_at x w ≡ cond (is_same_txn t x && was_granted t v) None (pending_at x v)) → NoDeadlock w
free_forget v w t n s l p = record {
  sound = s;
  free = within_none (waits v) (waits w) (λ x y h.
      let k = waits_parts w x y h in
      waits_from v x y k.at (some_if _ (pending_at x v) _ k.at (p x) k.pending).1 (subst (λ (q : Queue). waits_on x y q ≡ true) (l k.at) k.on)) n.free;
}

pub free_granted : (v w : Locks) (at : RecordId) (a : Lock) → NoDeadlock v → IsLockTable w → is_blocked (locks_at at v).0 a ≡ false
    → ((r : RecordId) → locks_at r w ≡ cond (is_record at r) (after_ask a (locks_at r v)) (locks_at r v)) → ((x : TxnId) → pending_at x w ≡ cond (is_same_txn a.txn x) None (pending_at x v)) → NoDeadlock w
free_granted v w at a n s nb l p = record { sound = s; free = still_none (waits v) (waits w) grows n.free }
  where
    grows : GrowsFrom (waits v) (waits w)
    grows x y h =
        let k = waits_parts w x y h in let o = (some_if _ (pending_at x v) _ k.at (p x) k.pending).1 in
        ⊎_elim
        (λ b. let d = record_is at k.at b in
        let f : is_blocked (locks_at k.at v).0 a ≡ false = subst (λ (r : RecordId). is_blocked (locks_at r v).0 a ≡ false) d nb in
        let q = l k.at ∙ (cond-true (is_record at k.at) (after_ask a (locks_at k.at v)) (locks_at k.at v) b ∙ cond-false (is_blocked (locks_at k.at v).0 a) ((locks_at k.at v).0, (locks_at k.at v).1 ++ (a ∷ [])) (with_lock a (locks_at k.at v).0, (locks_at k.at v).1) f) in
        ⊎_elim (λ i. inl (waits_from v x y k.at o i)) (λ i. inr (waits_none w y (p y ∙ cond-true (is_same_txn a.txn y) None (pending_at y v) (same_either a.txn y ∙ i)))) (waits_taken x y a (locks_at k.at v) (subst (λ (u : Queue). waits_on x y u ≡ true) q k.on)))
        (λ b. inl (waits_from v x y k.at o (subst (λ (u : Queue). waits_on x y u ≡ true) (l k.at ∙ cond-false (is_record at k.at) (after_ask a (locks_at k.at v)) (locks_at k.at v) b) k.on)))
        (cases_Bool (is_record at k.at))

-- with no locks nobody waits
pub free_new : (v : Locks) → IsLockTable v → ((x : TxnId) → pending_at x v ≡ None) → NoDeadlock v
free_new v s p = record { sound = s; free = within_none (λ x y. false) (waits v) (λ x y h. absurd (both_ways (waits v x y) (waits_none v x (p x) y) h)) nothing }
  where
    nothing : HasNoCycle (λ x y. false)
    nothing [] = refl
    nothing (x ∷ []) = refl
    nothing (x ∷ (y ∷ ys)) = refl

-- ---- a request that waits
pub waits_less : (x y : TxnId) (us : List TxnId) (q : Queue) → waits_on x y (without_waits us q) ≡ true → (is_in x us ≡ false) × (waits_on x y q ≡ true)
waits_less x y [] q h = (refl, h)
waits_less x y (u ∷ us) q h =
    let k = waits_less x y us (after_cancel u q) h in let p = wait_parts x y (after_cancel u q) k.1 in
    (or_from (is_same_txn x u) (is_in x us) (same_either x u ∙ (found_without x u q.1 p.0 p.1).0) k.0, waits_cancel x y u q k.1)

-- victims are gone
pub free_victims : (t : TxnId) (v w : Locks) (vs : List (TxnId × List TxnId)) → IsLockTable w → ((r : RecordId) → locks_at r w ≡ without_waits (map (λ u. u.0) vs) (locks_at r v)) → ((t : TxnId) (r : RecordId) → pending_at t w ≡ Some r → pending_at t v ≡ Some r) → AreVictims t (waits v) vs → NoDeadlock w
free_victims t v w vs s l p a = record { sound = s; free = none_after t (waits v) (waits w) vs (λ x y h. (less x y h).1) (λ x y h. (less x y h).0) a }
  where
    less : (x y : TxnId) → waits w x y ≡ true → (is_in x (map (λ u. u.0) vs) ≡ false) × (waits v x y ≡ true)
    less x y h =
        let k = waits_parts w x y h in let m = waits_less x y (map (λ u. u.0) vs) (locks_at k.at v) (subst (λ (q : Queue). waits_on x y q ≡ true) (l k.at) k.on) in
        (m.0, waits_from v x y k.at (p x k.at k.pending) m.1)

-- the wait that might close cycles is taken back
pub free_taken : (v w : Locks) (t : TxnId) → IsLockTable w → ((list : List TxnId) → closes_by (waits v) list ≡ true → is_in t list ≡ true) → ((r : RecordId) → locks_at r w ≡ after_cancel t (locks_at r v)) → ((x : TxnId) → pending_at x w ≡ cond (is_same_txn t x && is_waiting t v) None (pending_at x v)) → NoDeadlock w
free_taken v w t s th l p = record { sound = s; free = none }
  where
    within : (x y : TxnId) → waits w x y ≡ true → waits v x y ≡ true
    within x y h = let k = waits_parts w x y h in waits_from v x y k.at (some_if _ (pending_at x v) _ k.at (p x) k.pending).1 (waits_cancel x y t (locks_at k.at v) (subst (λ (q : Queue). waits_on x y q ≡ true) (l k.at) k.on))

    gone : (z : TxnId) → waits w t z ≡ false
    gone z = false_from_ne_true (waits w t z) (λ h. let k = waits_parts w t z h in
        both_ways (has_lock t (locks_at k.at w).1) (ap (λ (q : Queue). has_lock t q.1) (l k.at) ∙ none_without t (locks_at k.at v).1) (waits_has w t z k.at k.pending h))

    none : HasNoCycle (waits w)
    none [] = refl
    none (x ∷ xs) = false_from_ne_true (closes_by (waits w) (x ∷ xs)) (λ h.
        let m = th (x ∷ xs) (within_cycle (waits v) (waits w) within (x ∷ xs) h) in let z = on_cycle (waits w) t x x xs h m in both_ways (waits w t z.0) (gone z.0) z.1)

pub free_same : (v w : Locks) → NoDeadlock v → IsLockTable w → IsSameTable v w → NoDeadlock w
free_same v w n s e = record { sound = s; free = within_none (waits v) (waits w) (λ x y h. let k = waits_parts w x y h in waits_from v x y k.at (sym (e.pending x) ∙ k.pending) (subst (λ (q : Queue). waits_on x y q ≡ true) (e.locks k.at) k.on)) n.free }

-- no wait stands
pub no_wait : (v : Locks) (t : TxnId) → IsLockTable v → is_waiting t v ≡ false → (r : RecordId) → has_lock t (locks_at r v).1 ≡ false
no_wait v t s n r = false_from_ne_true (has_lock t (locks_at r v).1) (λ h. both_ways (is_waiting t v) n (ap (λ o. option_map_or (λ r. has_lock t (locks_at r v).1) o false) (s.alone t r h) ∙ h))

put_other : (x : TxnId) (w : Lock) (ws : List Lock) → is_same_txn w.txn x ≡ false → find (is_of x) (ws ++ (w ∷ [])) ≡ find (is_of x) ws
put_other x w [] n = cond-false (is_of x w) (Some w) None (same_either x w.txn ∙ n)
put_other x w (v ∷ ws) n = ap (λ o. cond (is_of x v) (Some v) o) (put_other x w ws n)

put_own : (w : Lock) (ws : List Lock) → has_lock w.txn ws ≡ false → find (is_of w.txn) (ws ++ (w ∷ [])) ≡ Some w
put_own w [] n = cond-true (is_of w.txn w) (Some w) None (same_itself w.txn)
put_own w (v ∷ ws) n = let k = or_parts (is_of w.txn v) (has_lock w.txn ws) n in cond-false (is_of w.txn v) (Some v) (find (is_of w.txn) (ws ++ (w ∷ []))) k.0 ∙ put_own w ws k.1

-- a request was put down as a wait
pub record IsPut (v w : Locks) (at : RecordId) (a : Lock) : Type 0 where
  pub blocked : is_blocked (locks_at at v).0 a ≡ true
  pub none : (r : RecordId) → has_lock a.txn (locks_at r v).1 ≡ false
  pub locks : (r : RecordId) → locks_at r w ≡ cond (is_record at r) (after_ask a (locks_at r v)) (locks_at r v)
  pub pending : (x : TxnId) → pending_at x w ≡ cond (is_same_txn a.txn x) (Some at) (pending_at x v)

put_here : (v w : Locks) (at : RecordId) (a : Lock) → IsPut v w at a → (r : RecordId) → is_record at r ≡ true → locks_at r w ≡ ((locks_at r v).0, (locks_at r v).1 ++ (a ∷ []))
put_here v w at a p r h = p.locks r ∙ (cond-true (is_record at r) (after_ask a (locks_at r v)) (locks_at r v) h ∙ cond-true (is_blocked (locks_at r v).0 a) ((locks_at r v).0, (locks_at r v).1 ++ (a ∷ [])) (with_lock a (locks_at r v).0, (locks_at r v).1) (subst (λ (x : RecordId). is_blocked (locks_at x v).0 a ≡ true) (record_is at r h) p.blocked))

same_map : (f g : RecordId → List TxnId) → ((r : RecordId) → f r ≡ g r) → (o : Option RecordId) → option_map_or f o [] ≡ option_map_or g o []
same_map f g h None = refl
same_map f g h (Some r) = h r

put_others : (v w : Locks) (at : RecordId) (a : Lock) → IsPut v w at a → (x : TxnId) → is_same_txn a.txn x ≡ false → waits_for x w ≡ waits_for x v
put_others v w at a p x n = ap (λ o. option_map_or (λ r. waited_for x (locks_at r w)) o []) (p.pending x ∙ cond-false (is_same_txn a.txn x) (Some at) (pending_at x v) n) ∙ same_map (λ r. waited_for x (locks_at r w)) (λ r. waited_for x (locks_at r v)) each (pending_at x v)
  where
    each : (r : RecordId) → waited_for x (locks_at r w) ≡ waited_for x (locks_at r v)
    each r = ⊎_elim
        (λ h. ap (waited_for x) (put_here v w at a p r h) ∙ ap (λ o. option_map_or (λ (l : Lock). map (λ (k : Lock). k.txn) (filter (is_blocking l) (locks_at r v).0)) o []) (put_other x a (locks_at r v).1 n))
        (λ h. ap (waited_for x) (p.locks r ∙ cond-false (is_record at r) (after_ask a (locks_at r v)) (locks_at r v) h))
        (cases_Bool (is_record at r))

pub put_waits : (v w : Locks) (at : RecordId) (a : Lock) → IsPut v w at a → (x y : TxnId) → waits w x y ≡ waits_with a at v x y
put_waits v w at a p x y = ⊎_elim
    (λ h. subst (λ (u : TxnId). waits w u y ≡ waits_with a at v u y) (same_is a.txn x h) own)
    (λ h. ap (is_in y) (put_others v w at a p x h) ∙ sym (cond-false (is_same_txn a.txn x) (is_in y (map (λ (o : Lock). o.txn) (filter (is_blocking a) (locks_at at v).0))) (waits v x y) h))
    (cases_Bool (is_same_txn a.txn x))
  where
    list : waits_for a.txn w ≡ map (λ (o : Lock). o.txn) (filter (is_blocking a) (locks_at at v).0)
    list = ap (λ o. option_map_or (λ r. waited_for a.txn (locks_at r w)) o []) (p.pending a.txn ∙ cond-true (is_same_txn a.txn a.txn) (Some at) (pending_at a.txn v) (same_itself a.txn))
        ∙ (ap (waited_for a.txn) (put_here v w at a p at (record_same at)) ∙ ap (λ o. option_map_or (λ (l : Lock). map (λ (k : Lock). k.txn) (filter (is_blocking l) (locks_at at v).0)) o []) (put_own a (locks_at at v).1 (p.none at)))

    own : waits w a.txn y ≡ waits_with a at v a.txn y
    own = ap (is_in y) list ∙ sym (cond-true (is_same_txn a.txn a.txn) (is_in y (map (λ (o : Lock). o.txn) (filter (is_blocking a) (locks_at at v).0))) (waits v a.txn y) (same_itself a.txn))

-- each cycle that there is goes through the one that asked
pub put_through : (v w : Locks) (at : RecordId) (a : Lock) → NoDeadlock v → IsPut v w at a → (list : List TxnId) → closes_by (waits w) list ≡ true → is_in a.txn list ≡ true
put_through v w at a n p list h = apart_cycle (waits v) (waits w) a.txn (λ x y e k. sym (ap (is_in y) (put_others v w at a p x e)) ∙ k) n.free list h

-- a wait that was put down is taken back
pub put_undone : (v w : Locks) (at : RecordId) (a : Lock) → IsPut v w at a → (r : RecordId) → after_cancel a.txn (locks_at r w) ≡ locks_at r v
put_undone v w at a p r = ⊎_elim
    (λ h. ap (after_cancel a.txn) (p.locks r ∙ cond-true (is_record at r) (after_ask a (locks_at r v)) (locks_at r v) h) ∙ cancel_asked a (locks_at r v) (p.none r) (subst (λ (x : RecordId). is_blocked (locks_at x v).0 a ≡ true) (record_is at r h) p.blocked))
    (λ h. ap (after_cancel a.txn) (p.locks r ∙ cond-false (is_record at r) (after_ask a (locks_at r v)) (locks_at r v) h) ∙ cancel_nothing a.txn (locks_at r v) (p.none r))
    (cases_Bool (is_record at r))

-- and its transaction is told to wait where it was before
pub put_back : (v w u : Locks) (at : RecordId) (a : Lock) (place : Option RecordId) → IsPut v w at a → place ≡ pending_at a.txn v → ((r : RecordId) → locks_at r u ≡ after_cancel a.txn (locks_at r w))
    → ((x : TxnId) → pending_at x u ≡ cond (is_same_txn a.txn x) place (pending_at x w)) → IsSameTable v u
put_back v w u at a place p is l n = record {
  locks = λ r. l r ∙ put_undone v w at a p r;
  pending = λ x. n x ∙ ⊎_elim
      (λ h. cond-true (is_same_txn a.txn x) place (pending_at x w) h ∙ (is ∙ ap (λ (t : TxnId). pending_at t v) (same_is a.txn x h)))
      (λ h. cond-false (is_same_txn a.txn x) place (pending_at x w) h ∙ (p.pending x ∙ cond-false (is_same_txn a.txn x) (Some at) (pending_at x v) h))
      (cases_Bool (is_same_txn a.txn x));
}

-- what holds of a request that was answered, and of one that changed nothing
pub if_either : {T E P Q : Type 0} (r : Result T E) → (Q → P) → OnOk r P → OnErr r Q → P
if_either (Ok x) f p q = p
if_either (Err e) f p q = f q

pub if_both : {T E P Q S : Type 0} (r : Result T E) → (P → Q → S) → OnErr r P → OnErr r Q → OnErr r S
if_both (Ok x) f p q = tt
if_both (Err e) f p q = f p q

-- ---- a victim has no wait left, nor one that was granted
abbrev pub IsGoing : TxnId → List TxnId → Locks → Type 0
IsGoing t us v = ((is_in t us ≡ true) × (is_waiting t v ≡ true)) ⊎ (pending_at t v ≡ None)

has_without : (t u : TxnId) (ws : List Lock) → is_same_txn u t ≡ false → has_lock t (without_txn u ws) ≡ has_lock t ws
has_without t u [] n = refl
has_without t u (w ∷ ws) n = ⊎_elim
    (λ h. ap (has_lock t) (cond-false (not (is_of u w)) (w ∷ without_txn u ws) (without_txn u ws) (ap not h)) ∙ (has_without t u ws n ∙ sym (ap (λ b. b || has_lock t ws) (subst (λ (x : TxnId). is_same_txn t x ≡ false) (same_is u w.txn h) (same_either t u ∙ n)))))
    (λ h. ap (has_lock t) (cond-true (not (is_of u w)) (w ∷ without_txn u ws) (without_txn u ws) (ap not h)) ∙ ap (λ b. is_of t w || b) (has_without t u ws n))
    (cases_Bool (is_of u w))

same_test : (f g : RecordId → Bool) → ((r : RecordId) → f r ≡ g r) → (o : Option RecordId) → option_map_or f o false ≡ option_map_or g o false
same_test f g h None = refl
same_test f g h (Some r) = h r

pub going_step : (t u : TxnId) (us : List TxnId) (v w : Locks) → ((r : RecordId) → locks_at r w ≡ after_cancel u (locks_at r v)) → ((x : TxnId) → pending_at x w ≡ cond (is_same_txn u x && is_waiting u v) None (pending_at x v)) → IsGoing t (u ∷ us) v → IsGoing t us w
going_step t u us v w l p g = ⊎_elim
    (λ m. ⊎_elim
    (λ h. let e = same_is u t h in inr (p t ∙ cond-true (is_same_txn u t && is_waiting u v) None (pending_at t v) (and_from (is_same_txn u t) (is_waiting u v) h (subst (λ (x : TxnId). is_waiting x v ≡ true) (sym e) m.1))))
    (λ h. let q = p t ∙ cond-false (is_same_txn u t && is_waiting u v) None (pending_at t v) (and_left (is_same_txn u t) (is_waiting u v) h) in
    let i : is_in t us ≡ true = ⊎_elim (λ k. absurd (both_ways (is_same_txn t u) (same_either t u ∙ h) k)) (λ k. k) (or_cases (is_same_txn t u) (is_in t us) m.0) in
    let d : is_waiting t w ≡ is_waiting t v = ap (λ o. option_map_or (λ r. has_lock t (locks_at r w).1) o false) q ∙ same_test (λ r. has_lock t (locks_at r w).1) (λ r. has_lock t (locks_at r v).1) (λ r. ap (λ (k : Queue). has_lock t k.1) (l r) ∙ has_without t u (locks_at r v).1 h) (pending_at t v) in
    inl (i, d ∙ m.1))
    (cases_Bool (is_same_txn u t)))
    (λ n. inr (p t ∙ stays (is_same_txn u t && is_waiting u v) (pending_at t v) n))
    g
  where
    stays : (b : Bool) (o : Option RecordId) → o ≡ None → cond b None o ≡ None
    stays true o n = refl
    stays false o n = n

pub gone_at_last : (t : TxnId) (v : Locks) → IsGoing t [] v → pending_at t v ≡ None
gone_at_last t v g = ⊎_elim (λ m. absurd (false≢true m.0)) (λ n. n) g

-- who waits for somebody has a wait that stands
pub stands : (v : Locks) (x y : TxnId) → waits v x y ≡ true → is_waiting x v ≡ true
stands v x y h = let k = waits_parts v x y h in ap (λ o. option_map_or (λ r. has_lock x (locks_at r v).1) o false) k.pending ∙ waits_has v x y k.at k.pending h

-- each victim waits
pub victims_stand : (from : TxnId) (v : Locks) (R : TxnId → TxnId → Bool) → ((x y : TxnId) → R x y ≡ true → waits v x y ≡ true) → (vs : List (TxnId × List TxnId)) → AreVictims from R vs → (t : TxnId) → is_in t (map (λ u. u.0) vs) ≡ true → is_waiting t v ≡ true
victims_stand from v R w [] a t m = absurd (false≢true m)
victims_stand from v R w (u ∷ us) a t m = ⊎_elim
    (λ h. let z = victim_waits R u.0 u.1 a.0.cycle a.1 in subst (λ (x : TxnId). is_waiting x v ≡ true) (sym (same_is t u.0 h)) (stands v u.0 z.0 (w u.0 z.0 z.1)))
    (λ h. victims_stand from v (others u.0 R) (λ x y e. w x y (and_parts (not (is_same_txn u.0 x)) (R x y) e).1) us a.2 t h)
    (or_cases (is_same_txn t u.0) (is_in t (map (λ k. k.0) us)) m)

pub put_stands : (v w : Locks) (at : RecordId) (a : Lock) → IsPut v w at a → is_waiting a.txn w ≡ true
put_stands v w at a p = ap (λ o. option_map_or (λ r. has_lock a.txn (locks_at r w).1) o false) (p.pending a.txn ∙ cond-true (is_same_txn a.txn a.txn) (Some at) (pending_at a.txn v) (same_itself a.txn))
    ∙ (ap (λ (q : Queue). has_lock a.txn q.1) (put_here v w at a p at (record_same at)) ∙ (list_any-append (is_of a.txn) (locks_at at v).1 (a ∷ []) ∙ or_right (has_lock a.txn (locks_at at v).1) (has_lock a.txn (a ∷ [])) (or_left (is_of a.txn a) false (same_itself a.txn))))

-- an answer that names an owner does not grant
pub not_granted : (q : Requested) (owner : TxnId) (held : Option LockType) → owner_of q ≡ Some owner → SaysWas q held
not_granted (Granted was) owner held e = absurd (cc (e))
not_granted (Waiting other) owner held e = tt
not_granted (NotAvailable other) owner held e = tt
not_granted (Victims other victims) owner held e = tt
