-- What each call keeps of the whole table.
use Rattle.std.proofs.Common.{◌≡◌, Bool, true, false, cond, not, ◌&&◌, List, [], ◌∷◌, ◌++◌, Some, None, Option, ap, sym, ◌∙◌, subst, ◌⊎◌, ⊎_elim}
use Rattle.std.proofs.lemmas.Bool.{cases_Bool, or_parts, both_ways, cond-true, cond-false, and_parts}
use Rattle.je_order.specs.declared.txn_id.TxnId.{TxnId}
use Rattle.lock_mode.specs.declared.lock_type.LockType.{LockType}
use Rattle.lock_table.specs.declared.lock.Lock.{Lock}
use Rattle.lock_table.specs.declared.record_id.RecordId.{RecordId}
use Rattle.lock_table.specs.Locks.{is_of, has_lock, without_txn, held_by, is_blocked, with_lock, after_ask, after_cancel, after_read, after_release, after_give_back, WasHeld, IsSettled}
use Rattle.je_order.specs.Transactions.{is_same_txn}
use Rattle.lock_table.specs.Records.{is_record}
use Rattle.lock_table.specs.Table.{IsOut, IsSound}
use Rattle.je_order.proofs.TxnIds.{same_is, same_itself, same_either}
use Rattle.std.specs.Option.{option_map_or}
use Rattle.lock_table.proofs.QueueMaps.{record_is}
use Rattle.lock_table.proofs.QueueReads.{settled_read, out_read, waits_read}
use Rattle.lock_table.proofs.RecordCalls.{settled_ask, settled_cancel, settled_release, settled_give_back, out_ask, out_cancel, out_release, out_released, out_give_back, waits_ask, waits_cancel, waits_release, waits_give_back, none_of}

abbrev pub Queue : Type 0
Queue = List Lock × List Lock

pub sound_ask : (Q Q2 : RecordId → Queue) (L L2 : TxnId → RecordId → Bool) (P P2 : TxnId → Option RecordId) (at : RecordId) (w : Lock)
    → IsSound Q L P → ((r : RecordId) → has_lock w.txn (Q r).1 ≡ false)
    → ((r : RecordId) → Q2 r ≡ cond (is_record at r) (after_ask w (Q r)) (Q r))
    → ((t : TxnId) (r : RecordId) → L2 t r ≡ false → L t r ≡ false) → (L2 w.txn at ≡ false → IsOut w.txn (Q at) → IsOut w.txn (Q2 at))
    → (is_blocked (Q at).0 w ≡ true → P2 w.txn ≡ Some at) → ((t : TxnId) → is_same_txn w.txn t ≡ false → P2 t ≡ P t)
    → IsSound Q2 L2 P2
sound_ask Q Q2 L L2 P P2 at w s free q l l2 p1 p2 = record { settled = settled; waits = waits; listed = listed }
  where
    here : (r : RecordId) → is_record at r ≡ true → Q2 r ≡ after_ask w (Q r)
    here r h = q r ∙ cond-true (is_record at r) (after_ask w (Q r)) (Q r) h

    there : (r : RecordId) → is_record at r ≡ false → Q2 r ≡ Q r
    there r h = q r ∙ cond-false (is_record at r) (after_ask w (Q r)) (Q r) h

    settled : (r : RecordId) → IsSettled (Q2 r)
    settled r = ⊎_elim (λ h. subst IsSettled (sym (here r h)) (settled_ask w (Q r) (s.settled r) (free r))) (λ h. subst IsSettled (sym (there r h)) (s.settled r)) (cases_Bool (is_record at r))

    other : (t : TxnId) (r : RecordId) → has_lock t (Q r).1 ≡ true → P2 t ≡ Some r
    other t r h = ⊎_elim (λ e. absurd (both_ways (has_lock w.txn (Q r).1) (free r) (subst (λ (u : TxnId). has_lock u (Q r).1 ≡ true) (sym (same_is w.txn t e)) h))) (λ e. p2 t e ∙ s.waits t r h) (cases_Bool (is_same_txn w.txn t))

    own : (r : RecordId) → is_record at r ≡ true → has_lock w.txn (after_ask w (Q r)).1 ≡ true → P2 w.txn ≡ Some r
    own r h k = let e = record_is at r h in ⊎_elim
        (λ b. p1 (subst (λ (x : RecordId). is_blocked (Q x).0 w ≡ true) (sym e) b) ∙ ap Some e)
        (λ b. absurd (both_ways (has_lock w.txn (Q r).1) (free r) (sym (ap (λ (p : Queue). has_lock w.txn p.1) (cond-false (is_blocked (Q r).0 w) ((Q r).0, (Q r).1 ++ (w ∷ [])) (with_lock w (Q r).0, (Q r).1) b)) ∙ k)))
        (cases_Bool (is_blocked (Q r).0 w))

    waits : (t : TxnId) (r : RecordId) → has_lock t (Q2 r).1 ≡ true → P2 t ≡ Some r
    waits t r h = ⊎_elim
        (λ i. let k = subst (λ (p : Queue). has_lock t p.1 ≡ true) (here r i) h in ⊎_elim
        (λ e. let u = same_is t w.txn e in subst (λ (x : TxnId). P2 x ≡ Some r) (sym u) (own r i (subst (λ (x : TxnId). has_lock x (after_ask w (Q r)).1 ≡ true) u k)))
        (λ e. other t r (waits_ask t w (Q r) k e))
        (cases_Bool (is_same_txn t w.txn)))
        (λ i. other t r (subst (λ (p : Queue). has_lock t p.1 ≡ true) (there r i) h))
        (cases_Bool (is_record at r))

    listed : (t : TxnId) (r : RecordId) → L2 t r ≡ false → IsOut t (Q2 r)
    listed t r h = let o = s.listed t r (l t r h) in ⊎_elim
        (λ i. ⊎_elim
        (λ e. subst (λ (y : RecordId). L2 t y ≡ false → IsOut t (Q y) → IsOut t (Q2 y)) (record_is at r i) (subst (λ (x : TxnId). L2 x at ≡ false → IsOut x (Q at) → IsOut x (Q2 at)) (same_is w.txn t e) l2) h o)
        (λ n. subst (IsOut t) (sym (here r i)) (out_ask t w (Q r) o (same_either t w.txn ∙ n)))
        (cases_Bool (is_same_txn w.txn t)))
        (λ i. subst (IsOut t) (sym (there r i)) o)
        (cases_Bool (is_record at r))

pub sound_cancel : (Q Q2 : RecordId → Queue) (L : TxnId → RecordId → Bool) (P P2 : TxnId → Option RecordId) (u : TxnId)
    → IsSound Q L P → ((r : RecordId) → Q2 r ≡ after_cancel u (Q r)) → ((t : TxnId) → is_same_txn u t ≡ false → P2 t ≡ P t) → IsSound Q2 L P2
sound_cancel Q Q2 L P P2 u s q p = record {
  settled = λ r. subst IsSettled (sym (q r)) (settled_cancel u (Q r) (s.settled r));
  waits = λ t r h. let k = subst (λ (x : Queue). has_lock t x.1 ≡ true) (q r) h in ⊎_elim
      (λ e. absurd (both_ways (has_lock u (without_txn u (Q r).1)) (none_of u (Q r).1) (subst (λ (x : TxnId). has_lock x (without_txn u (Q r).1) ≡ true) (sym (same_is u t e)) k)))
      (λ e. p t e ∙ s.waits t r (waits_cancel t u (Q r) k))
      (cases_Bool (is_same_txn u t));
  listed = λ t r h. subst (IsOut t) (sym (q r)) (out_cancel t u (Q r) (s.listed t r h));
}

pub sound_release : (Q Q2 : RecordId → Queue) (L L2 : TxnId → RecordId → Bool) (P P2 : TxnId → Option RecordId) (u : TxnId)
    → IsSound Q L P → ((r : RecordId) → Q2 r ≡ after_release u (Q r))
    → ((t : TxnId) (r : RecordId) → is_same_txn u t ≡ false → L2 t r ≡ L t r) → ((t : TxnId) → is_same_txn u t ≡ false → P2 t ≡ P t) → IsSound Q2 L2 P2
sound_release Q Q2 L L2 P P2 u s q l p = record {
  settled = λ r. subst IsSettled (sym (q r)) (settled_release u (Q r) (s.settled r));
  waits = λ t r h. let k = subst (λ (x : Queue). has_lock t x.1 ≡ true) (q r) h in ⊎_elim
      (λ e. absurd (both_ways (has_lock u (after_release u (Q r)).1) (out_released u (Q r)).1 (subst (λ (x : TxnId). has_lock x (after_release u (Q r)).1 ≡ true) (sym (same_is u t e)) k)))
      (λ e. p t e ∙ s.waits t r (waits_release t u (Q r) k))
      (cases_Bool (is_same_txn u t));
  listed = λ t r h. ⊎_elim
      (λ e. subst (IsOut t) (sym (q r)) (subst (λ (x : TxnId). IsOut x (after_release u (Q r))) (same_is u t e) (out_released u (Q r))))
      (λ e. subst (IsOut t) (sym (q r)) (out_release t u (Q r) (s.listed t r (sym (l t r e) ∙ h))))
      (cases_Bool (is_same_txn u t));
}

pub sound_give_back : (Q Q2 : RecordId → Queue) (L L2 : TxnId → RecordId → Bool) (P : TxnId → Option RecordId) (u : TxnId) (at : RecordId) (was : Option LockType) (h : LockType)
    → IsSound Q L P → held_by u (Q at).0 ≡ Some h → WasHeld was h
    → ((r : RecordId) → Q2 r ≡ cond (is_record at r) (after_give_back u was (Q r)) (Q r))
    → ((t : TxnId) (r : RecordId) → L2 t r ≡ false → (L t r ≡ false) ⊎ (IsOut t (Q2 r))) → IsSound Q2 L2 P
sound_give_back Q Q2 L L2 P u at was h s e wh q l = record {
  settled = λ r. ⊎_elim
      (λ i. let d = record_is at r i in subst IsSettled (sym (here r i)) (settled_give_back u was h (Q r) (s.settled r) (subst (λ (x : RecordId). held_by u (Q x).0 ≡ Some h) d e) wh))
      (λ i. subst IsSettled (sym (there r i)) (s.settled r)) (cases_Bool (is_record at r));
  waits = λ t r k. ⊎_elim
      (λ i. s.waits t r (waits_give_back t u was (Q r) (subst (λ (x : Queue). has_lock t x.1 ≡ true) (here r i) k)))
      (λ i. s.waits t r (subst (λ (x : Queue). has_lock t x.1 ≡ true) (there r i) k)) (cases_Bool (is_record at r));
  listed = λ t r k. ⊎_elim
      (λ n. ⊎_elim (λ i. subst (IsOut t) (sym (here r i)) (out_give_back t u was (Q r) (s.listed t r n))) (λ i. subst (IsOut t) (sym (there r i)) (s.listed t r n)) (cases_Bool (is_record at r)))
      (λ o. o) (l t r k);
}
  where
    here : (r : RecordId) → is_record at r ≡ true → Q2 r ≡ after_give_back u was (Q r)
    here r i = q r ∙ cond-true (is_record at r) (after_give_back u was (Q r)) (Q r) i

    there : (r : RecordId) → is_record at r ≡ false → Q2 r ≡ Q r
    there r i = q r ∙ cond-false (is_record at r) (after_give_back u was (Q r)) (Q r) i

-- READ locks of a transaction go
pub sound_read : (Q Q2 : RecordId → Queue) (L : TxnId → RecordId → Bool) (P : TxnId → Option RecordId) (u : TxnId)
    → IsSound Q L P → ((r : RecordId) → Q2 r ≡ after_read u (Q r)) → IsSound Q2 L P
sound_read Q Q2 L P u s q = record {
  settled = λ r. subst IsSettled (sym (q r)) (settled_read u (Q r) (s.settled r));
  waits = λ t r h. s.waits t r (waits_read t u (Q r) (subst (λ (x : Queue). has_lock t x.1 ≡ true) (q r) h));
  listed = λ t r h. subst (IsOut t) (sym (q r)) (out_read t u (Q r) (s.listed t r h));
}

-- where a transaction that waits no more was told to wait is forgotten
pub sound_forget : (Q : RecordId → Queue) (L : TxnId → RecordId → Bool) (P P2 : TxnId → Option RecordId) (u : TxnId)
    → IsSound Q L P → ((t : TxnId) → P2 t ≡ cond (is_same_txn u t && option_map_or (λ r. not (has_lock u (Q r).1)) (P u) false) None (P t)) → IsSound Q L P2
sound_forget Q L P P2 u s p = record { settled = s.settled; waits = waits; listed = s.listed }
  where
    waits : (t : TxnId) (r : RecordId) → has_lock t (Q r).1 ≡ true → P2 t ≡ Some r
    waits t r h = ⊎_elim
        (λ e. let k = and_parts (is_same_txn u t) (option_map_or (λ r. not (has_lock u (Q r).1)) (P u) false) e in
        let w : has_lock u (Q r).1 ≡ true = subst (λ (x : TxnId). has_lock x (Q r).1 ≡ true) (sym (same_is u t k.0)) h in
        let n : not (has_lock u (Q r).1) ≡ true = sym (ap (λ o. option_map_or (λ r. not (has_lock u (Q r).1)) o false) (s.waits u r w)) ∙ k.1 in
        absurd (both_ways (not (has_lock u (Q r).1)) (ap not w) n))
        (λ e. p t ∙ (cond-false (is_same_txn u t && option_map_or (λ r. not (has_lock u (Q r).1)) (P u) false) None (P t) e ∙ s.waits t r h))
        (cases_Bool (is_same_txn u t && option_map_or (λ r. not (has_lock u (Q r).1)) (P u) false))

-- the same, where what the transaction is told is one equation
pub sound_told : (Q Q2 : RecordId → Queue) (L L2 : TxnId → RecordId → Bool) (P P2 : TxnId → Option RecordId) (at : RecordId) (w : Lock) (told : Option RecordId)
    → IsSound Q L P → ((r : RecordId) → has_lock w.txn (Q r).1 ≡ false)
    → ((r : RecordId) → Q2 r ≡ cond (is_record at r) (after_ask w (Q r)) (Q r))
    → ((t : TxnId) (r : RecordId) → L2 t r ≡ false → L t r ≡ false) → (L2 w.txn at ≡ false → IsOut w.txn (Q at) → IsOut w.txn (Q2 at))
    → (is_blocked (Q at).0 w ≡ true → told ≡ Some at) → ((t : TxnId) → P2 t ≡ cond (is_same_txn w.txn t) told (P t))
    → IsSound Q2 L2 P2
sound_told Q Q2 L L2 P P2 at w told s free q l l2 is p =
    sound_ask Q Q2 L L2 P P2 at w s free q l l2
    (λ b. p w.txn ∙ (cond-true (is_same_txn w.txn w.txn) told (P w.txn) (same_itself w.txn) ∙ is b)) (λ t h. p t ∙ cond-false (is_same_txn w.txn t) told (P t) h)

-- the same queues and pending records, with at least as much listed
pub sound_same : (Q Q2 : RecordId → Queue) (L L2 : TxnId → RecordId → Bool) (P P2 : TxnId → Option RecordId)
    → IsSound Q L P → ((r : RecordId) → Q2 r ≡ Q r) → ((t : TxnId) (r : RecordId) → L2 t r ≡ false → L t r ≡ false) → ((t : TxnId) → P2 t ≡ P t) → IsSound Q2 L2 P2
sound_same Q Q2 L L2 P P2 s q l p = record {
  settled = λ r. subst IsSettled (sym (q r)) (s.settled r);
  waits = λ t r h. p t ∙ s.waits t r (subst (λ (x : Queue). has_lock t x.1 ≡ true) (q r) h);
  listed = λ t r h. subst (IsOut t) (sym (q r)) (s.listed t r (l t r h));
}

-- a wait that was just put down is taken back
pub cancel_asked : (w : Lock) (q : Queue) → has_lock w.txn q.1 ≡ false → is_blocked q.0 w ≡ true → after_cancel w.txn (after_ask w q) ≡ q
cancel_asked w q n b = ap (after_cancel w.txn) (cond-true (is_blocked q.0 w) (q.0, q.1 ++ (w ∷ [])) (with_lock w q.0, q.1) b) ∙ ap (λ ws. (q.0, ws)) (undone q.1 n)
  where
    undone : (ws : List Lock) → has_lock w.txn ws ≡ false → without_txn w.txn (ws ++ (w ∷ [])) ≡ ws
    undone [] m = cond-false (not (is_of w.txn w)) (w ∷ []) [] (ap not (same_itself w.txn))
    undone (v ∷ ws) m = let k = or_parts (is_of w.txn v) (has_lock w.txn ws) m in cond-true (not (is_of w.txn v)) (v ∷ without_txn w.txn (ws ++ (w ∷ []))) (without_txn w.txn (ws ++ (w ∷ []))) (ap not k.0) ∙ ap (λ us. v ∷ us) (undone ws k.1)
