-- Locks of a range type are those of transactions that asked for one: what each call keeps of it.
use Rattle.std.proofs.Common.{◌≡◌, Bool, true, false, cond, not, ◌||◌, length, arith, List, [], ◌∷◌, ◌++◌, map, Some, None, Option, Result, Ok, Err, OnOk, OnErr, refl, ap, sym, ◌∙◌, subst, ⊎_elim}
use Rattle.std.specs.List.{list_any, AllByRecursion}
use Rattle.std.specs.BTreeSet.{BTreeSet}
use Rattle.std.specs.Ordering.{is_eq}
use Rattle.std.specs.Bool.{IsTrue}
use Rattle.std.proofs.lemmas.Bool.{cond_both, both_ways, or_cases, false_from_ne_true}
use Rattle.je_order.specs.declared.txn_id.TxnId.{TxnId}
use Rattle.lock_mode.specs.declared.lock_type.LockType.{LockType}
use Rattle.lock_mode.specs.declared.lock_type.LockType.TheVariants.{Read, Write, RangeRead, RangeWrite, RangeInsert}
use Rattle.lock_mode.specs.Modes.{upgraded, can_be_held}
use Rattle.lock_table.specs.declared.lock.Lock.{Lock}
use Rattle.lock_table.specs.Locks.{is_range, is_of, has_lock, without_txn, held_by, is_blocked, upgraded_by, set_by, with_lock, granted, after_ask, after_cancel, after_release, after_give_back, read_given_back, WasHeld, IsSettled}
use Rattle.je_order.specs.Transactions.{is_same_txn, txn_cmp}
use Rattle.lock_table.specs.declared.record_id.RecordId.{RecordId}
use Rattle.lock_table.specs.Records.{is_record}
use Rattle.lock_table.specs.Table.{Locks, locks_at, IsSameTable, is_among, IsRangeOf, AreRangesOf}
use Rattle.je_order.proofs.TxnIds.{same_is}
use Rattle.je_order.proofs.Lists.{all_weaker, all_push, all_kept, filter_all_pass}
use Rattle.lock_table.proofs.QueueMaps.{record_is}
use Rattle.lock_table.proofs.OwnersAndWaits.{all_mapped, all_both}
use Rattle.lock_table.proofs.Owners.{upgraded_txn, held_each, granted_cases}

abbrev pub Queue : Type 0
Queue = List Lock × List Lock

-- ---- types
range_join : (a b : LockType) → is_range (upgraded a b) ≡ (is_range a || is_range b)
range_join Read Read = refl
range_join Read Write = refl
range_join Read RangeRead = refl
range_join Read RangeWrite = refl
range_join Read RangeInsert = refl
range_join Write Read = refl
range_join Write Write = refl
range_join Write RangeRead = refl
range_join Write RangeWrite = refl
range_join Write RangeInsert = refl
range_join RangeRead Read = refl
range_join RangeRead Write = refl
range_join RangeRead RangeRead = refl
range_join RangeRead RangeWrite = refl
range_join RangeRead RangeInsert = refl
range_join RangeWrite b = refl
range_join RangeInsert b = refl

-- a type from which a range type was reached by upgrades, if it is one itself
range_from : (m h : LockType) → upgraded m h ≡ h → is_range m ≡ true → is_range h ≡ true
range_from m h e r = sym (ap is_range e) ∙ (range_join m h ∙ ap (λ b. b || is_range h) r)

-- ---- what holds of each lock of a record, where an upgrade keeps it
abbrev pub GoesUp : (Lock → Type 0) → Type 0
GoesUp P = (w o : Lock) → P w → P o → P (upgraded_by w o)

pub with_all : (P : Lock → Type 0) → GoesUp P → (w : Lock) (os : List Lock) → AllByRecursion P os → P w → AllByRecursion P (with_lock w os)
with_all P up w os all is =
    cond_both (can_be_held w.mode) (cond (has_lock w.txn os) (map (upgraded_by w) os) (os ++ w ∷ [])) os (AllByRecursion P)
    (λ e. cond_both (has_lock w.txn os) (map (upgraded_by w) os) (os ++ w ∷ []) (AllByRecursion P)
    (λ f. all_mapped (upgraded_by w) P P (λ o p. up w o is p) os all) (λ f. all_push P os w all is))
    (λ e. all)

pub granted_all : (P : Lock → Type 0) → GoesUp P → (ws os : List Lock) → AllByRecursion P os → AllByRecursion P ws → AllByRecursion P (granted os ws).0 × AllByRecursion P (granted os ws).1
granted_all P up [] os a b = (a, tt)
granted_all P up (w ∷ ws) os a b = granted_cases (λ q. AllByRecursion P q.0 × AllByRecursion P q.1) os w ws
    (λ e. let k = granted_all P up ws os a b.1 in (k.0, (b.0, k.1)))
    (λ e. granted_all P up ws (with_lock w os) (with_all P up w os a b.0) b.1)

range_goes_up : (S : TxnId → Bool) → GoesUp (IsRangeOf S)
range_goes_up S w o hw ho = cond_both (is_of w.txn o) (record { txn = o.txn; mode = upgraded o.mode w.mode }) o (IsRangeOf S)
    (λ e r. ⊎_elim ho (λ b. subst (λ (t : TxnId). S t ≡ true) (same_is w.txn o.txn e) (hw b)) (or_cases (is_range o.mode) (is_range w.mode) (sym (range_join o.mode w.mode) ∙ r)))
    (λ e. ho)

-- ---- the calls, at one record
pub ranges_asked : (S : TxnId → Bool) (w : Lock) (q : Queue) → AreRangesOf S q → IsRangeOf S w → AreRangesOf S (after_ask w q)
ranges_asked S w q a is = cond_both (is_blocked q.0 w) (q.0, q.1 ++ w ∷ []) (with_lock w q.0, q.1) (AreRangesOf S)
    (λ e. record { owners = a.owners; waits = all_push (IsRangeOf S) q.1 w a.waits is })
    (λ e. record { owners = with_all (IsRangeOf S) (range_goes_up S) w q.0 a.owners is; waits = a.waits })

pub ranges_cancelled : (S : TxnId → Bool) (u : TxnId) (q : Queue) → AreRangesOf S q → AreRangesOf S (after_cancel u q)
ranges_cancelled S u q a = record { owners = a.owners; waits = all_kept (IsRangeOf S) (λ l. not (is_of u l)) q.1 a.waits }

ranges_granted : (S : TxnId → Bool) (os ws : List Lock) → AllByRecursion (IsRangeOf S) os → AllByRecursion (IsRangeOf S) ws → AreRangesOf S (granted os ws)
ranges_granted S os ws a b = let k = granted_all (IsRangeOf S) (range_goes_up S) ws os a b in record { owners = k.0; waits = k.1 }

ranges_without : (S : TxnId → Bool) (u : TxnId) (q : Queue) → AreRangesOf S q → AreRangesOf S (after_give_back u None q)
ranges_without S u q a = ranges_granted S (without_txn u q.0) q.1 (all_kept (IsRangeOf S) (λ l. not (is_of u l)) q.0 a.owners) a.waits

pub ranges_given_back : (S : TxnId → Bool) (u : TxnId) (was : Option LockType) (h : LockType) (q : Queue) → IsSettled q → held_by u q.0 ≡ Some h → WasHeld was h → AreRangesOf S q → AreRangesOf S (after_give_back u was q)
ranges_given_back S u None h q s e w a = ranges_without S u q a
ranges_given_back S u (Some m) h q s e w a =
    ranges_granted S (map (set_by u m) q.0) q.1
    (all_mapped (set_by u m) (λ o. IsRangeOf S o × (is_of u o ≡ true → o.mode ≡ h)) (IsRangeOf S) less q.0
    (all_both (IsRangeOf S) (λ o. is_of u o ≡ true → o.mode ≡ h) q.0 a.owners (held_each u h q.0 s.owners.apart e)))
    a.waits
  where
    less : (o : Lock) → (IsRangeOf S o × (is_of u o ≡ true → o.mode ≡ h)) → IsRangeOf S (set_by u m o)
    less o p = cond_both (is_of u o) (record { txn = o.txn; mode = m }) o (IsRangeOf S) (λ i r. p.0 (ap is_range (p.1 i) ∙ range_from m h w.1 r)) (λ i. p.0)

pub ranges_read : (S : TxnId → Bool) (u : TxnId) (held : Option LockType) (q : Queue) → AreRangesOf S q → AreRangesOf S (read_given_back u held q)
ranges_read S u (Some Read) q a = ranges_without S u q a
ranges_read S u held q a = a

-- a release takes the transaction out, from the set too
pub ranges_released : (S S2 : TxnId → Bool) (u : TxnId) (q : Queue) → ((x : TxnId) → is_same_txn u x ≡ false → S2 x ≡ S x) → AreRangesOf S q → AreRangesOf S2 (after_release u q)
ranges_released S S2 u q same a =
    let k = granted_all Other up (without_txn u q.1) (without_txn u q.0) (others q.0 a.owners) (others q.1 a.waits) in
    record { owners = all_weaker Other (IsRangeOf S2) still (after_release u q).0 k.0; waits = all_weaker Other (IsRangeOf S2) still (after_release u q).1 k.1 }
  where
    Other : Lock → Type 0
    Other l = IsRangeOf S l × (is_of u l ≡ false)

    up : GoesUp Other
    up w o hw ho = (range_goes_up S w o hw.0 ho.0, ap (is_same_txn u) (upgraded_txn w o) ∙ ho.1)

    not_it : (b : Bool) → not b ≡ true → b ≡ false
    not_it true h = sym h
    not_it false h = refl

    others : (ls : List Lock) → AllByRecursion (IsRangeOf S) ls → AllByRecursion Other (without_txn u ls)
    others ls all = all_both (IsRangeOf S) (λ l. is_of u l ≡ false) (without_txn u ls) (all_kept (IsRangeOf S) (λ l. not (is_of u l)) ls all)
        (all_weaker (λ l. not (is_of u l) ≡ true) (λ l. is_of u l ≡ false) (λ l p. not_it (is_of u l) p) (without_txn u ls) (filter_all_pass (λ l. not (is_of u l)) ls))

    still : (l : Lock) → Other l → IsRangeOf S2 l
    still l p r = same l.txn p.1 ∙ p.0 r

-- ---- at every record
-- what holds of the old queue and of the changed one holds of the new one
pub changed_keeps : (P : Queue → Type 0) (here : Bool) (changed old new : Queue) → new ≡ cond here changed old → P changed → P old → P new
changed_keeps P here changed old new is a b = subst P (sym is) (cond_both here changed old P (λ e. a) (λ e. b))

-- where nobody asked for a range type, no owner has one
pub none_ranged : (S : TxnId → Bool) (q : Queue) → ((t : TxnId) → S t ≡ false) → AreRangesOf S q → AllByRecursion (λ o. is_range o.mode ≡ false) q.0
none_ranged S q none a = all_weaker (IsRangeOf S) (λ o. is_range o.mode ≡ false) (λ o p. false_from_ne_true (is_range o.mode) (λ h. both_ways (S o.txn) (none o.txn) (p h))) q.0 a.owners

-- nobody is in an empty set
pub nobody : (set : BTreeSet TxnId) (empty : Bool) → (IsTrue empty → length set.keys ≡ 0) → not empty ≡ false → (t : TxnId) → is_among set t ≡ false
nobody set empty is h t = ap (list_any (λ k. is_eq (txn_cmp t k))) (nil set.keys (is (back empty h)))
  where
    back : (b : Bool) → not b ≡ false → IsTrue b
    back true h = refl
    back false h = absurd (both_ways true h refl)

    nil : (xs : List TxnId) → length xs ≡ 0 → xs ≡ []
    nil [] h = refl
    nil (x ∷ xs) h = absurd (omega arith)

-- who is in a set stays there where one comes in
pub still_in : (b old new : Bool) → new ≡ cond b true old → old ≡ true → new ≡ true
still_in true old new is was = is
still_in false old new is was = is ∙ was

-- where more transactions are in the set
pub ranges_more : (S S2 : TxnId → Bool) (q : Queue) → ((t : TxnId) → S t ≡ true → S2 t ≡ true) → AreRangesOf S q → AreRangesOf S2 q
ranges_more S S2 q more a = record {
  owners = all_weaker (IsRangeOf S) (IsRangeOf S2) (λ l p r. more l.txn (p r)) q.0 a.owners;
  waits = all_weaker (IsRangeOf S) (IsRangeOf S2) (λ l p r. more l.txn (p r)) q.1 a.waits;
}

pub ranges_asked_in : {T E : Type 0} (result : Result T E) (S : TxnId → Bool) (v w : Locks) (at : RecordId) (l : Lock) → ((r : RecordId) → AreRangesOf S (locks_at r v)) → IsRangeOf S l
    → OnOk result ((r : RecordId) → locks_at r w ≡ cond (is_record at r) (after_ask l (locks_at r v)) (locks_at r v)) → OnErr result (IsSameTable v w) → (r : RecordId) → AreRangesOf S (locks_at r w)
ranges_asked_in (Ok x) S v w at l a is ok err r = changed_keeps (AreRangesOf S) (is_record at r) (after_ask l (locks_at r v)) (locks_at r v) (locks_at r w) (ok r) (ranges_asked S l (locks_at r v) (a r) is) (a r)
ranges_asked_in (Err e) S v w at l a is ok err r = subst (AreRangesOf S) (sym (err.locks r)) (a r)

pub ranges_back : (S : TxnId → Bool) (Q Q2 : RecordId → Queue) (u : TxnId) (at : RecordId) (was : Option LockType) (h : LockType) → ((r : RecordId) → IsSettled (Q r)) → held_by u (Q at).0 ≡ Some h → WasHeld was h
    → ((r : RecordId) → Q2 r ≡ cond (is_record at r) (after_give_back u was (Q r)) (Q r)) → ((r : RecordId) → AreRangesOf S (Q r)) → (r : RecordId) → AreRangesOf S (Q2 r)
ranges_back S Q Q2 u at was h s e w q a r = subst (AreRangesOf S) (sym (q r)) (cond_both (is_record at r) (after_give_back u was (Q r)) (Q r) (AreRangesOf S)
    (λ i. ranges_given_back S u was h (Q r) (s r) (subst (λ (x : RecordId). held_by u (Q x).0 ≡ Some h) (record_is at r i) e) w (a r))
    (λ i. a r))
