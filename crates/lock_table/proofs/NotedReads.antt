-- What is noted of the transactions that may have a lock of READ: what each call keeps of it.
use Rattle.std.proofs.Common.{◌≡◌, Bool, true, false, cond, not, ◌||◌, List, [], ◌∷◌, ◌++◌, map, Some, None, Option, Result, Ok, Err, OnOk, OnErr, refl, ap, sym, ◌∙◌, subst}
use Rattle.std.specs.List.{AllByRecursion}
use Rattle.std.specs.Option.{option_map, option_map_or, is_some}
use Rattle.std.proofs.lemmas.Bool.{cond_both, both_ways, false_from_ne_true}
use Rattle.je_order.specs.declared.txn_id.TxnId.{TxnId}
use Rattle.lock_mode.specs.declared.lock_type.LockType.{LockType}
use Rattle.lock_mode.specs.declared.lock_type.LockType.TheVariants.{Read, Write, RangeRead, RangeWrite, RangeInsert}
use Rattle.lock_mode.specs.Modes.{upgraded}
use Rattle.lock_table.specs.declared.lock.Lock.{Lock}
use Rattle.lock_table.specs.declared.record_id.RecordId.{RecordId}
use Rattle.lock_table.specs.Locks.{is_read_lock, is_of, has_lock, without_txn, held_by, is_blocked, set_by, with_lock, granted, after_ask, after_cancel, after_read, after_release, after_give_back, read_given_back, IsSettled}
use Rattle.lock_table.specs.Records.{is_record}
use Rattle.lock_table.specs.Table.{Locks, locks_at, IsSameTable, may_have, IsReadNoted, AreReadsNoted}
use Rattle.je_order.specs.Transactions.{is_same_txn}
use Rattle.je_order.proofs.TxnIds.{same_is, same_itself}
use Rattle.je_order.proofs.Lists.{all_weaker, all_push, all_kept, filter_all_pass, none_each}
use Rattle.lock_table.proofs.OwnersAndWaits.{all_mapped, all_both}
use Rattle.lock_table.proofs.Owners.{upgraded_txn}
use Rattle.lock_table.proofs.QueueMaps.{record_is}
use Rattle.lock_table.proofs.QueueReads.{IsMore, more_owners, read_more, waits_read}
use Rattle.lock_table.proofs.RangeLocks.{GoesUp, with_all, granted_all, changed_keeps}

abbrev pub Queue : Type 0
Queue = List Lock × List Lock

abbrev pub Notes : Type 0
Notes = TxnId → Option Bool

-- ---- what is noted of one transaction
both_kept : (a b : LockType) → not (is_read_lock a) ≡ true → not (is_read_lock b) ≡ true → not (is_read_lock (upgraded a b)) ≡ true
both_kept Read b h k = absurd (both_ways false refl h)
both_kept Write Read h k = refl
both_kept Write Write h k = refl
both_kept Write RangeRead h k = refl
both_kept Write RangeWrite h k = refl
both_kept Write RangeInsert h k = refl
both_kept RangeRead Read h k = refl
both_kept RangeRead Write h k = refl
both_kept RangeRead RangeRead h k = refl
both_kept RangeRead RangeWrite h k = refl
both_kept RangeRead RangeInsert h k = refl
both_kept RangeWrite b h k = refl
both_kept RangeInsert b h k = k

have_joined : (o : Option Bool) (a b : LockType) → may_have o a ≡ true → may_have o b ≡ true → may_have o (upgraded a b) ≡ true
have_joined None a b h k = h
have_joined (Some true) a b h k = refl
have_joined (Some false) a b h k = both_kept a b h k

have_raised : (o : Option Bool) (r : Bool) (m : LockType) → may_have o m ≡ true → may_have (option_map (λ b. b || r) o) m ≡ true
have_raised None r m h = h
have_raised (Some true) r m h = refl
have_raised (Some false) true m h = refl
have_raised (Some false) false m h = h

have_own : (m : LockType) → may_have (Some (is_read_lock m)) m ≡ true
have_own Read = refl
have_own Write = refl
have_own RangeRead = refl
have_own RangeWrite = refl
have_own RangeInsert = refl

have_asked : (o : Option Bool) (m : LockType) → is_some o ≡ true → may_have (option_map (λ b. b || is_read_lock m) o) m ≡ true
have_asked None m h = absurd (both_ways false refl h)
have_asked (Some true) m h = refl
have_asked (Some false) m h = have_own m

-- something is noted of who may have a lock
have_some : (o : Option Bool) (m : LockType) → may_have o m ≡ true → is_some o ≡ true
have_some None m h = h
have_some (Some b) m h = refl

-- who may have no READ any more keeps what is more
have_less : (o : Option Bool) (m : LockType) → may_have o m ≡ true → (m ≡ Read → ⊥) → may_have (option_map (λ _. false) o) m ≡ true
have_less None m h n = h
have_less (Some b) Read h n = absurd (n refl)
have_less (Some b) Write h n = refl
have_less (Some b) RangeRead h n = refl
have_less (Some b) RangeWrite h n = refl
have_less (Some b) RangeInsert h n = refl

-- of whom it is noted that he has no READ, or nothing, has none
have_none : (o : Option Bool) → option_map_or (λ b. b) o false ≡ false → may_have o Read ≡ false
have_none None h = refl
have_none (Some true) h = h
have_none (Some false) h = refl

-- ---- the notes
-- what was left is left
abbrev pub IsWider : Notes → Notes → Type 0
IsWider R S = (l : Lock) → IsReadNoted R l → IsReadNoted S l

abbrev IsRaised : Notes → Notes → TxnId → Bool → Type 0
IsRaised R S u r = (t : TxnId) → S t ≡ cond (is_same_txn u t) (option_map (λ b. b || r) (R t)) (R t)

pub raised_wider : (R S : Notes) (u : TxnId) (r : Bool) → IsRaised R S u r → IsWider R S
raised_wider R S u r is l h = subst (λ o. may_have o l.mode ≡ true) (sym (is l.txn))
    (cond_both (is_same_txn u l.txn) (option_map (λ b. b || r) (R l.txn)) (R l.txn) (λ o. may_have o l.mode ≡ true) (λ _. have_raised (R l.txn) r l.mode h) (λ _. h))

raised_at : (R S : Notes) (u : TxnId) (r : Bool) → IsRaised R S u r → S u ≡ option_map (λ b. b || r) (R u)
raised_at R S u r is = is u ∙ ap (λ b. cond b (option_map (λ c. c || r) (R u)) (R u)) (same_itself u)

pub raised_asked : (R S : Notes) (l : Lock) (r there : Bool) → IsRaised R S l.txn r → r ≡ is_read_lock l.mode → there ≡ is_some (R l.txn) → there ≡ true → IsReadNoted S l
raised_asked R S l r there is e t h = subst (λ o. may_have o l.mode ≡ true) (sym (raised_at R S l.txn r is ∙ ap (λ x. option_map (λ b. b || x) (R l.txn)) e)) (have_asked (R l.txn) l.mode (sym t ∙ h))

-- a lock that is what it was before
pub raised_back : (R S : Notes) (u : TxnId) (was : Option LockType) (r : Bool) → IsRaised R S u r → r ≡ option_map_or is_read_lock was false → (m h : LockType) → was ≡ Some m → may_have (R u) h ≡ true → may_have (S u) m ≡ true
raised_back R S u was r is e m h w k = raised_asked R S (record { txn = u; mode = m }) r (is_some (R u)) is (e ∙ ap (λ o. option_map_or is_read_lock o false) w) refl (have_some (R u) h k)

-- ---- the calls, at one record
noted_goes_up : (R : Notes) → GoesUp (IsReadNoted R)
noted_goes_up R w o hw ho = cond_both (is_of w.txn o) (record { txn = o.txn; mode = upgraded o.mode w.mode }) o (IsReadNoted R)
    (λ e. have_joined (R o.txn) o.mode w.mode ho (subst (λ (t : TxnId). may_have (R t) w.mode ≡ true) (same_is w.txn o.txn e) hw))
    (λ e. ho)

noted_asked : (R : Notes) (w : Lock) (q : Queue) → AreReadsNoted R q → IsReadNoted R w → AreReadsNoted R (after_ask w q)
noted_asked R w q a is = cond_both (is_blocked q.0 w) (q.0, q.1 ++ w ∷ []) (with_lock w q.0, q.1) (AreReadsNoted R)
    (λ e. record { owners = a.owners; waits = all_push (IsReadNoted R) q.1 w a.waits is })
    (λ e. record { owners = with_all (IsReadNoted R) (noted_goes_up R) w q.0 a.owners is; waits = a.waits })

pub noted_wider : (R S : Notes) (q : Queue) → IsWider R S → AreReadsNoted R q → AreReadsNoted S q
noted_wider R S q more a = record { owners = all_weaker (IsReadNoted R) (IsReadNoted S) more q.0 a.owners; waits = all_weaker (IsReadNoted R) (IsReadNoted S) more q.1 a.waits }

pub noted_cancelled : (R : Notes) (u : TxnId) (q : Queue) → AreReadsNoted R q → AreReadsNoted R (after_cancel u q)
noted_cancelled R u q a = record { owners = a.owners; waits = all_kept (IsReadNoted R) (λ l. not (is_of u l)) q.1 a.waits }

noted_granted : (R : Notes) (os ws : List Lock) → AllByRecursion (IsReadNoted R) os → AllByRecursion (IsReadNoted R) ws → AreReadsNoted R (granted os ws)
noted_granted R os ws a b = let k = granted_all (IsReadNoted R) (noted_goes_up R) ws os a b in record { owners = k.0; waits = k.1 }

noted_without : (R : Notes) (u : TxnId) (q : Queue) → AreReadsNoted R q → AreReadsNoted R (after_give_back u None q)
noted_without R u q a = noted_granted R (without_txn u q.0) q.1 (all_kept (IsReadNoted R) (λ l. not (is_of u l)) q.0 a.owners) a.waits

noted_given_back : (R S : Notes) (u : TxnId) (was : Option LockType) (h : LockType) (q : Queue) → IsSettled q → held_by u q.0 ≡ Some h → IsWider R S
    → ((m g : LockType) → was ≡ Some m → may_have (R u) g ≡ true → may_have (S u) m ≡ true) → AreReadsNoted R q → AreReadsNoted S (after_give_back u was q)
noted_given_back R S u None h q s e more back a = noted_without S u q (noted_wider R S q more a)
noted_given_back R S u (Some m) h q s e more back a =
    noted_granted S (map (set_by u m) q.0) q.1
    (all_mapped (set_by u m) (IsReadNoted R) (IsReadNoted S) less q.0 a.owners)
    (all_weaker (IsReadNoted R) (IsReadNoted S) more q.1 a.waits)
  where
    less : (o : Lock) → IsReadNoted R o → IsReadNoted S (set_by u m o)
    less o p = cond_both (is_of u o) (record { txn = o.txn; mode = m }) o (IsReadNoted S)
        (λ i. subst (λ (t : TxnId). may_have (S t) m ≡ true) (same_is u o.txn i) (back m o.mode refl (subst (λ (t : TxnId). may_have (R t) o.mode ≡ true) (sym (same_is u o.txn i)) p)))
        (λ i. more o p)

noted_read_by : (R : Notes) (u : TxnId) (held : Option LockType) (q : Queue) → AreReadsNoted R q → AreReadsNoted R (read_given_back u held q)
noted_read_by R u (Some Read) q a = noted_without R u q a
noted_read_by R u held q a = a

pub noted_read : (R : Notes) (u : TxnId) (q : Queue) → AreReadsNoted R q → AreReadsNoted R (after_read u q)
noted_read R u q a = noted_read_by R u (held_by u q.0) q a

abbrev IsLess : Notes → Notes → TxnId → Type 0
IsLess R S u = (t : TxnId) → S t ≡ cond (is_same_txn u t) (option_map (λ _. false) (R t)) (R t)

-- who waits no more has no READ once it is given back
pub noted_less : (R S : Notes) (u : TxnId) (q : Queue) → IsSettled q → has_lock u q.1 ≡ false → IsLess R S u → AreReadsNoted R q → AreReadsNoted S (after_read u q)
noted_less R S u q s n is a =
    let k = noted_read R u q a in
    record {
      owners = all_weaker Both (IsReadNoted S) still (after_read u q).0 (all_both (IsReadNoted R) (IsMore u) (after_read u q).0 k.owners (more_owners u q s));
      waits = all_weaker Both (IsReadNoted S) still (after_read u q).1 (all_both (IsReadNoted R) (IsMore u) (after_read u q).1 k.waits
          (all_weaker (λ w. is_of u w ≡ false) (IsMore u) (λ w p i m. both_ways (is_of u w) p i) (after_read u q).1 (none_each (is_of u) (after_read u q).1 (false_from_ne_true (has_lock u (after_read u q).1) (λ h. both_ways (has_lock u q.1) n (waits_read u u q h))))));
    }
  where
    Both : Lock → Type 0
    Both l = IsReadNoted R l × IsMore u l

    still : (l : Lock) → Both l → IsReadNoted S l
    still l p = subst (λ o. may_have o l.mode ≡ true) (sym (is l.txn)) (cond_both (is_same_txn u l.txn) (option_map (λ _. false) (R l.txn)) (R l.txn) (λ o. may_have o l.mode ≡ true) (λ i. have_less (R l.txn) l.mode p.0 (p.1 i)) (λ i. p.0))

-- of whom no READ is noted nothing goes
pub noted_nothing : (R : Notes) (u : TxnId) (may : Bool) (q : Queue) → AreReadsNoted R q → may ≡ option_map_or (λ b. b) (R u) false → may ≡ false → after_read u q ≡ q
noted_nothing R u may q a is n = read_more u q (all_weaker (IsReadNoted R) (IsMore u)
    (λ l p i m. both_ways (may_have (R u) Read) (have_none (R u) (sym is ∙ n)) (subst (λ (t : TxnId). may_have (R t) Read ≡ true) (sym (same_is u l.txn i)) (subst (λ (x : LockType). may_have (R l.txn) x ≡ true) m p))) q.0 a.owners)

-- a release takes the transaction out, from the notes too
pub noted_released : (R S : Notes) (u : TxnId) (q : Queue) → ((x : TxnId) → is_same_txn u x ≡ false → S x ≡ R x) → AreReadsNoted R q → AreReadsNoted S (after_release u q)
noted_released R S u q same a =
    let k = granted_all Other up (without_txn u q.1) (without_txn u q.0) (others q.0 a.owners) (others q.1 a.waits) in
    record { owners = all_weaker Other (IsReadNoted S) still (after_release u q).0 k.0; waits = all_weaker Other (IsReadNoted S) still (after_release u q).1 k.1 }
  where
    Other : Lock → Type 0
    Other l = IsReadNoted R l × (is_of u l ≡ false)

    up : GoesUp Other
    up w o hw ho = (noted_goes_up R w o hw.0 ho.0, ap (is_same_txn u) (upgraded_txn w o) ∙ ho.1)

    not_it : (b : Bool) → not b ≡ true → b ≡ false
    not_it true h = sym h
    not_it false h = refl

    others : (ls : List Lock) → AllByRecursion (IsReadNoted R) ls → AllByRecursion Other (without_txn u ls)
    others ls all = all_both (IsReadNoted R) (λ l. is_of u l ≡ false) (without_txn u ls) (all_kept (IsReadNoted R) (λ l. not (is_of u l)) ls all)
        (all_weaker (λ l. not (is_of u l) ≡ true) (λ l. is_of u l ≡ false) (λ l p. not_it (is_of u l) p) (without_txn u ls) (filter_all_pass (λ l. not (is_of u l)) ls))

    still : (l : Lock) → Other l → IsReadNoted S l
    still l p = subst (λ o. may_have o l.mode ≡ true) (sym (same l.txn p.1)) p.0

-- ---- at every record
pub noted_asked_in : {T E : Type 0} (result : Result T E) (R : Notes) (v w : Locks) (at : RecordId) (l : Lock) → ((r : RecordId) → AreReadsNoted R (locks_at r v)) → IsReadNoted R l
    → OnOk result ((r : RecordId) → locks_at r w ≡ cond (is_record at r) (after_ask l (locks_at r v)) (locks_at r v)) → OnErr result (IsSameTable v w) → (r : RecordId) → AreReadsNoted R (locks_at r w)
noted_asked_in (Ok x) R v w at l a is ok err r = changed_keeps (AreReadsNoted R) (is_record at r) (after_ask l (locks_at r v)) (locks_at r v) (locks_at r w) (ok r) (noted_asked R l (locks_at r v) (a r) is) (a r)
noted_asked_in (Err e) R v w at l a is ok err r = subst (AreReadsNoted R) (sym (err.locks r)) (a r)

pub noted_back : (R S : Notes) (Q Q2 : RecordId → Queue) (u : TxnId) (at : RecordId) (was : Option LockType) (h : LockType) → ((r : RecordId) → IsSettled (Q r)) → held_by u (Q at).0 ≡ Some h → IsWider R S
    → ((m g : LockType) → was ≡ Some m → may_have (R u) g ≡ true → may_have (S u) m ≡ true)
    → ((r : RecordId) → Q2 r ≡ cond (is_record at r) (after_give_back u was (Q r)) (Q r)) → ((r : RecordId) → AreReadsNoted R (Q r)) → (r : RecordId) → AreReadsNoted S (Q2 r)
noted_back R S Q Q2 u at was h s e more back q a r = subst (AreReadsNoted S) (sym (q r)) (cond_both (is_record at r) (after_give_back u was (Q r)) (Q r) (AreReadsNoted S)
    (λ i. noted_given_back R S u was h (Q r) (s r) (subst (λ (x : RecordId). held_by u (Q x).0 ≡ Some h) (record_is at r i) e) more back (a r))
    (λ i. noted_wider R S (Q r) more (a r)))

-- who has no wait that stands waits nowhere
pub waits_nowhere : (Q : RecordId → Queue) (u : TxnId) (p : Option RecordId) → ((r : RecordId) → has_lock u (Q r).1 ≡ true → p ≡ Some r) → option_map_or (λ r. has_lock u (Q r).1) p false ≡ false
    → (r : RecordId) → has_lock u (Q r).1 ≡ false
waits_nowhere Q u p told n r = false_from_ne_true (has_lock u (Q r).1) (λ h. both_ways (has_lock u (Q r).1) (sym (ap (λ (o : Option RecordId). option_map_or (λ x. has_lock u (Q x).1) o false) (told r h)) ∙ n) h)
