-- A lock that was got and is given back.
use Rattle.std.proofs.Common.{◌≡◌, true, false, cond, not, ◌||◌, List, [], ◌∷◌, ◌++◌, reverse, map, Some, None, Option, refl, ap, ap₂, sym, ◌∙◌, subst, ⊎_elim}
use Rattle.std.specs.List.{find, AllByRecursion}
use Rattle.std.specs.Option.{option_map, is_some}
use Rattle.std.proofs.lemmas.List.{reverse-append}
use Rattle.std.proofs.lemmas.Bool.{cond_both, cases_Bool, cond-true, cond-false, or_parts, both_ways, not_from_true}
use Rattle.je_order.specs.declared.txn_id.TxnId.{TxnId}
use Rattle.je_order.specs.Transactions.{is_same_txn}
use Rattle.je_order.proofs.TxnIds.{same_itself}
use Rattle.lock_mode.specs.declared.lock_type.LockType.{LockType}
use Rattle.lock_mode.specs.declared.lock_type.LockType.TheVariants.{Read, Write, RangeRead, RangeWrite, RangeInsert}
use Rattle.lock_mode.specs.Modes.{upgraded, can_be_held}
use Rattle.lock_table.specs.declared.lock.Lock.{Lock}
use Rattle.lock_table.specs.declared.record_id.RecordId.{RecordId}
use Rattle.lock_table.specs.Locks.{lock_of, is_of, has_lock, without_txn, held_by, is_blocked, upgraded_by, set_by, with_lock, granted, after_ask, after_give_back, IsSettled}
use Rattle.lock_table.specs.Records.{is_record}
use Rattle.lock_table.specs.Table.{Locks, locks_at, pending_at}
use Rattle.lock_table.proofs.QueueMaps.{record_is}
use Rattle.lock_table.proofs.Owners.{held_each, granted_none, upgraded_txn}
use Rattle.je_answers.specs.Standing.{LockState}
use Rattle.txn_locks.specs.declared.got.Got.{Got}
use Rattle.txn_locks.specs.Taking.{state_of}
use Rattle.txn_locks.specs.Undoing.{IsBack, IsOneGot, AreGot}
use Rattle.txn_locks.proofs.States.{same_state}

abbrev pub Queue : Type 0
Queue = List Lock × List Lock

-- ---- types
up_again : (h m : LockType) → upgraded h (upgraded h m) ≡ upgraded h m
up_again Read Read = refl
up_again Read Write = refl
up_again Read RangeRead = refl
up_again Read RangeWrite = refl
up_again Read RangeInsert = refl
up_again Write Read = refl
up_again Write Write = refl
up_again Write RangeRead = refl
up_again Write RangeWrite = refl
up_again Write RangeInsert = refl
up_again RangeRead Read = refl
up_again RangeRead Write = refl
up_again RangeRead RangeRead = refl
up_again RangeRead RangeWrite = refl
up_again RangeRead RangeInsert = refl
up_again RangeWrite m = refl
up_again RangeInsert m = refl

up_itself : (h : LockType) → upgraded h h ≡ h
up_itself Read = refl
up_itself Write = refl
up_itself RangeRead = refl
up_itself RangeWrite = refl
up_itself RangeInsert = refl

-- ---- what is held
pub held_none : (t : TxnId) (os : List Lock) → has_lock t os ≡ false → held_by t os ≡ None
held_none t [] n = refl
held_none t (o ∷ os) n =
    let k = or_parts (is_of t o) (has_lock t os) n in
    ap (option_map (λ (l : Lock). l.mode)) (cond-false (is_of t o) (Some o) (find (is_of t) os) k.0) ∙ held_none t os k.1

pub held_some : (t : TxnId) (os : List Lock) → has_lock t os ≡ true → (h : LockType) × (held_by t os ≡ Some h)
held_some t [] h = absurd (both_ways false refl h)
held_some t (o ∷ os) h = ⊎_elim
    (λ e. (o.mode, ap (option_map (λ (l : Lock). l.mode)) (cond-true (is_of t o) (Some o) (find (is_of t) os) e)))
    (λ e. let r = held_some t os (sym (ap (λ b. b || has_lock t os) e) ∙ h) in (r.0, ap (option_map (λ (l : Lock). l.mode)) (cond-false (is_of t o) (Some o) (find (is_of t) os) e) ∙ r.1))
    (cases_Bool (is_of t o))

-- the first owner's type, or what the others hold
pub held_here : (t : TxnId) (o : Lock) (os : List Lock) → is_of t o ≡ true → held_by t (o ∷ os) ≡ Some o.mode
held_here t o os e = ap (option_map (λ (l : Lock). l.mode)) (cond-true (is_of t o) (Some o) (find (is_of t) os) e)

pub held_there : (t : TxnId) (o : Lock) (os : List Lock) → is_of t o ≡ false → held_by t (o ∷ os) ≡ held_by t os
held_there t o os e = ap (option_map (λ (l : Lock). l.mode)) (cond-false (is_of t o) (Some o) (find (is_of t) os) e)

can_hold : (t : TxnId) (h : LockType) (os : List Lock) → held_by t os ≡ Some h → AllByRecursion (λ o. can_be_held o.mode ≡ true) os → can_be_held h ≡ true
can_hold t h [] e all = absurd (cc (e))
can_hold t h (o ∷ os) e all = ⊎_elim
    (λ i. let k : Some o.mode ≡ Some h = sym (held_here t o os i) ∙ e in let m : o.mode ≡ h = cc in subst (λ (x : LockType). can_be_held x ≡ true) m all.0)
    (λ i. can_hold t h os (sym (held_there t o os i) ∙ e) all.1)
    (cases_Bool (is_of t o))

pub held_pushed : (t : TxnId) (m : LockType) (os : List Lock) → has_lock t os ≡ false → held_by t (os ++ lock_of t m ∷ []) ≡ Some m
held_pushed t m [] n = held_here t (lock_of t m) [] (same_itself t)
held_pushed t m (o ∷ os) n = let k = or_parts (is_of t o) (has_lock t os) n in held_there t o (os ++ lock_of t m ∷ []) k.0 ∙ held_pushed t m os k.1

held_up : (t : TxnId) (m h : LockType) (os : List Lock) → held_by t os ≡ Some h → held_by t (map (upgraded_by (lock_of t m)) os) ≡ Some (upgraded h m)
held_up t m h [] e = absurd (cc (e))
held_up t m h (o ∷ os) e = ⊎_elim
    (λ i. let k : Some o.mode ≡ Some h = sym (held_here t o os i) ∙ e in let p : o.mode ≡ h = cc in
    ap (λ (x : Lock). held_by t (x ∷ map (upgraded_by (lock_of t m)) os)) (cond-true (is_of t o) (record { txn = o.txn; mode = upgraded o.mode m }) o i)
    ∙ (held_here t (record { txn = o.txn; mode = upgraded o.mode m }) (map (upgraded_by (lock_of t m)) os) i ∙ ap (λ x. Some (upgraded x m)) p))
    (λ i. held_there t (upgraded_by (lock_of t m) o) (map (upgraded_by (lock_of t m)) os) (ap (is_same_txn t) (upgraded_txn (lock_of t m) o) ∙ i) ∙ held_up t m h os (sym (held_there t o os i) ∙ e))
    (cases_Bool (is_of t o))

-- ---- giving back
without_pushed : (t : TxnId) (m : LockType) (os : List Lock) → has_lock t os ≡ false → without_txn t (os ++ lock_of t m ∷ []) ≡ os
without_pushed t m [] n = cond-false (not (is_of t (lock_of t m))) (lock_of t m ∷ []) [] (not_from_true (is_of t (lock_of t m)) (same_itself t))
without_pushed t m (o ∷ os) n =
    let k = or_parts (is_of t o) (has_lock t os) n in
    cond-true (not (is_of t o)) (o ∷ without_txn t (os ++ lock_of t m ∷ [])) (without_txn t (os ++ lock_of t m ∷ [])) (ap not k.0) ∙ ap (λ ls. o ∷ ls) (without_pushed t m os k.1)

set_one : (t : TxnId) (h : LockType) (o : Lock) → (is_of t o ≡ true → o.mode ≡ h) → set_by t h o ≡ o
set_one t h o k = cond_both (is_of t o) (record { txn = o.txn; mode = h }) o (λ l. l ≡ o) (λ e. ap (λ (x : LockType). record { txn = o.txn; mode = x }) (sym (k e))) (λ e. refl)

set_same : (t : TxnId) (h : LockType) (os : List Lock) → AllByRecursion (λ o. is_of t o ≡ true → o.mode ≡ h) os → map (set_by t h) os ≡ os
set_same t h [] all = refl
set_same t h (o ∷ os) all = ap₂ (λ (x : Lock) xs. x ∷ xs) (set_one t h o all.0) (set_same t h os all.1)

set_up : (t : TxnId) (m h : LockType) (o : Lock) → (is_of t o ≡ true → o.mode ≡ h) → set_by t h (upgraded_by (lock_of t m) o) ≡ o
set_up t m h o k = ⊎_elim
    (λ e. ap (set_by t h) (cond-true (is_of t o) (record { txn = o.txn; mode = upgraded o.mode m }) o e)
    ∙ (cond-true (is_of t o) (record { txn = o.txn; mode = h }) (record { txn = o.txn; mode = upgraded o.mode m }) e ∙ ap (λ (x : LockType). record { txn = o.txn; mode = x }) (sym (k e))))
    (λ e. ap (set_by t h) (cond-false (is_of t o) (record { txn = o.txn; mode = upgraded o.mode m }) o e) ∙ cond-false (is_of t o) (record { txn = o.txn; mode = h }) o e)
    (cases_Bool (is_of t o))

set_all_up : (t : TxnId) (m h : LockType) (os : List Lock) → AllByRecursion (λ o. is_of t o ≡ true → o.mode ≡ h) os → map (set_by t h) (map (upgraded_by (lock_of t m)) os) ≡ os
set_all_up t m h [] all = refl
set_all_up t m h (o ∷ os) all = ap₂ (λ (x : Lock) xs. x ∷ xs) (set_up t m h o all.0) (set_all_up t m h os all.1)

some_is : (h k : LockType) → Some h ≡ Some k → h ≡ k
some_is h k e = cc

-- the three ways in which a lock is got
back_up : (t : TxnId) (m h : LockType) (q : Queue) → IsSettled q → held_by t q.0 ≡ Some h → IsBack t (Some h) q (map (upgraded_by (lock_of t m)) q.0, q.1)
back_up t m h q s is = record {
  back = λ k e. (
    ap (λ (l : List Lock). granted l q.1) (set_all_up t m h q.0 (held_each t h q.0 s.owners.apart is)) ∙ granted_none q.1 q.0 s.waits,
    (can_hold t h q.0 is s.owners.held, subst (λ (x : LockType). upgraded h x ≡ x) (some_is (upgraded h m) k (sym (held_up t m h q.0 is) ∙ e)) (up_again h m)),
  );
  same = λ e. let k : Some (upgraded h m) ≡ None = sym (held_up t m h q.0 is) ∙ e in absurd (cc);
}

back_new : (t : TxnId) (m : LockType) (q : Queue) → IsSettled q → has_lock t q.0 ≡ false → IsBack t None q (q.0 ++ lock_of t m ∷ [], q.1)
back_new t m q s n = record {
  back = λ k e. (ap (λ (l : List Lock). granted l q.1) (without_pushed t m q.0 n) ∙ granted_none q.1 q.0 s.waits, tt);
  same = λ e. let k : Some m ≡ None = sym (held_pushed t m q.0 n) ∙ e in absurd (cc);
}

back_same_by : (t : TxnId) (was : Option LockType) (q : Queue) → IsSettled q → held_by t q.0 ≡ was → IsBack t was q q
back_same_by t None q s is = record { back = λ h e. let k : None ≡ Some h = sym is ∙ e in absurd (cc); same = λ e. refl }
back_same_by t (Some m) q s is = record {
  back = λ h e. (
    ap (λ (l : List Lock). granted l q.1) (set_same t m q.0 (held_each t m q.0 s.owners.apart is)) ∙ granted_none q.1 q.0 s.waits,
    (can_hold t m q.0 is s.owners.held, subst (λ (x : LockType). upgraded m x ≡ x) (some_is m h (sym is ∙ e)) (up_itself m)),
  );
  same = λ e. refl;
}

back_locked : (t : TxnId) (m : LockType) (q : Queue) → IsSettled q → IsBack t (held_by t q.0) q (with_lock (lock_of t m) q.0, q.1)
back_locked t m q s =
    cond_both (can_be_held m) (cond (has_lock t q.0) (map (upgraded_by (lock_of t m)) q.0) (q.0 ++ lock_of t m ∷ [])) q.0 (λ l. IsBack t (held_by t q.0) q (l, q.1))
    (λ e. cond_both (has_lock t q.0) (map (upgraded_by (lock_of t m)) q.0) (q.0 ++ lock_of t m ∷ []) (λ l. IsBack t (held_by t q.0) q (l, q.1))
    (λ f. let h = held_some t q.0 f in subst (λ (x : Option LockType). IsBack t x q (map (upgraded_by (lock_of t m)) q.0, q.1)) (sym h.1) (back_up t m h.0 q s h.1))
    (λ f. subst (λ (x : Option LockType). IsBack t x q (q.0 ++ lock_of t m ∷ [], q.1)) (sym (held_none t q.0 f)) (back_new t m q s f)))
    (λ e. back_same_by t (held_by t q.0) q s refl)

pub not_asked : (t : TxnId) (m : LockType) (q : Queue) → is_blocked q.0 (lock_of t m) ≡ false → after_ask (lock_of t m) q ≡ (with_lock (lock_of t m) q.0, q.1)
not_asked t m q n = cond-false (is_blocked q.0 (lock_of t m)) (q.0, q.1 ++ lock_of t m ∷ []) (with_lock (lock_of t m) q.0, q.1) n

pub back_at : (t : TxnId) (m : LockType) (q : Queue) → IsSettled q → is_blocked q.0 (lock_of t m) ≡ false → IsBack t (held_by t q.0) q (after_ask (lock_of t m) q)
back_at t m q s n = subst (IsBack t (held_by t q.0) q) (sym (not_asked t m q n)) (back_locked t m q s)

-- ---- one after another
pub record AreGoing (t : TxnId) (all : List Got) (first : LockState) (left : List Got) (now : LockState) : Type 0 where
  pub some : (before : LockState) × AreGot t (reverse left) before now
  pub each : (before : LockState) → AreGot t (reverse all) before first → AreGot t (reverse left) before now

last_first : (gs : List Got) (g : Got) → reverse (gs ++ g ∷ []) ≡ g ∷ reverse gs
last_first gs g = reverse-append gs (g ∷ [])

pub going_some : (t : TxnId) (all : List Got) (first : LockState) (left rest : List Got) (last : Got) (now : LockState) → left ≡ rest ++ last ∷ [] → AreGoing t all first left now → (mid : LockState) × IsOneGot t last mid now
going_some t all first left rest last now is a =
    let g : AreGot t (last ∷ reverse rest) a.some.0 now = subst (λ (gs : List Got). AreGot t gs a.some.0 now) (ap reverse is ∙ last_first rest last) a.some.1 in (g.0, g.2)

pub going_step : (t : TxnId) (all : List Got) (first : LockState) (left rest : List Got) (last : Got) (now next : LockState) → left ≡ rest ++ last ∷ [] → AreGoing t all first left now
    → ((mid : LockState) → IsOneGot t last mid now → next ≡ mid) → AreGoing t all first rest next
going_step t all first left rest last now next is a back = record { some = (a.some.0, one a.some.0 a.some.1); each = λ before h. one before (a.each before h) }
  where
    one : (before : LockState) → AreGot t (reverse left) before now → AreGot t (reverse rest) before next
    one before h =
        let g : AreGot t (last ∷ reverse rest) before now = subst (λ (gs : List Got). AreGot t gs before now) (ap reverse is ∙ last_first rest last) h in
        subst (AreGot t (reverse rest) before) (sym (back g.0 g.2)) g.1

pub going_ends : (t : TxnId) (all : List Got) (first : LockState) (left : List Got) (now : LockState) → left ≡ [] → AreGoing t all first left now → (before : LockState) → AreGot t (reverse all) before first → now ≡ before
going_ends t all first left now is a before h = subst (λ (gs : List Got). AreGot t gs before now) (ap reverse is) (a.each before h)

-- one more was got
pub got_more : (t : TxnId) (gs more : List Got) (g : Got) (before mid now : LockState) → more ≡ gs ++ g ∷ [] → AreGot t (reverse gs) before mid → IsOneGot t g mid now → AreGot t (reverse more) before now
got_more t gs more g before mid now is a one = subst (λ (xs : List Got). AreGot t xs before now) (sym (ap reverse is ∙ last_first gs g)) (mid, a, one)

-- one lock is given back, where the transaction holds one
pub one_back : (t : TxnId) (g : Got) (v w : Locks) (h : Option LockType) → h ≡ held_by t (locks_at g.at v).0 → is_some h ≡ true
    → ((r : RecordId) → locks_at r w ≡ cond (is_record g.at r) (after_give_back t g.was (locks_at r v)) (locks_at r v)) → ((u : TxnId) → pending_at u w ≡ pending_at u v)
    → (before : LockState) → IsOneGot t g before (state_of v) → state_of w ≡ before
one_back t g v w None is some l p before o = absurd (both_ways false refl some)
one_back t g v w (Some h) is some l p before o = same_state (state_of w) before
    (λ r. ⊎_elim
    (λ e. l r ∙ (cond-true (is_record g.at r) (after_give_back t g.was (locks_at r v)) (locks_at r v) e
    ∙ subst (λ (x : RecordId). after_give_back t g.was (locks_at x v) ≡ before.at x) (record_is g.at r e) (o.here.back h (sym is)).0))
    (λ e. l r ∙ (cond-false (is_record g.at r) (after_give_back t g.was (locks_at r v)) (locks_at r v) e ∙ o.there r e))
    (cases_Bool (is_record g.at r)))
    (λ u. p u ∙ ap (λ (f : TxnId → Option RecordId). f u) o.pending)

-- and where it holds none, nothing is to be given back
pub none_back : (t : TxnId) (g : Got) (v : Locks) (h : Option LockType) → h ≡ held_by t (locks_at g.at v).0 → is_some h ≡ false → (before : LockState) → IsOneGot t g before (state_of v) → state_of v ≡ before
none_back t g v (Some h) is some before o = absurd (both_ways true some refl)
none_back t g v None is some before o = same_state (state_of v) before
    (λ r. ⊎_elim
    (λ e. subst (λ (x : RecordId). locks_at x v ≡ before.at x) (record_is g.at r e) (o.here.same (sym is)))
    (λ e. o.there r e)
    (cases_Bool (is_record g.at r)))
    (λ u. ap (λ (f : TxnId → Option RecordId). f u) o.pending)
