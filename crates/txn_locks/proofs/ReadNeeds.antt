-- READ locks that were got and go.
use Rattle.std.proofs.Common.{◌≡◌, ℕ, ◌<◌, ◌≤◌, ◌+◌, Bool, true, false, cond, not, ◌||◌, List, [], ◌∷◌, ◌++◌, length, get_or, drop, map, Some, None, Option, refl, ap, ap₂, sym, ◌∙◌, subst, ⊎_elim}
use Rattle.std.specs.List.{filter, list_any, AllByRecursion}
use Rattle.std.specs.Option.{is_some, IfSome}
use Rattle.std.proofs.lemmas.List.{drop_more, drop_all}
use Rattle.std.proofs.lemmas.Bool.{cond_both, cases_Bool, cond-true, cond-false, and_left, and_parts, both_ways, not_from_true}
use Rattle.je_order.specs.declared.txn_id.TxnId.{TxnId}
use Rattle.je_order.specs.Transactions.{is_same_txn}
use Rattle.je_order.proofs.TxnIds.{same_itself}
use Rattle.lock_mode.specs.declared.lock_type.LockType.{LockType}
use Rattle.lock_mode.specs.declared.lock_type.LockType.TheVariants.{Read, Write, RangeRead, RangeWrite, RangeInsert}
use Rattle.lock_mode.specs.Modes.{conflicts_with, upgraded, can_be_held}
use Rattle.lock_table.specs.declared.lock.Lock.{Lock}
use Rattle.lock_table.specs.declared.record_id.RecordId.{RecordId}
use Rattle.lock_table.specs.Locks.{lock_of, is_of, has_lock, without_txn, held_by, is_blocking, is_blocked, blocker, least, upgraded_by, with_lock, granted, after_ask, after_give_back, read_given_back, after_read, IsSettled}
use Rattle.lock_table.specs.Records.{is_record}
use Rattle.lock_table.specs.Table.{Locks, locks_at, pending_at}
use Rattle.lock_table.proofs.QueueMaps.{record_is}
use Rattle.lock_table.proofs.Owners.{upgraded_txn}
use Rattle.lock_table.proofs.RecordCalls.{settled_ask, granted_in, none_of}
use Rattle.lock_table.proofs.CallSteps.{blocked_some}
use Rattle.lock_mgr.specs.Deadlock.{NoDeadlock}
use Rattle.store_model.specs.declared.isolation.Isolation.{Isolation}
use Rattle.store_model.specs.declared.isolation.Isolation.TheVariants.{ReadCommitted}
use Rattle.store_model.specs.declared.need.Need.{Need}
use Rattle.je_answers.specs.Standing.{LockState}
use Rattle.je_answers.specs.Locking.{Queues, record_of, got, all_got, granted_part, first_blocked, is_stopped, owner_before}
use Rattle.txn_locks.specs.declared.got.Got.{Got}
use Rattle.txn_locks.specs.declared.locked.Locked.{Locked}
use Rattle.txn_locks.specs.declared.locked.Locked.TheVariants.{Ready, Waiting, NotAvailable, Victims}
use Rattle.txn_locks.specs.Taking.{state_of, with_got, with_all, with_granted, when_answered, is_read, are_reads, IsStoppedAt, HasToWait, IsLocked, IfAnswered, IsTaking}
use Rattle.txn_locks.specs.Undoing.{HasNoRead, AreReadsAmong}
use Rattle.txn_locks.proofs.States.{same_state, waits_nowhere}
use Rattle.txn_locks.proofs.Backs.{Queue, held_none, held_pushed, back_at, not_asked}
use Rattle.txn_locks.proofs.NeedSteps.{taking_begins, taking_more, taking_stops, taking_ends, from_place}

-- ---- own locks are in nobody's own way
up_blocks : (t : TxnId) (m a : LockType) (o : Lock) → is_blocking (lock_of t m) (upgraded_by (lock_of t a) o) ≡ is_blocking (lock_of t m) o
up_blocks t m a o = ⊎_elim
    (λ e. ap (is_blocking (lock_of t m)) (cond-true (is_of t o) (record { txn = o.txn; mode = upgraded o.mode a }) o e)
    ∙ (and_left (not (is_same_txn t o.txn)) (conflicts_with (upgraded o.mode a) m) (not_from_true (is_same_txn t o.txn) e) ∙ sym (and_left (not (is_same_txn t o.txn)) (conflicts_with o.mode m) (not_from_true (is_same_txn t o.txn) e))))
    (λ e. ap (is_blocking (lock_of t m)) (cond-false (is_of t o) (record { txn = o.txn; mode = upgraded o.mode a }) o e))
    (cases_Bool (is_of t o))

abbrev blocking : Lock → List Lock → List TxnId
blocking w os = map (λ (o : Lock). o.txn) (filter (is_blocking w) os)

cond_map : (b : Bool) (x : Lock) (xs : List Lock) → map (λ (o : Lock). o.txn) (cond b (x ∷ xs) xs) ≡ cond b (x.txn ∷ map (λ (o : Lock). o.txn) xs) (map (λ (o : Lock). o.txn) xs)
cond_map true x xs = refl
cond_map false x xs = refl

blocking_up : (t : TxnId) (m a : LockType) (os : List Lock) → blocking (lock_of t m) (map (upgraded_by (lock_of t a)) os) ≡ blocking (lock_of t m) os
blocking_up t m a [] = refl
blocking_up t m a (o ∷ os) =
    cond_map (is_blocking (lock_of t m) (upgraded_by (lock_of t a) o)) (upgraded_by (lock_of t a) o) (filter (is_blocking (lock_of t m)) (map (upgraded_by (lock_of t a)) os))
    ∙ (same (is_blocking (lock_of t m) (upgraded_by (lock_of t a) o)) (is_blocking (lock_of t m) o) (upgraded_by (lock_of t a) o).txn o.txn (up_blocks t m a o) (upgraded_txn (lock_of t a) o) (blocking_up t m a os)
    ∙ sym (cond_map (is_blocking (lock_of t m) o) o (filter (is_blocking (lock_of t m)) os)))
  where
    same : (b c : Bool) (x y : TxnId) {xs ys : List TxnId} → b ≡ c → x ≡ y → xs ≡ ys → cond b (x ∷ xs) xs ≡ cond c (y ∷ ys) ys
    same b c x y e f g = cc

blocking_pushed : (t : TxnId) (m a : LockType) (os : List Lock) → blocking (lock_of t m) (os ++ lock_of t a ∷ []) ≡ blocking (lock_of t m) os
blocking_pushed t m a [] = ap (map (λ (o : Lock). o.txn)) (cond-false (is_blocking (lock_of t m) (lock_of t a)) (lock_of t a ∷ []) [] (and_left (not (is_same_txn t t)) (conflicts_with a m) (not_from_true (is_same_txn t t) (same_itself t))))
blocking_pushed t m a (o ∷ os) =
    cond_map (is_blocking (lock_of t m) o) o (filter (is_blocking (lock_of t m)) (os ++ lock_of t a ∷ []))
    ∙ (ap (λ (xs : List TxnId). cond (is_blocking (lock_of t m) o) (o.txn ∷ xs) xs) (blocking_pushed t m a os) ∙ sym (cond_map (is_blocking (lock_of t m) o) o (filter (is_blocking (lock_of t m)) os)))

blocking_locked : (t : TxnId) (m a : LockType) (os : List Lock) → blocking (lock_of t m) (with_lock (lock_of t a) os) ≡ blocking (lock_of t m) os
blocking_locked t m a os =
    cond_both (can_be_held a) (cond (has_lock t os) (map (upgraded_by (lock_of t a)) os) (os ++ lock_of t a ∷ [])) os (λ l. blocking (lock_of t m) l ≡ blocking (lock_of t m) os)
    (λ e. cond_both (has_lock t os) (map (upgraded_by (lock_of t a)) os) (os ++ lock_of t a ∷ []) (λ l. blocking (lock_of t m) l ≡ blocking (lock_of t m) os) (λ f. blocking_up t m a os) (λ f. blocking_pushed t m a os))
    (λ e. refl)

-- who is in the transaction's way is the same
abbrev pub HaveSameOwners : TxnId → Queues → Queues → Type 0
HaveSameOwners t a b = (r : RecordId) (m : LockType) → blocker (lock_of t m) (a r).0 ≡ blocker (lock_of t m) (b r).0

same_got : (t : TxnId) (n : Need) (a b : Queues) → HaveSameOwners t a b → owner_before t n a ≡ None → HaveSameOwners t (got t n a) b
same_got t n a b same free r m = ⊎_elim
    (λ e. let f : is_blocked (a r).0 (lock_of t n.asked) ≡ false = subst (λ (x : RecordId). is_blocked (a x).0 (lock_of t n.asked) ≡ false) (record_is (record_of n) r e) (blocked_some (lock_of t n.asked) (a (record_of n)).0 ∙ ap is_some free) in
    ap (λ (q : Queue). blocker (lock_of t m) q.0) (cond-true (is_record (record_of n) r) (after_ask (lock_of t n.asked) (a r)) (a r) e ∙ not_asked t n.asked (a r) f)
    ∙ (ap least (blocking_locked t m n.asked (a r).0) ∙ same r m))
    (λ e. ap (λ (q : Queue). blocker (lock_of t m) q.0) (cond-false (is_record (record_of n) r) (after_ask (lock_of t n.asked) (a r)) (a r) e) ∙ same r m)
    (cases_Bool (is_record (record_of n) r))

-- ---- needs that are tested and not taken: as if those that were passed had been granted
pub record ArePassed (t : TxnId) (needs rest : List Need) (s : LockState) : Type 0 where
  pub now : LockState
  pub taking : IsTaking t needs rest s now
  pub same : HaveSameOwners t now.at s.at

pub passed_begins : (t : TxnId) (needs rest : List Need) (s : LockState) → rest ≡ needs → ArePassed t needs rest s
passed_begins t needs rest s is = record { now = s; taking = subst (λ (ns : List Need). IsTaking t needs ns s s) (sym is) (taking_begins t needs s); same = λ r m. refl }

pub passed_more : (t : TxnId) (needs left rest : List Need) (n : Need) (s : LockState) → left ≡ n ∷ rest → ArePassed t needs left s → owner_before t n s.at ≡ None → ArePassed t needs rest s
passed_more t needs left rest n s is p free =
    let f : owner_before t n p.now.at ≡ None = p.same (record_of n) n.asked ∙ free in
    record {
      now = with_got t n p.now;
      taking = taking_more t needs rest n s p.now (subst (λ (ns : List Need). IsTaking t needs ns s p.now) is p.taking) f;
      same = same_got t n p.now.at s.at p.same f;
    }

pub passed_stops : (t : TxnId) (needs left rest : List Need) (n : Need) (owner : TxnId) (s : LockState) → left ≡ n ∷ rest → ArePassed t needs left s → owner_before t n s.at ≡ Some owner → IsStoppedAt t needs s n owner
passed_stops t needs left rest n owner s is p stops = (taking_stops t needs rest n owner s p.now (subst (λ (ns : List Need). IsTaking t needs ns s p.now) is p.taking) (p.same (record_of n) n.asked ∙ stops)).0

pub passed_ends : (t : TxnId) (needs left : List Need) (s : LockState) → left ≡ [] → ArePassed t needs left s → first_blocked t needs s.at ≡ None
passed_ends t needs left s is p = (taking_ends t needs left s p.now is p.taking).0

-- ---- READ that was got goes
up_read : (m : LockType) → can_be_held m ≡ true → upgraded m Read ≡ m
up_read Read h = refl
up_read Write h = refl
up_read RangeRead h = refl
up_read RangeWrite h = refl
up_read RangeInsert h = absurd (both_ways false refl h)

up_read_one : (t : TxnId) (o : Lock) → can_be_held o.mode ≡ true → upgraded_by (lock_of t Read) o ≡ o
up_read_one t o h = cond_both (is_of t o) (record { txn = o.txn; mode = upgraded o.mode Read }) o (λ l. l ≡ o) (λ e. ap (λ (m : LockType). record { txn = o.txn; mode = m }) (up_read o.mode h)) (λ e. refl)

up_read_all : (t : TxnId) (os : List Lock) → AllByRecursion (λ o. can_be_held o.mode ≡ true) os → map (upgraded_by (lock_of t Read)) os ≡ os
up_read_all t [] all = refl
up_read_all t (o ∷ os) all = ap₂ (λ (x : Lock) xs. x ∷ xs) (up_read_one t o all.0) (up_read_all t os all.1)

pub read_asked : (t : TxnId) (q : Queue) → IsSettled q → is_blocked q.0 (lock_of t Read) ≡ false → after_read t (after_ask (lock_of t Read) q) ≡ after_read t q
read_asked t q s n = ⊎_elim
    (λ e. ap (after_read t) (not_asked t Read q n ∙ ap (λ (os : List Lock). (os, q.1)) (cond-true (has_lock t q.0) (map (upgraded_by (lock_of t Read)) q.0) (q.0 ++ lock_of t Read ∷ []) e ∙ up_read_all t q.0 s.owners.held)))
    (λ e. let none : held_by t q.0 ≡ None = held_none t q.0 e in
    let is : after_ask (lock_of t Read) q ≡ (q.0 ++ lock_of t Read ∷ [], q.1) = not_asked t Read q n ∙ ap (λ (os : List Lock). (os, q.1)) (cond-false (has_lock t q.0) (map (upgraded_by (lock_of t Read)) q.0) (q.0 ++ lock_of t Read ∷ []) e) in
    let held : held_by t (after_ask (lock_of t Read) q).0 ≡ Some Read = ap (λ (p : Queue). held_by t p.0) is ∙ held_pushed t Read q.0 e in
    let back : after_give_back t None (after_ask (lock_of t Read) q) ≡ q = ap (λ (was : Option LockType). after_give_back t was (after_ask (lock_of t Read) q)) (sym none) ∙ ((back_at t Read q s n).back Read held).0 in
    ap (λ (o : Option LockType). read_given_back t o (after_ask (lock_of t Read) q)) held ∙ (back ∙ sym (ap (λ (o : Option LockType). read_given_back t o q) none)))
    (cases_Bool (has_lock t q.0))

read_asked_by : (t : TxnId) (m : LockType) (q : Queue) → m ≡ Read → IsSettled q → is_blocked q.0 (lock_of t m) ≡ false → after_read t (after_ask (lock_of t m) q) ≡ after_read t q
read_asked_by t m q is s n = subst (λ (x : LockType). after_read t (after_ask (lock_of t x) q) ≡ after_read t q) (sym is) (read_asked t q s (subst (λ (x : LockType). is_blocked q.0 (lock_of t x) ≡ false) is n))

-- records that are settled, on which the transaction does not wait
pub record AreFreeFor (t : TxnId) (at : Queues) : Type 0 where
  pub settled : (r : RecordId) → IsSettled (at r)
  pub none : (r : RecordId) → has_lock t (at r).1 ≡ false

blocked_there : (t : TxnId) (n : Need) (at : Queues) (r : RecordId) → is_record (record_of n) r ≡ true → is_stopped t n at ≡ false → is_blocked (at r).0 (lock_of t n.asked) ≡ false
blocked_there t n at r e f = subst (λ (x : RecordId). is_blocked (at x).0 (lock_of t n.asked) ≡ false) (record_is (record_of n) r e) f

free_got : (t : TxnId) (n : Need) (at : Queues) → is_stopped t n at ≡ false → AreFreeFor t at → AreFreeFor t (got t n at)
free_got t n at f a = record {
  settled = λ r. cond_both (is_record (record_of n) r) (after_ask (lock_of t n.asked) (at r)) (at r) IsSettled (λ e. settled_ask (lock_of t n.asked) (at r) (a.settled r) (a.none r)) (λ e. a.settled r);
  none = λ r. cond_both (is_record (record_of n) r) (after_ask (lock_of t n.asked) (at r)) (at r) (λ q. has_lock t q.1 ≡ false)
      (λ e. ap (λ (q : Queue). has_lock t q.1) (not_asked t n.asked (at r) (blocked_there t n at r e f)) ∙ a.none r) (λ e. a.none r);
}

is_read_is : (m : LockType) → is_read m ≡ true → m ≡ Read
is_read_is Read h = refl
is_read_is Write h = absurd (both_ways false refl h)
is_read_is RangeRead h = absurd (both_ways false refl h)
is_read_is RangeWrite h = absurd (both_ways false refl h)
is_read_is RangeInsert h = absurd (both_ways false refl h)

-- what READ needs took goes when the call is answered
pub reads_go : (t : TxnId) (needs : List Need) (at : Queues) → are_reads needs ≡ true → AreFreeFor t at → (r : RecordId) → after_read t (all_got t (granted_part t needs at) at r) ≡ after_read t (at r)
reads_go t [] at reads a r = refl
reads_go t (n ∷ ns) at reads a r =
    let p = and_parts (is_read n.asked) (are_reads ns) reads in
    cond_both (is_stopped t n at) [] (n ∷ granted_part t ns (got t n at)) (λ l. after_read t (all_got t l at r) ≡ after_read t (at r))
    (λ e. refl)
    (λ e. reads_go t ns (got t n at) p.1 (free_got t n at e a) r
    ∙ cond_both (is_record (record_of n) r) (after_ask (lock_of t n.asked) (at r)) (at r) (λ q. after_read t q ≡ after_read t (at r))
    (λ i. read_asked_by t n.asked (at r) (is_read_is n.asked p.0) (a.settled r) (blocked_there t n at r i e)) (λ i. refl))

-- where no need is stopped, all are granted
pub all_granted : (t : TxnId) (needs : List Need) (at : Queues) → first_blocked t needs at ≡ None → granted_part t needs at ≡ needs
all_granted t [] at none = refl
all_granted t (n ∷ ns) at none = ⊎_elim
    (λ e. let k : Some n ≡ None = sym (cond-true (is_stopped t n at) (Some n) (first_blocked t ns (got t n at)) e) ∙ none in absurd (cc))
    (λ e. cond-false (is_stopped t n at) [] (n ∷ granted_part t ns (got t n at)) e
    ∙ ap (λ (l : List Need). n ∷ l) (all_granted t ns (got t n at) (sym (cond-false (is_stopped t n at) (Some n) (first_blocked t ns (got t n at)) e) ∙ none)))
    (cases_Bool (is_stopped t n at))

-- the same as states
pub reads_leave : (t : TxnId) (needs : List Need) (s : LockState) → are_reads needs ≡ true → AreFreeFor t s.at → when_answered ReadCommitted t s ≡ when_answered ReadCommitted t (with_granted t needs s)
reads_leave t needs s reads a = same_state (when_answered ReadCommitted t s) (when_answered ReadCommitted t (with_granted t needs s)) (λ r. sym (reads_go t needs s.at reads a r)) (λ u. refl)

pub reads_leave_all : (t : TxnId) (needs : List Need) (s : LockState) → are_reads needs ≡ true → AreFreeFor t s.at → first_blocked t needs s.at ≡ None → when_answered ReadCommitted t s ≡ when_answered ReadCommitted t (with_all t needs s)
reads_leave_all t needs s reads a none = reads_leave t needs s reads a ∙ ap (λ (l : List Need). when_answered ReadCommitted t (with_all t l s)) (all_granted t needs s.at none)

-- ---- READ that a call got goes, record by record
-- what is gone goes no further
again_by : (t : TxnId) (held : Option LockType) (q : Queue) → held_by t q.0 ≡ held → has_lock t q.1 ≡ false → after_read t (read_given_back t held q) ≡ read_given_back t held q
again_by t None q e n = ap (λ o. read_given_back t o q) e
again_by t (Some Read) q e n = ap (λ o. read_given_back t o (after_give_back t None q)) (held_none t (granted (without_txn t q.0) q.1).0 (granted_in t q.1 (without_txn t q.0) (none_of t q.0) n))
again_by t (Some Write) q e n = ap (λ o. read_given_back t o q) e
again_by t (Some RangeRead) q e n = ap (λ o. read_given_back t o q) e
again_by t (Some RangeWrite) q e n = ap (λ o. read_given_back t o q) e
again_by t (Some RangeInsert) q e n = ap (λ o. read_given_back t o q) e

read_again : (t : TxnId) (q : Queue) → has_lock t q.1 ≡ false → after_read t (after_read t q) ≡ after_read t q
read_again t q n = again_by t (held_by t q.0) q refl n

abbrev pub are_at : List Got → RecordId → Bool
are_at gs r = list_any (λ g. is_record g.at r) gs

-- READ goes from the records of these locks
abbrev pub reads_gone : TxnId → List Got → Queues → Queues
reads_gone t gs at r = cond (are_at gs r) (after_read t (at r)) (at r)

pub gone_more : (t : TxnId) (left rest : List Got) (g : Got) (now next : Queues) → left ≡ g ∷ rest → ((r : RecordId) → has_lock t (now r).1 ≡ false)
    → ((r : RecordId) → next r ≡ cond (is_record g.at r) (after_read t (now r)) (now r)) → (r : RecordId) → reads_gone t rest next r ≡ reads_gone t left now r
gone_more t left rest g now next is none n r =
    ap (λ (q : Queue). cond (are_at rest r) (after_read t q) q) (n r)
    ∙ (by (are_at rest r) (is_record g.at r) ∙ ap (λ (gs : List Got). reads_gone t gs now r) (sym is))
  where
    by : (any this : Bool) → cond any (after_read t (cond this (after_read t (now r)) (now r))) (cond this (after_read t (now r)) (now r)) ≡ cond (this || any) (after_read t (now r)) (now r)
    by true true = read_again t (now r) (none r)
    by true false = refl
    by false true = refl
    by false false = refl

more_stays_by : (t : TxnId) (held : Option LockType) (q : Queue) → (held ≡ Some Read → ⊥) → read_given_back t held q ≡ q
more_stays_by t None q n = refl
more_stays_by t (Some Read) q n = absurd (n refl)
more_stays_by t (Some Write) q n = refl
more_stays_by t (Some RangeRead) q n = refl
more_stays_by t (Some RangeWrite) q n = refl
more_stays_by t (Some RangeInsert) q n = refl

-- where these are all the READ locks of the transaction, each is gone
pub gone_all : (t : TxnId) (gs : List Got) (at : Queues) → AreReadsAmong t gs at → (r : RecordId) → reads_gone t gs at r ≡ after_read t (at r)
gone_all t gs at among r = cond_both (are_at gs r) (after_read t (at r)) (at r) (λ q. q ≡ after_read t (at r)) (λ e. refl)
    (λ e. sym (more_stays_by t (held_by t (at r).0) (at r) (λ h. both_ways (are_at gs r) e (among r h))))

-- ---- what the code has
pub free_for : (t : TxnId) (v : Locks) → NoDeadlock v → pending_at t v ≡ None → AreFreeFor t (λ r. locks_at r v)
free_for t v s none = record { settled = s.sound.settled; none = waits_nowhere t v s none }

-- a need at a place, whose least blocker is known
pub passed_next : (t : TxnId) (needs : List Need) (i : ℕ) (n : Need) (at : RecordId) (owner : Option TxnId) (s : LockState) → i < length needs → n ≡ get_or needs i n → at ≡ record_of n → owner ≡ blocker (lock_of t n.asked) (s.at at).0 → is_some owner ≡ false
    → ArePassed t needs (drop i needs) s → ArePassed t needs (drop (i + 1) needs) s
passed_next t needs i n at None s within is e b some p = passed_more t needs (drop i needs) (drop (i + 1) needs) n s (from_place needs i n within is) p (sym (b ∙ ap (λ (x : RecordId). blocker (lock_of t n.asked) (s.at x).0) e))
passed_next t needs i n at (Some o) s within is e b some p = absurd (both_ways true some refl)

pub passed_halts : (t : TxnId) (needs : List Need) (i : ℕ) (n : Need) (at : RecordId) (owner : Option TxnId) (s : LockState) → i < length needs → n ≡ get_or needs i n → at ≡ record_of n → owner ≡ blocker (lock_of t n.asked) (s.at at).0
    → ArePassed t needs (drop i needs) s → IfSome owner (λ o. (m : Need) × IsStoppedAt t needs s m o)
passed_halts t needs i n at None s within is e b p = tt
passed_halts t needs i n at (Some o) s within is e b p = (n, passed_stops t needs (drop i needs) (drop (i + 1) needs) n o s (from_place needs i n within is) p (sym (b ∙ ap (λ (x : RecordId). blocker (lock_of t n.asked) (s.at x).0) e)))

pub passed_over : (t : TxnId) (needs : List Need) (i : ℕ) (s : LockState) → length needs ≤ i → ArePassed t needs (drop i needs) s → first_blocked t needs s.at ≡ None
passed_over t needs i s past p = passed_ends t needs (drop i needs) s (drop_all i needs past) p

-- READ is gone from the records of the locks that were passed, and will be from the others
pub record AreGoing (t : TxnId) (gs : List Got) (i : ℕ) (old now : Locks) : Type 0 where
  pub at : (r : RecordId) → reads_gone t (drop i gs) (λ x. locks_at x now) r ≡ reads_gone t gs (λ x. locks_at x old) r
  pub pending : (u : TxnId) → pending_at u now ≡ pending_at u old

pub going_next : (t : TxnId) (gs : List Got) (i : ℕ) (g : Got) (old now next : Locks) → i < length gs → g ≡ get_or gs i g → pending_at t old ≡ None → NoDeadlock now → AreGoing t gs i old now
    → ((r : RecordId) → locks_at r next ≡ cond (is_record g.at r) (after_read t (locks_at r now)) (locks_at r now)) → ((u : TxnId) → pending_at u next ≡ pending_at u now) → AreGoing t gs (i + 1) old next
going_next t gs i g old now next within is none s k n p = record {
  at = λ r. gone_more t (drop i gs) (drop (i + 1) gs) g (λ x. locks_at x now) (λ x. locks_at x next) (drop_more gs i g within ∙ ap (λ (x : Got). x ∷ drop (i + 1) gs) (sym is)) (waits_nowhere t now s (k.pending t ∙ none)) n r ∙ k.at r;
  pending = λ u. p u ∙ k.pending u;
}

pub going_over : (t : TxnId) (gs : List Got) (i : ℕ) (old now : Locks) → length gs ≤ i → AreGoing t gs i old now → (r : RecordId) → locks_at r now ≡ cond (are_at gs r) (after_read t (locks_at r old)) (locks_at r old)
going_over t gs i old now past k r = sym (ap (λ (xs : List Got). reads_gone t xs (λ x. locks_at x now) r) (drop_all i gs past)) ∙ k.at r

-- a call is answered at read committed
pub answered_all : (t : TxnId) (v w : Locks) → ((r : RecordId) → locks_at r w ≡ after_read t (locks_at r v)) → ((u : TxnId) → pending_at u w ≡ pending_at u v) → state_of w ≡ when_answered ReadCommitted t (state_of v)
answered_all t v w l p = same_state (state_of w) (when_answered ReadCommitted t (state_of v)) l p

pub answered_each : (t : TxnId) (gs : List Got) (v w : Locks) → AreReadsAmong t gs (λ r. locks_at r v) → ((r : RecordId) → locks_at r w ≡ cond (are_at gs r) (after_read t (locks_at r v)) (locks_at r v)) → ((u : TxnId) → pending_at u w ≡ pending_at u v)
    → state_of w ≡ when_answered ReadCommitted t (state_of v)
answered_each t gs v w among l p = answered_all t v w (λ r. l r ∙ gone_all t gs (λ x. locks_at x v) among r) p

pub at_level : (level : Isolation) (t : TxnId) (v w : Locks) → level ≡ ReadCommitted → state_of w ≡ when_answered ReadCommitted t (state_of v) → state_of w ≡ when_answered level t (state_of v)
at_level level t v w is h = h ∙ ap (λ (l : Isolation). when_answered l t (state_of v)) (sym is)

-- none is left
none_left_by : (t : TxnId) (held : Option LockType) (q : Queue) → held_by t q.0 ≡ held → has_lock t q.1 ≡ false → held_by t (read_given_back t held q).0 ≡ Some Read → ⊥
none_left_by t None q e n h = let k : None ≡ Some Read = sym e ∙ h in cc
none_left_by t (Some Read) q e n h =
    let k : None ≡ Some Read = sym (held_none t (granted (without_txn t q.0) q.1).0 (granted_in t q.1 (without_txn t q.0) (none_of t q.0) n)) ∙ h in cc
none_left_by t (Some Write) q e n h = let k : Some Write ≡ Some Read = sym e ∙ h in cc
none_left_by t (Some RangeRead) q e n h = let k : Some RangeRead ≡ Some Read = sym e ∙ h in cc
none_left_by t (Some RangeWrite) q e n h = let k : Some RangeWrite ≡ Some Read = sym e ∙ h in cc
none_left_by t (Some RangeInsert) q e n h = let k : Some RangeInsert ≡ Some Read = sym e ∙ h in cc

pub none_left : (level : Isolation) (t : TxnId) (v w : Locks) → NoDeadlock v → pending_at t v ≡ None → state_of w ≡ when_answered level t (state_of v) → level ≡ ReadCommitted → HasNoRead t (λ r. locks_at r w)
none_left level t v w s none e is r h =
    let a : state_of w ≡ when_answered ReadCommitted t (state_of v) = e ∙ ap (λ (l : Isolation). when_answered l t (state_of v)) is in
    let b : locks_at r w ≡ after_read t (locks_at r v) = ap (λ (x : LockState). x.at r) a in
    none_left_by t (held_by t (locks_at r v).0) (locks_at r v) refl (waits_nowhere t v s none r) (sym (ap (λ (q : Queue). held_by t q.0) b) ∙ h)

-- ---- a call that takes nothing
-- one that has to wait is not answered
pub not_answered : (locked : Locked) (level : Isolation) (t : TxnId) (needs : List Need) (wait : Bool) (s next : LockState) (P : Type 0) → HasToWait t needs wait s → IsLocked locked level t needs wait s next → IfAnswered locked P
not_answered Ready level t needs wait s next P h l = let k : None ≡ Some h.need = sym l.0 ∙ h.stopped.first in absurd (cc)
not_answered (NotAvailable owner) level t needs wait s next P h l = absurd (both_ways wait l.0 h.waits)
not_answered (Waiting at owner) level t needs wait s next P h l = tt
not_answered (Victims at owner victims) level t needs wait s next P h l = tt
