-- One need after another.
use Rattle.std.proofs.Common.{◌≡◌, ℕ, ◌<◌, ◌+◌, Bool, true, false, cond, not, ◌&&◌, ◌||◌, reverse, List, [], ◌∷◌, ◌++◌, length, get_or, drop, map, Some, None, Option, refl, ap, sym, ◌∙◌, subst, ⊎_elim, inl, inr}
use Rattle.std.specs.List.{slice_get, list_any, AllByRecursion}
use Rattle.std.specs.Option.{is_some, IfNone, IfSome}
use Rattle.std.proofs.lemmas.List.{drop_more}
use Rattle.std.proofs.lemmas.List.Folds.{list_any-append}
use Rattle.std.proofs.lemmas.Option.{slice_get-get_or}
use mathlib.Core.Path.{fun_ext}
use Rattle.std.proofs.lemmas.Bool.{cases_Bool, both_ways, cond-true, cond-false, or_from, or_left, or_right}
use Rattle.je_order.specs.declared.txn_id.TxnId.{TxnId}
use Rattle.lock_table.specs.declared.lock.Lock.{Lock}
use Rattle.lock_table.specs.declared.record_id.RecordId.{RecordId}
use Rattle.lock_mode.specs.declared.lock_type.LockType.{LockType}
use Rattle.lock_mode.specs.declared.lock_type.LockType.TheVariants.{Read, Write, RangeRead, RangeWrite, RangeInsert}
use Rattle.lock_mode.specs.Modes.{conflicts_with}
use Rattle.je_order.specs.Transactions.{is_same_txn}
use Rattle.lock_table.specs.Locks.{lock_of, held_by, is_range, is_blocking, is_blocked, with_lock, after_ask}
use Rattle.lock_table.specs.Records.{is_record}
use Rattle.lock_table.proofs.CallSteps.{blocked_some}
use Rattle.lock_mgr.specs.Deadlock.{AreVictims}
use Rattle.store_model.specs.declared.isolation.Isolation.{Isolation}
use Rattle.store_model.specs.declared.need.Need.{Need}
use Rattle.je_answers.specs.Standing.{LockState}
use Rattle.je_answers.specs.Locking.{Queues, record_of, got, all_got, granted_part, first_blocked, is_stopped, owner_before, waits_in, with_wait}
use Rattle.txn_locks.specs.declared.locked.Locked.{Locked}
use Rattle.txn_locks.specs.declared.locked.Locked.TheVariants.{Ready, Waiting, NotAvailable, Victims}
use Rattle.txn_locks.specs.declared.got.Got.{Got}
use Rattle.txn_locks.specs.Taking.{with_got, with_all, with_granted, when_answered, IsStoppedAt, IsLocked, IfAnswered, IsStop, IsTurn, IsTaking}
use Rattle.txn_locks.specs.Undoing.{IsOneGot, NotesGot, AreGot, HasNoRead, AreReadsAmong}
use Rattle.txn_locks.proofs.Backs.{got_more}

-- a need is stopped exactly where there is a least owner in its way
stopped_is : (t : TxnId) (n : Need) (at : Queues) → is_stopped t n at ≡ is_some (owner_before t n at)
stopped_is t n at = blocked_some (lock_of t n.asked) (at (record_of n)).0

pub taking_begins : (t : TxnId) (needs : List Need) (s : LockState) → IsTaking t needs needs s s
taking_begins t needs s = record { first = refl; granted = refl; all = refl; pending = refl }

-- a need that was granted
pub taking_more : (t : TxnId) (needs rest : List Need) (n : Need) (s now : LockState) → IsTaking t needs (n ∷ rest) s now → owner_before t n now.at ≡ None → IsTaking t needs rest s (with_got t n now)
taking_more t needs rest n s now k free =
    let f : is_stopped t n now.at ≡ false = stopped_is t n now.at ∙ ap is_some free in
    record {
      first = sym (cond-false (is_stopped t n now.at) (Some n) (first_blocked t rest (got t n now.at)) f) ∙ k.first;
      granted = sym (ap (λ (ns : List Need). all_got t ns now.at) (cond-false (is_stopped t n now.at) [] (n ∷ granted_part t rest (got t n now.at)) f)) ∙ k.granted;
      all = k.all;
      pending = k.pending;
    }

-- a need that is stopped
pub taking_stops : (t : TxnId) (needs rest : List Need) (n : Need) (owner : TxnId) (s now : LockState) → IsTaking t needs (n ∷ rest) s now → owner_before t n now.at ≡ Some owner → IsStoppedAt t needs s n owner × (now ≡ with_granted t needs s)
taking_stops t needs rest n owner s now k is =
    let f : is_stopped t n now.at ≡ true = stopped_is t n now.at ∙ ap is_some is in
    let at : now.at ≡ all_got t (granted_part t needs s.at) s.at = sym (ap (λ (ns : List Need). all_got t ns now.at) (cond-true (is_stopped t n now.at) [] (n ∷ granted_part t rest (got t n now.at)) f)) ∙ k.granted in (
      record {
        first = sym k.first ∙ cond-true (is_stopped t n now.at) (Some n) (first_blocked t rest (got t n now.at)) f;
        least = ap (owner_before t n) (sym at) ∙ is;
      },
      same now s at k.pending,
    )
  where
    same : (a b : LockState) {f : Queues} → a.at ≡ f → a.pending ≡ b.pending → a ≡ record { at = f; pending = b.pending }
    same a b {f} e p = ap (λ (x : Queues). record { at = x; pending = a.pending }) e ∙ ap (λ (x : TxnId → Option RecordId). record { at = f; pending = x }) p

-- the last need was granted
pub taking_ends : (t : TxnId) (needs rest : List Need) (s now : LockState) → rest ≡ [] → IsTaking t needs rest s now → (first_blocked t needs s.at ≡ None) × (now ≡ with_all t needs s)
taking_ends t needs rest s now is k =
    let e : IsTaking t needs [] s now = subst (λ (ns : List Need). IsTaking t needs ns s now) is k in
    (sym e.first, ap (λ (x : Queues). record { at = x; pending = now.pending }) e.all ∙ ap (λ (x : TxnId → Option RecordId). record { at = all_got t needs s.at; pending = x }) e.pending)

-- ---- the loop over needs
pub record IsLocking (t : TxnId) (needs : List Need) (i : ℕ) (s now : LockState) (gs : List Got) : Type 0 where
  pub taking : IsTaking t needs (drop i needs) s now
  pub got : AreGot t (reverse gs) s now
  pub reads : HasNoRead t s.at → AreReadsAmong t gs now.at

pub locking_begins : (t : TxnId) (needs : List Need) (s : LockState) (gs : List Got) → gs ≡ [] → IsLocking t needs 0 s s gs
locking_begins t needs s gs is = record {
  taking = taking_begins t needs s;
  got = subst (λ (xs : List Got). AreGot t (reverse xs) s s) (sym is) refl;
  reads = λ none r h. absurd (none r h);
}

-- the list from a place on
pub from_place : (needs : List Need) (i : ℕ) (n : Need) → i < length needs → n ≡ get_or needs i n → drop i needs ≡ n ∷ drop (i + 1) needs
from_place needs i n within is = drop_more needs i n within ∙ ap (λ (x : Need). x ∷ drop (i + 1) needs) (sym is)

reads_more : (t : TxnId) (gs : List Got) (g : Got) (now next : LockState) → AreReadsAmong t gs now.at → IsOneGot t g now next → AreReadsAmong t (gs ++ g ∷ []) next.at
reads_more t gs g now next among one r h = list_any-append (λ (x : Got). is_record x.at r) gs (g ∷ []) ∙ ⊎_elim
    (λ e. or_right (list_any (λ (x : Got). is_record x.at r) gs) (is_record g.at r || false) (or_left (is_record g.at r) false e))
    (λ e. or_left (list_any (λ (x : Got). is_record x.at r) gs) (is_record g.at r || false) (among r (sym (ap (λ (q : List Lock × List Lock). held_by t q.0) (one.there r e)) ∙ h)))
    (cases_Bool (is_record g.at r))

pub locking_step : (t : TxnId) (needs : List Need) (i : ℕ) (n : Need) (s now next : LockState) (gs more : List Got) → i < length needs → n ≡ get_or needs i n → IsLocking t needs i s now gs
    → (owner_before t n now.at ≡ None) × (next ≡ with_got t n now) → NotesGot t n gs more now next → IsLocking t needs (i + 1) s next more
locking_step t needs i n s now next gs more within is k turn put = record {
  taking = subst (IsTaking t needs (drop (i + 1) needs) s) (sym turn.1) (taking_more t needs (drop (i + 1) needs) n s now (subst (λ (ns : List Need). IsTaking t needs ns s now) (from_place needs i n within is) k.taking) turn.0);
  got = both_got put;
  reads = both_reads put;
}
  where
    both_got : NotesGot t n gs more now next → AreGot t (reverse more) s next
    both_got (inl p) = got_more t gs more p.0 s now next p.2 k.got p.3
    both_got (inr p) = subst (λ (xs : List Got). AreGot t (reverse xs) s next) (sym p.0) (subst (AreGot t (reverse gs) s) (sym p.1) k.got)

    both_reads : NotesGot t n gs more now next → HasNoRead t s.at → AreReadsAmong t more next.at
    both_reads (inl p) none = subst (λ (xs : List Got). AreReadsAmong t xs next.at) (sym p.2) (reads_more t gs p.0 now next (k.reads none) p.3)
    both_reads (inr p) none = subst (λ (xs : List Got). AreReadsAmong t xs next.at) (sym p.0) (subst (λ (x : LockState). AreReadsAmong t gs x.at) (sym p.1) (k.reads none))

-- the same where the turn's answer is a value that is none
pub locking_goes : (t : TxnId) (needs : List Need) (i : ℕ) (n : Need) (wait : Bool) (stop : Option Locked) (s now next : LockState) (gs more : List Got) → stop ≡ None → i < length needs → n ≡ get_or needs i n → IsLocking t needs i s now gs
    → IsTurn stop t n i wait now next → IfNone stop (NotesGot t n gs more now next) → IsLocking t needs (i + 1) s next more
locking_goes t needs i n wait None s now next gs more none within is k turn put = locking_step t needs i n s now next gs more within is k turn put
locking_goes t needs i n wait (Some x) s now next gs more none within is k turn put = absurd (cc (none))

-- ---- where the loop stops
abbrev pub IsLockedAt : Locked → TxnId → List Need → Bool → LockState → LockState → List Got → Type 0
IsLockedAt locked t needs wait s next gs =
    ((level : Isolation) → IsLocked locked level t needs wait s next) × IfAnswered locked (AreGot t (reverse gs) s next) × IfAnswered locked (HasNoRead t s.at → AreReadsAmong t gs next.at)

there_is : (needs : List Need) (i at : ℕ) (n : Need) → at ≡ i → i < length needs → n ≡ get_or needs i n → slice_get needs at ≡ Some n
there_is needs i at n e within is = ap (slice_get needs) e ∙ (slice_get-get_or needs i n within ∙ ap Some (sym is))

pub locking_stops : (t : TxnId) (needs : List Need) (i : ℕ) (n : Need) (wait : Bool) (locked : Locked) (s now next : LockState) (gs more : List Got) → i < length needs → n ≡ get_or needs i n → more ≡ gs → IsLocking t needs i s now gs
    → IsStop locked t n i wait now next → IsLockedAt locked t needs wait s next more
locking_stops t needs i n wait Ready s now next gs more within is same k stop = absurd stop
locking_stops t needs i n wait (NotAvailable owner) s now next gs more within is same k stop =
    let e = taking_stops t needs (drop (i + 1) needs) n owner s now (subst (λ (ns : List Need). IsTaking t needs ns s now) (from_place needs i n within is) k.taking) stop.1 in (
      λ level. (stop.0, record { need = n; stopped = e.0; locks = ap (when_answered level t) (stop.2 ∙ e.1) }),
      subst (λ (xs : List Got). AreGot t (reverse xs) s next) (sym same) (subst (AreGot t (reverse gs) s) (sym stop.2) k.got),
      λ none. subst (λ (xs : List Got). AreReadsAmong t xs next.at) (sym same) (subst (λ (x : LockState). AreReadsAmong t gs x.at) (sym stop.2) (k.reads none)),
    )
locking_stops t needs i n wait (Waiting at owner) s now next gs more within is same k stop =
    let e = taking_stops t needs (drop (i + 1) needs) n owner s now (subst (λ (ns : List Need). IsTaking t needs ns s now) (from_place needs i n within is) k.taking) stop.2 in (
      λ level. (
        stop.0,
        record {
          need = n;
          there = there_is needs i at n stop.1 within is;
          stopped = e.0;
          each = subst (λ (x : LockState). AreVictims t (waits_in (lock_of t n.asked) (record_of n) x) []) e.1 stop.3;
          locks = stop.4 ∙ ap (with_wait t n []) e.1;
        },
      ),
      tt,
      tt,
    )
locking_stops t needs i n wait (Victims at owner victims) s now next gs more within is same k stop =
    let e = taking_stops t needs (drop (i + 1) needs) n owner s now (subst (λ (ns : List Need). IsTaking t needs ns s now) (from_place needs i n within is) k.taking) stop.3 in (
      λ level. (
        stop.0,
        stop.2,
        record {
          need = n;
          there = there_is needs i at n stop.1 within is;
          stopped = e.0;
          each = subst (λ (x : LockState). AreVictims t (waits_in (lock_of t n.asked) (record_of n) x) victims) e.1 stop.4;
          locks = stop.5 ∙ ap (with_wait t n (map (λ v. v.0) victims)) e.1;
        },
      ),
      tt,
      tt,
    )

-- the same where the turn's answer is a value that is some
pub locking_halts : (t : TxnId) (needs : List Need) (i : ℕ) (n : Need) (wait : Bool) (stop : Option Locked) (locked : Locked) (s now next : LockState) (gs more : List Got) → stop ≡ Some locked → i < length needs → n ≡ get_or needs i n
    → IsLocking t needs i s now gs → IsTurn stop t n i wait now next → IfSome stop (λ x. more ≡ gs) → IsLockedAt locked t needs wait s next more
locking_halts t needs i n wait None locked s now next gs more some within is k turn same = absurd (cc (some))
locking_halts t needs i n wait (Some x) locked s now next gs more some within is k turn same =
    subst (λ (l : Locked). IsLockedAt l t needs wait s next more) (inner some) (locking_stops t needs i n wait x s now next gs more within is same k turn)
  where
    inner : Some x ≡ Some locked → x ≡ locked
    inner e = cc

-- ---- a need of RANGE_INSERT where no owner has a lock of a range type
no_range : (t : TxnId) (os : List Lock) → AllByRecursion (λ o. is_range o.mode ≡ false) os → is_blocked os (lock_of t RangeInsert) ≡ false
no_range t [] all = refl
no_range t (o ∷ os) all = or_from (is_blocking (lock_of t RangeInsert) o) (is_blocked os (lock_of t RangeInsert)) (clear o all.0) (no_range t os all.1)
  where
    and_false : (b : Bool) → (b && false) ≡ false
    and_false true = refl
    and_false false = refl

    by_type : (b : Bool) (m : LockType) → is_range m ≡ false → (b && conflicts_with m RangeInsert) ≡ false
    by_type b Read h = and_false b
    by_type b Write h = and_false b
    by_type b RangeRead h = absurd (both_ways true h refl)
    by_type b RangeWrite h = absurd (both_ways true h refl)
    by_type b RangeInsert h = and_false b

    clear : (o : Lock) → is_range o.mode ≡ false → is_blocking (lock_of t RangeInsert) o ≡ false
    clear o h = by_type (not (is_same_txn t o.txn)) o.mode h

pub free_insert : (t : TxnId) (n : Need) (s : LockState) → n.asked ≡ RangeInsert → ((r : RecordId) → AllByRecursion (λ o. is_range o.mode ≡ false) (s.at r).0) → (owner_before t n s.at ≡ None) × (s ≡ with_got t n s)
free_insert t n s is none = (
  nobody (owner_before t n s.at) (sym (stopped_is t n s.at) ∙ clear (record_of n)),
  ap (λ (f : Queues). record { at = f; pending = s.pending }) (fun_ext (λ r. sym (unless (is_record (record_of n) r) (after_ask (lock_of t n.asked) (s.at r)) (s.at r) (cond-false (is_blocked (s.at r).0 (lock_of t n.asked)) _ _ (clear r) ∙ kept (s.at r))))),
)
  where
    clear : (r : RecordId) → is_blocked (s.at r).0 (lock_of t n.asked) ≡ false
    clear r = ap (λ (m : LockType). is_blocked (s.at r).0 (lock_of t m)) is ∙ no_range t (s.at r).0 (none r)

    kept : (q : List Lock × List Lock) → (with_lock (lock_of t n.asked) q.0, q.1) ≡ q
    kept q = ap (λ (m : LockType). (with_lock (lock_of t m) q.0, q.1)) is

    nobody : (o : Option TxnId) → is_some o ≡ false → o ≡ None
    nobody None h = refl
    nobody (Some x) h = absurd (both_ways true h refl)

    unless : (b : Bool) (x y : List Lock × List Lock) → x ≡ y → cond b x y ≡ y
    unless true x y e = e
    unless false x y e = refl
