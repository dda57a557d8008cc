-- Locks of a sort: whoever asks, gives back or ends, another transaction holds what it held; and whom they stop.
use Rattle.std.proofs.Common.{◌≡◌, Bool, true, false, cond, not, ◌&&◌, ◌||◌, List, [], ◌∷◌, ◌++◌, map, Some, None, Option, refl, ap, ap₂, sym, ◌∙◌, subst, ⊎_elim}
use Rattle.std.specs.List.{find, AllByRecursion}
use Rattle.std.specs.Option.{option_map}
use Rattle.std.proofs.lemmas.Bool.{cases_Bool, cond-true, cond-false, or_left, or_right, both_ways}
use Rattle.std.proofs.lemmas.Option.{none-some, same_Some}
use Rattle.je_order.specs.declared.txn_id.TxnId.{TxnId}
use Rattle.je_order.specs.Transactions.{is_same_txn}
use Rattle.je_order.proofs.TxnIds.{same_is, same_itself, same_either}
use Rattle.lock_mode.specs.declared.lock_type.LockType.{LockType}
use Rattle.lock_mode.specs.declared.lock_type.LockType.TheVariants.{Read, Write, RangeRead, RangeWrite, RangeInsert}
use Rattle.lock_mode.specs.Modes.{conflicts_with, upgraded, can_be_held}
use Rattle.lock_table.specs.declared.lock.Lock.{Lock}
use Rattle.lock_table.specs.declared.record_id.RecordId.{RecordId}
use Rattle.lock_table.specs.Locks.{lock_of, is_of, is_write, is_range, has_lock, without_txn, held_by, is_blocked, is_blocking, upgraded_by, with_lock, waits_still, granted, after_ask, after_cancel, after_release, read_given_back, after_read, AreOwners}
use Rattle.lock_table.specs.Records.{is_record}
use Rattle.lock_table.proofs.CallSteps.{record_same}
use Rattle.lock_mgr.specs.Deadlock.{without_waits}
use Rattle.store_model.specs.declared.need.Need.{Need}
use Rattle.je_answers.specs.Standing.{LockState}
use Rattle.je_answers.specs.Locking.{Queues, record_of, got, all_got, is_stopped, first_blocked, with_wait}
use Rattle.standing_laws.specs.Right.{HasWrite}
use Rattle.standing_laws.proofs.Writers.{held_got}

-- ---- sorts of locks

abbrev pub Sort : Type 0
Sort = LockType → Bool

-- an upgrade keeps the sort, and brings it
pub record IsSort (sort : Sort) : Type 0 where
  pub up : (h m : LockType) → sort h ≡ true → sort (upgraded h m) ≡ true
  pub gets : (h m : LockType) → sort m ≡ true → sort (upgraded h m) ≡ true
  pub can : (m : LockType) → sort m ≡ true → can_be_held m ≡ true

range_up : (h m : LockType) → is_range h ≡ true → is_range (upgraded h m) ≡ true
range_up Read m e = absurd (cc (e))
range_up Write m e = absurd (cc (e))
range_up RangeInsert m e = absurd (cc (e))
range_up RangeRead Read e = refl
range_up RangeRead Write e = refl
range_up RangeRead RangeRead e = refl
range_up RangeRead RangeWrite e = refl
range_up RangeRead RangeInsert e = refl
range_up RangeWrite m e = refl

range_gets : (h m : LockType) → is_range m ≡ true → is_range (upgraded h m) ≡ true
range_gets h Read e = absurd (cc (e))
range_gets h Write e = absurd (cc (e))
range_gets h RangeInsert e = absurd (cc (e))
range_gets Read RangeRead e = refl
range_gets Read RangeWrite e = refl
range_gets Write RangeRead e = refl
range_gets Write RangeWrite e = refl
range_gets RangeRead RangeRead e = refl
range_gets RangeRead RangeWrite e = refl
range_gets RangeWrite RangeRead e = refl
range_gets RangeWrite RangeWrite e = refl
range_gets RangeInsert RangeRead e = refl
range_gets RangeInsert RangeWrite e = refl

pub range_can : (m : LockType) → is_range m ≡ true → can_be_held m ≡ true
range_can Read e = absurd (cc (e))
range_can Write e = absurd (cc (e))
range_can RangeInsert e = absurd (cc (e))
range_can RangeRead e = refl
range_can RangeWrite e = refl

pub write_can : (m : LockType) → is_write m ≡ true → can_be_held m ≡ true
write_can Read e = absurd (cc (e))
write_can RangeRead e = absurd (cc (e))
write_can RangeInsert e = absurd (cc (e))
write_can Write e = refl
write_can RangeWrite e = refl

can_up : (h m : LockType) → can_be_held h ≡ true → can_be_held (upgraded h m) ≡ true
can_up RangeInsert m e = absurd (cc (e))
can_up Read Read e = refl
can_up Read Write e = refl
can_up Read RangeRead e = refl
can_up Read RangeWrite e = refl
can_up Read RangeInsert e = refl
can_up Write Read e = refl
can_up Write Write e = refl
can_up Write RangeRead e = refl
can_up Write RangeWrite e = refl
can_up Write RangeInsert e = refl
can_up RangeRead Read e = refl
can_up RangeRead Write e = refl
can_up RangeRead RangeRead e = refl
can_up RangeRead RangeWrite e = refl
can_up RangeRead RangeInsert e = refl
can_up RangeWrite m e = refl

can_gets : (h m : LockType) → can_be_held m ≡ true → can_be_held (upgraded h m) ≡ true
can_gets RangeInsert m e = e
can_gets Read m e = can_up Read m refl
can_gets Write m e = can_up Write m refl
can_gets RangeRead m e = can_up RangeRead m refl
can_gets RangeWrite m e = refl

write_up : (h m : LockType) → is_write h ≡ true → is_write (upgraded h m) ≡ true
write_up Read m e = absurd (cc (e))
write_up RangeRead m e = absurd (cc (e))
write_up RangeInsert m e = absurd (cc (e))
write_up Write Read e = refl
write_up Write Write e = refl
write_up Write RangeRead e = refl
write_up Write RangeWrite e = refl
write_up Write RangeInsert e = refl
write_up RangeWrite m e = refl

write_gets : (h m : LockType) → is_write m ≡ true → is_write (upgraded h m) ≡ true
write_gets h Read e = absurd (cc (e))
write_gets h RangeRead e = absurd (cc (e))
write_gets h RangeInsert e = absurd (cc (e))
write_gets Read Write e = refl
write_gets Read RangeWrite e = refl
write_gets Write Write e = refl
write_gets Write RangeWrite e = refl
write_gets RangeRead Write e = refl
write_gets RangeRead RangeWrite e = refl
write_gets RangeWrite Write e = refl
write_gets RangeWrite RangeWrite e = refl
write_gets RangeInsert Write e = refl
write_gets RangeInsert RangeWrite e = refl

pub writes : IsSort is_write
writes = record { up = write_up; gets = write_gets; can = write_can }

pub ranges : IsSort is_range
ranges = record { up = range_up; gets = range_gets; can = range_can }

pub any_lock : IsSort can_be_held
any_lock = record { up = can_up; gets = can_gets; can = λ m e. e }

-- ---- a transaction holds a lock of a sort

pub record Holds (sort : Sort) (t : TxnId) (os : List Lock) : Type 0 where
  pub mode : LockType
  pub held : held_by t os ≡ Some mode
  pub its : sort mode ≡ true

pub weaker : (sort other : Sort) → ((m : LockType) → sort m ≡ true → other m ≡ true) → (t : TxnId) (os : List Lock) → Holds sort t os → Holds other t os
weaker sort other f t os h = record { mode = h.mode; held = h.held; its = f h.mode h.its }

pub from_write : (t : TxnId) (os : List Lock) → HasWrite t os → Holds can_be_held t os
from_write t os h = record { mode = h.mode; held = h.held; its = write_can h.mode h.writes }

pub to_write : (t : TxnId) (os : List Lock) → Holds is_write t os → HasWrite t os
to_write t os h = record { mode = h.mode; held = h.held; writes = h.its }

held_here : (t : TxnId) (o : Lock) (os : List Lock) → is_of t o ≡ true → held_by t (o ∷ os) ≡ Some o.mode
held_here t o os e = ap (option_map (λ (l : Lock). l.mode)) (cond-true (is_of t o) (Some o) (find (is_of t) os) e)

held_there : (t : TxnId) (o : Lock) (os : List Lock) → is_of t o ≡ false → held_by t (o ∷ os) ≡ held_by t os
held_there t o os e = ap (option_map (λ (l : Lock). l.mode)) (cond-false (is_of t o) (Some o) (find (is_of t) os) e)

module _ (sort : Sort) (s : IsSort sort) where
  first_holds : (u : TxnId) (o : Lock) (os : List Lock) → is_of u o ≡ true → sort o.mode ≡ true → Holds sort u (o ∷ os)
  first_holds u o os e w = record { mode = o.mode; held = held_here u o os e; its = w }

  later_holds : (u : TxnId) (o : Lock) (os : List Lock) → is_of u o ≡ false → Holds sort u os → Holds sort u (o ∷ os)
  later_holds u o os e h = record { mode = h.mode; held = held_there u o os e ∙ h.held; its = h.its }

  mode_here : (u : TxnId) (o : Lock) (os : List Lock) → is_of u o ≡ true → Holds sort u (o ∷ os) → sort o.mode ≡ true
  mode_here u o os e h = ap sort (same_Some o.mode h.mode (sym (held_here u o os e) ∙ h.held)) ∙ h.its

  rest_holds : (u : TxnId) (o : Lock) (os : List Lock) → is_of u o ≡ false → Holds sort u (o ∷ os) → Holds sort u os
  rest_holds u o os e h = record { mode = h.mode; held = sym (held_there u o os e) ∙ h.held; its = h.its }

  nobody_holds : (u : TxnId) → Holds sort u [] → ⊥
  nobody_holds u h = let k = h.held in absurd (cc (k))

  same_owner : (w o : Lock) (b : Bool) → (cond b (record { txn = o.txn; mode = upgraded o.mode w.mode }) o).txn ≡ o.txn
  same_owner w o true = refl
  same_owner w o false = refl

  still_holds : (w o : Lock) (b : Bool) → sort o.mode ≡ true → sort (cond b (record { txn = o.txn; mode = upgraded o.mode w.mode }) o).mode ≡ true
  still_holds w o true e = s.up o.mode w.mode e
  still_holds w o false e = e

  upgraded_keeps : (u : TxnId) (w : Lock) (os : List Lock) → Holds sort u os → Holds sort u (map (upgraded_by w) os)
  upgraded_keeps u w [] h = absurd (nobody_holds u h)
  upgraded_keeps u w (o ∷ os) h = ⊎_elim
      (λ e. first_holds u (upgraded_by w o) (map (upgraded_by w) os) (ap (is_same_txn u) (same_owner w o (is_of w.txn o)) ∙ e) (still_holds w o (is_of w.txn o) (mode_here u o os e h)))
      (λ e. later_holds u (upgraded_by w o) (map (upgraded_by w) os) (ap (is_same_txn u) (same_owner w o (is_of w.txn o)) ∙ e) (upgraded_keeps u w os (rest_holds u o os e h)))
      (cases_Bool (is_of u o))

  pushed_keeps : (u : TxnId) (w : Lock) (os : List Lock) → Holds sort u os → Holds sort u (os ++ w ∷ [])
  pushed_keeps u w [] h = absurd (nobody_holds u h)
  pushed_keeps u w (o ∷ os) h = ⊎_elim
      (λ e. first_holds u o (os ++ w ∷ []) e (mode_here u o os e h))
      (λ e. later_holds u o (os ++ w ∷ []) e (pushed_keeps u w os (rest_holds u o os e h)))
      (cases_Bool (is_of u o))

  by_cond : (P : List Lock → Type 0) (b : Bool) (xs ys : List Lock) → P xs → P ys → P (cond b xs ys)
  by_cond P true xs ys h k = h
  by_cond P false xs ys h k = k

  pub lock_keeps : (u : TxnId) (w : Lock) (os : List Lock) → Holds sort u os → Holds sort u (with_lock w os)
  lock_keeps u w os h = by_cond (Holds sort u) (can_be_held w.mode) _ os (by_cond (Holds sort u) (has_lock w.txn os) (map (upgraded_by w) os) (os ++ w ∷ []) (upgraded_keeps u w os h) (pushed_keeps u w os h)) h

  pub granted_keeps : (u : TxnId) (ws os : List Lock) → Holds sort u os → Holds sort u (granted os ws).0
  granted_keeps u [] os h = h
  granted_keeps u (w ∷ ws) os h = ⊎_elim
      (λ e. subst (λ (q : List Lock × List Lock). Holds sort u q.0) (sym (cond-true (is_blocked os w) (waits_still w (granted os ws)) (granted (with_lock w os) ws) e)) (granted_keeps u ws os h))
      (λ e. subst (λ (q : List Lock × List Lock). Holds sort u q.0) (sym (cond-false (is_blocked os w) (waits_still w (granted os ws)) (granted (with_lock w os) ws) e)) (granted_keeps u ws (with_lock w os) (lock_keeps u w os h)))
      (cases_Bool (is_blocked os w))

  pub without_keeps : (t u : TxnId) (os : List Lock) → is_same_txn t u ≡ false → Holds sort u os → Holds sort u (without_txn t os)
  without_keeps t u [] n h = absurd (nobody_holds u h)
  without_keeps t u (o ∷ os) n h = ⊎_elim
      (λ e. subst (Holds sort u) (sym (cond-true (not (is_of t o)) (o ∷ without_txn t os) (without_txn t os) e)) (⊎_elim
      (λ f. first_holds u o (without_txn t os) f (mode_here u o os f h))
      (λ f. later_holds u o (without_txn t os) f (without_keeps t u os n (rest_holds u o os f h)))
      (cases_Bool (is_of u o))))
      (λ e. subst (Holds sort u) (sym (cond-false (not (is_of t o)) (o ∷ without_txn t os) (without_txn t os) e)) (⊎_elim
      (λ f. let k : u ≡ o.txn = same_is u o.txn f in let m : is_of t o ≡ false = subst (λ (x : TxnId). is_same_txn t x ≡ false) k n in absurd (cc (e, ap not m)))
      (λ f. without_keeps t u os n (rest_holds u o os f h))
      (cases_Bool (is_of u o))))
      (cases_Bool (not (is_of t o)))

  pub release_keeps : (t u : TxnId) (q : List Lock × List Lock) → is_same_txn t u ≡ false → Holds sort u q.0 → Holds sort u (after_release t q).0
  release_keeps t u q n h = granted_keeps u (without_txn t q.1) (without_txn t q.0) (without_keeps t u q.0 n h)

  by_held : (t u : TxnId) (held : Option LockType) (q : List Lock × List Lock) → is_same_txn t u ≡ false → Holds sort u q.0 → Holds sort u (read_given_back t held q).0
  by_held t u (Some Read) q n h = granted_keeps u q.1 (without_txn t q.0) (without_keeps t u q.0 n h)
  by_held t u None q n h = h
  by_held t u (Some Write) q n h = h
  by_held t u (Some RangeRead) q n h = h
  by_held t u (Some RangeWrite) q n h = h
  by_held t u (Some RangeInsert) q n h = h

  pub read_keeps : (t u : TxnId) (q : List Lock × List Lock) → is_same_txn t u ≡ false → Holds sort u q.0 → Holds sort u (after_read t q).0
  read_keeps t u q n h = by_held t u (held_by t q.0) q n h

  -- ---- a lock is got

  upgraded_gets : (w : Lock) (os : List Lock) → sort w.mode ≡ true → has_lock w.txn os ≡ true → Holds sort w.txn (map (upgraded_by w) os)
  upgraded_gets w [] m h = absurd (cc (h))
  upgraded_gets w (o ∷ os) m h = ⊎_elim
      (λ e. first_holds w.txn (upgraded_by w o) (map (upgraded_by w) os) (ap (is_same_txn w.txn) (same_owner w o (is_of w.txn o)) ∙ e)
      (subst (λ (l : Lock). sort l.mode ≡ true) (sym (cond-true (is_of w.txn o) (record { txn = o.txn; mode = upgraded o.mode w.mode }) o e)) (s.gets o.mode w.mode m)))
      (λ e. later_holds w.txn (upgraded_by w o) (map (upgraded_by w) os) (ap (is_same_txn w.txn) (same_owner w o (is_of w.txn o)) ∙ e) (upgraded_gets w os m (sym (ap (λ b. b || has_lock w.txn os) e) ∙ h)))
      (cases_Bool (is_of w.txn o))

  pushed_gets : (w : Lock) (os : List Lock) → sort w.mode ≡ true → has_lock w.txn os ≡ false → Holds sort w.txn (os ++ w ∷ [])
  pushed_gets w [] m h = first_holds w.txn w [] (same_itself w.txn) m
  pushed_gets w (o ∷ os) m h = ⊎_elim
      (λ e. absurd (both_ways (has_lock w.txn (o ∷ os)) h (or_left (is_of w.txn o) (has_lock w.txn os) e)))
      (λ e. later_holds w.txn o (os ++ w ∷ []) e (pushed_gets w os m (sym (ap (λ b. b || has_lock w.txn os) e) ∙ h)))
      (cases_Bool (is_of w.txn o))

  pub lock_gets : (w : Lock) (os : List Lock) → sort w.mode ≡ true → Holds sort w.txn (with_lock w os)
  lock_gets w os m = subst (Holds sort w.txn) (sym (cond-true (can_be_held w.mode) (cond (has_lock w.txn os) (map (upgraded_by w) os) (os ++ w ∷ [])) os (s.can w.mode m)))
      (⊎_elim
      (λ e. subst (Holds sort w.txn) (sym (cond-true (has_lock w.txn os) (map (upgraded_by w) os) (os ++ w ∷ []) e)) (upgraded_gets w os m e))
      (λ e. subst (Holds sort w.txn) (sym (cond-false (has_lock w.txn os) (map (upgraded_by w) os) (os ++ w ∷ []) e)) (pushed_gets w os m e))
      (cases_Bool (has_lock w.txn os)))

  asked_keeps : (u : TxnId) (w : Lock) (q : List Lock × List Lock) (b : Bool) → Holds sort u q.0 → Holds sort u (cond {A = List Lock × List Lock} b (q.0, q.1 ++ w ∷ []) (with_lock w q.0, q.1)).0
  asked_keeps u w q true h = h
  asked_keeps u w q false h = lock_keeps u w q.0 h

  pub got_keeps : (t u : TxnId) (n : Need) (at : Queues) (r : RecordId) → Holds sort u (at r).0 → Holds sort u (got t n at r).0
  got_keeps t u n at r h = by (is_record (record_of n) r)
    where
      by : (b : Bool) → Holds sort u (cond b (after_ask (lock_of t n.asked) (at r)) (at r)).0
      by true = asked_keeps u (lock_of t n.asked) (at r) (is_blocked (at r).0 (lock_of t n.asked)) h
      by false = h

  pub all_got_keeps : (t u : TxnId) (ns : List Need) (at : Queues) (r : RecordId) → Holds sort u (at r).0 → Holds sort u (all_got t ns at r).0
  all_got_keeps t u [] at r h = h
  all_got_keeps t u (n ∷ ns) at r h = all_got_keeps t u ns (got t n at) r (got_keeps t u n at r h)

  got_gets : (t : TxnId) (n : Need) (at : Queues) → is_stopped t n at ≡ false → sort n.asked ≡ true → Holds sort t (got t n at (record_of n)).0
  got_gets t n at free m =
      let q = at (record_of n) in
      let w = lock_of t n.asked in
      subst (λ (x : List Lock × List Lock). Holds sort t x.0) (sym (cond-true (is_record (record_of n) (record_of n)) (after_ask w q) q (record_same (record_of n)) ∙ cond-false (is_blocked q.0 w) (q.0, q.1 ++ w ∷ []) (with_lock w q.0, q.1) free))
      (lock_gets w q.0 m)

  pub all_got_gets : (t : TxnId) (ns : List Need) (at : Queues) → first_blocked t ns at ≡ None → AllByRecursion (λ n. sort n.asked ≡ true → Holds sort t (all_got t ns at (record_of n)).0) ns
  all_got_gets t [] at none = tt
  all_got_gets t (n ∷ ns) at none = by (is_stopped t n at) refl none (λ more. all_got_gets t ns (got t n at) more)
    where
      by : (b : Bool) → is_stopped t n at ≡ b → cond b (Some n) (first_blocked t ns (got t n at)) ≡ None
          → (first_blocked t ns (got t n at) ≡ None → AllByRecursion (λ m. sort m.asked ≡ true → Holds sort t (all_got t ns (got t n at) (record_of m)).0) ns)
          → AllByRecursion (λ m. sort m.asked ≡ true → Holds sort t (all_got t (n ∷ ns) at (record_of m)).0) (n ∷ ns)
      by true e h rest = absurd (none-some n (sym h))
      by false e h rest = (λ m. all_got_keeps t t ns (got t n at) (record_of n) (got_gets t n at e m), rest h)

  -- a wait changes no owner
  without_owners : (us : List TxnId) (q : List Lock × List Lock) → (without_waits us q).0 ≡ q.0
  without_owners [] q = refl
  without_owners (u ∷ us) q = without_owners us (after_cancel u q)

  pub wait_keeps : (t u : TxnId) (n : Need) (gone : List TxnId) (locks : LockState) (r : RecordId) → Holds sort u (locks.at r).0 → Holds sort u ((with_wait t n gone locks).at r).0
  wait_keeps t u n gone locks r h = subst (Holds sort u) (sym (without_owners gone (got t n locks.at r))) (got_keeps t u n locks.at r h)

-- ---- whom they stop

-- an owner whose type conflicts stops another transaction
pub stops : (t u : TxnId) (asked m : LockType) (os : List Lock) → is_same_txn u t ≡ false → held_by u os ≡ Some m → conflicts_with m asked ≡ true → is_blocked os (lock_of t asked) ≡ true
stops t u asked m [] apart held h = absurd (none-some m held)
stops t u asked m (o ∷ os) apart held h = by (is_of u o) refl (λ more. stops t u asked m os apart more h)
  where
    by : (b : Bool) → is_of u o ≡ b → (held_by u os ≡ Some m → is_blocked os (lock_of t asked) ≡ true) → is_blocked (o ∷ os) (lock_of t asked) ≡ true
    by true e rest =
        let mode : o.mode ≡ m = same_Some o.mode m (sym (held_here u o os e) ∙ held) in
        let other : is_same_txn t o.txn ≡ false = ap (is_same_txn t) (sym (same_is u o.txn e)) ∙ same_either t u ∙ apart in
        or_left (is_blocking (lock_of t asked) o) (is_blocked os (lock_of t asked))
        (ap₂ (λ (b : Bool) (x : LockType). not b && conflicts_with x asked) other mode ∙ h)
    by false e rest = or_right (is_blocking (lock_of t asked) o) (is_blocked os (lock_of t asked)) (rest (sym (held_there u o os e) ∙ held))

-- nobody else has a lock that conflicts at the record of a need that was got
abbrev pub IsFreeNeed : TxnId → Queues → Need → Type 0
IsFreeNeed t at n = (u : TxnId) (m : LockType) → is_same_txn u t ≡ false → held_by u (at (record_of n)).0 ≡ Some m → conflicts_with m n.asked ≡ true → ⊥

all_weaker : {X : Type 0} (P Q : X → Type 0) → ((x : X) → P x → Q x) → (xs : List X) → AllByRecursion P xs → AllByRecursion Q xs
all_weaker P Q f [] h = tt
all_weaker P Q f (x ∷ xs) h = (f x h.0, all_weaker P Q f xs h.1)

pub free_needs : (t : TxnId) (needs : List Need) (at : Queues) → first_blocked t needs at ≡ None → AllByRecursion (IsFreeNeed t at) needs
free_needs t [] at none = tt
free_needs t (n ∷ needs) at none = by (is_stopped t n at) refl none (λ more. free_needs t needs (got t n at) more)
  where
    by : (b : Bool) → is_stopped t n at ≡ b → cond b (Some n) (first_blocked t needs (got t n at)) ≡ None → (first_blocked t needs (got t n at) ≡ None → AllByRecursion (IsFreeNeed t (got t n at)) needs) →
        AllByRecursion (IsFreeNeed t at) (n ∷ needs)
    by true e h rest = absurd (none-some n (sym h))
    by false e h rest = (
      λ u m apart held k. both_ways (is_stopped t n at) e (stops t u n.asked m (at (record_of n)).0 apart held k),
      all_weaker (IsFreeNeed t (got t n at)) (IsFreeNeed t at) (λ x free u m apart held k. free u m apart (held_got t u n at (record_of x) apart ∙ held) k) needs (rest h),
    )

-- who writes conflicts with each owner
write_conflicts : (m h : LockType) → is_write m ≡ true → can_be_held h ≡ true → conflicts_with m h ≡ true
write_conflicts Read h e k = absurd (cc (e))
write_conflicts RangeRead h e k = absurd (cc (e))
write_conflicts RangeInsert h e k = absurd (cc (e))
write_conflicts Write Read e k = refl
write_conflicts Write Write e k = refl
write_conflicts Write RangeRead e k = refl
write_conflicts Write RangeWrite e k = refl
write_conflicts Write RangeInsert e k = absurd (cc (k))
write_conflicts RangeWrite h e k = refl

pub conflicts_write : (h m : LockType) → can_be_held h ≡ true → is_write m ≡ true → conflicts_with h m ≡ true
conflicts_write h Read k e = absurd (cc (e))
conflicts_write h RangeRead k e = absurd (cc (e))
conflicts_write h RangeInsert k e = absurd (cc (e))
conflicts_write Read Write k e = refl
conflicts_write Read RangeWrite k e = refl
conflicts_write Write Write k e = refl
conflicts_write Write RangeWrite k e = refl
conflicts_write RangeRead Write k e = refl
conflicts_write RangeRead RangeWrite k e = refl
conflicts_write RangeWrite Write k e = refl
conflicts_write RangeWrite RangeWrite k e = refl
conflicts_write RangeInsert m k e = absurd (cc (k))

pub conflicts_insert : (h : LockType) → is_range h ≡ true → conflicts_with h RangeInsert ≡ true
conflicts_insert Read e = absurd (cc (e))
conflicts_insert Write e = absurd (cc (e))
conflicts_insert RangeRead e = refl
conflicts_insert RangeWrite e = refl
conflicts_insert RangeInsert e = absurd (cc (e))

-- what is held is a lock of the list
found_lock : (t : TxnId) (m : LockType) (os : List Lock) (P : Lock → Type 0) → held_by t os ≡ Some m → AllByRecursion P os → P (lock_of t m)
found_lock t m [] P e h = absurd (none-some m e)
found_lock t m (o ∷ os) P e h = ⊎_elim
    (λ k. let mode : o.mode ≡ m = same_Some o.mode m (sym (held_here t o os k) ∙ e) in
    let is : o ≡ lock_of t m = ap₂ (λ (x : TxnId) (y : LockType). lock_of x y) (sym (same_is t o.txn k)) mode in subst P is h.0)
    (λ k. found_lock t m os P (sym (held_there t o os k) ∙ e) h.1)
    (cases_Bool (is_of t o))

-- of two owners none writes
pub clash : (t u : TxnId) (os : List Lock) → AreOwners os → is_same_txn u t ≡ false → Holds can_be_held t os → HasWrite u os → ⊥
clash t u os owners apart h w =
    both_ways (is_blocked os (lock_of t h.mode)) (found_lock t h.mode os (λ o. is_blocked os o ≡ false) h.held owners.agree) (stops t u h.mode w.mode os apart w.held (write_conflicts w.mode h.mode w.writes h.its))
