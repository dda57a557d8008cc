-- Each step of an event keeps what holds: transactions that begin, change something and end.
use Rattle.std.proofs.Common.{◌≡◌, ℕ, ◌<◌, ◌≤◌, ◌==◌, Bool, true, false, cond, not, inl, inr, List, [], ◌∷◌, ◌++◌, Some, None, Option, refl, ap, sym, ◌∙◌, subst, ⊎_elim, arith}
use Rattle.std.specs.List.{filter, AllByRecursion}
use Rattle.std.specs.Option.{option_map_or}
use Rattle.std.proofs.lemmas.Bool.{cases_Bool, cond-true, cond-false, both_ways, eqb-true}
use Rattle.std.proofs.lemmas.Bool.Decides.{nat_tests}
use Rattle.je_order.specs.declared.txn_id.TxnId.{TxnId}
use Rattle.je_order.specs.Transactions.{is_same_txn}
use Rattle.je_order.proofs.TxnIds.{same_is, same_itself, same_either}
use Rattle.lock_table.specs.declared.record_id.RecordId.{RecordId}
use Rattle.lock_table.specs.Locks.{has_lock, after_release}
use Rattle.lock_table.proofs.RecordCalls.{settled_release, waits_release, out_released}
use Rattle.store_model.specs.declared.record_change.RecordChange.{RecordChange}
use Rattle.je_answers.specs.declared.active.Active.{Active}
use Rattle.je_answers.specs.declared.wait.Wait.{Wait}
use Rattle.je_answers.specs.Standing.{LockState, active_of, wait_of, without_wait, with_at}
use Rattle.je_answers.specs.Locking.{released, forgotten, was_granted_in}
use Rattle.je_answers.specs.After.{without_session}
use Rattle.active_txns.specs.Marks.{HaveOwnSessions}
use Rattle.standing_laws.specs.Right.{AreNumbered, HoldsWrite, place_of, txn_id, is_active, has_wait, IsWaitIn, HaveOwnWaits, HaveWaits, IsSoundAt}
use Rattle.standing_laws.proofs.Among.{IsAmong, any_some, any_from, all_at, all_of, among_filter, among_first, found_is, its_session, own_found}
use Rattle.standing_laws.proofs.Owners.{release_keeps, released_before}
use Rattle.standing_laws.proofs.Waiters.{HasWaitIn, wait_of_told, waiter_active}
use Rattle.standing_laws.proofs.Steps.{Changes, Cursors, all_each}

-- ---- numbers

same_number : (n : ℕ) → (n == n) ≡ true
same_number n = grind (arith, nat_tests)

pub le_trans : (a b c : ℕ) → a ≤ b → b ≤ c → a ≤ c
le_trans a b c h k = omega arith

lt_of : (a b c : ℕ) → a ≤ b → b < c → a < c
lt_of a b c h k = omega arith

pub numbered_more : (last more : ℕ) (as_ : List Active) → last ≤ more → AreNumbered last as_ → AreNumbered more as_
numbered_more last more [] w h = tt
numbered_more last more (a ∷ as_) w h = (le_trans a.txn.0 last more h.0 w, h.1, numbered_more last more as_ w h.2)

pub all_filter : {X : Type 0} (P : X → Type 0) (p : X → Bool) (xs : List X) → AllByRecursion P xs → AllByRecursion P (filter p xs)
all_filter P p [] h = tt
all_filter P p (x ∷ xs) h = ⊎_elim
    (λ e. subst (AllByRecursion P) (sym (cond-true (p x) (x ∷ filter p xs) (filter p xs) e)) (h.0, all_filter P p xs h.1))
    (λ e. subst (AllByRecursion P) (sym (cond-false (p x) (x ∷ filter p xs) (filter p xs) e)) (all_filter P p xs h.1))
    (cases_Bool (p x))

numbered_filter : (last : ℕ) (p : Active → Bool) (as_ : List Active) → AreNumbered last as_ → AreNumbered last (filter p as_)
numbered_filter last p [] h = tt
numbered_filter last p (a ∷ as_) h = ⊎_elim
    (λ e. subst (AreNumbered last) (sym (cond-true (p a) (a ∷ filter p as_) (filter p as_) e)) (h.0, all_filter (λ b. a.txn.0 < b.txn.0) p as_ h.1, numbered_filter last p as_ h.2))
    (λ e. subst (AreNumbered last) (sym (cond-false (p a) (a ∷ filter p as_) (filter p as_) e)) (numbered_filter last p as_ h.2))
    (cases_Bool (p a))

pub own_filter : (p : Active → Bool) (as_ : List Active) → HaveOwnSessions as_ → HaveOwnSessions (filter p as_)
own_filter p [] h = tt
own_filter p (a ∷ as_) h = ⊎_elim
    (λ e. subst HaveOwnSessions (sym (cond-true (p a) (a ∷ filter p as_) (filter p as_) e)) (all_filter (λ b. (b.session == a.session) ≡ false) p as_ h.0, own_filter p as_ h.1))
    (λ e. subst HaveOwnSessions (sym (cond-false (p a) (a ∷ filter p as_) (filter p as_) e)) (own_filter p as_ h.1))
    (cases_Bool (p a))

pub waits_filter : (p : Wait → Bool) (ws : List Wait) → HaveOwnWaits ws → HaveOwnWaits (filter p ws)
waits_filter p [] h = tt
waits_filter p (w ∷ ws) h = ⊎_elim
    (λ e. subst HaveOwnWaits (sym (cond-true (p w) (w ∷ filter p ws) (filter p ws) e)) (all_filter (λ v. (v.session == w.session) ≡ false) p ws h.0, waits_filter p ws h.1))
    (λ e. subst HaveOwnWaits (sym (cond-false (p w) (w ∷ filter p ws) (filter p ws) e)) (waits_filter p ws h.1))
    (cases_Bool (p w))

-- ---- a transaction ends

pub turned : (m n : ℕ) → (m == n) ≡ false → (n == m) ≡ false
turned m n h = let k : (n == m) ≡ (m == n) = grind (arith, nat_tests) in k ∙ h

-- another session's transaction is as it was
other_active : (s session : ℕ) (as_ : List Active) → (s == session) ≡ false → active_of s (without_session session as_) ≡ active_of s as_
other_active s session [] n = refl
other_active s session (a ∷ as_) n = ⊎_elim
    (λ e. ap (active_of s) (cond-true (not (a.session == session)) (a ∷ without_session session as_) (without_session session as_) e) ∙ ap (λ o. cond (a.session == s) (Some a) o) (other_active s session as_ n))
    (λ e. ap (active_of s) (cond-false (not (a.session == session)) (a ∷ without_session session as_) (without_session session as_) e) ∙ (other_active s session as_ n
    ∙ sym (cond-false (a.session == s) (Some a) (active_of s as_) (gone (a.session == session) e))))
    (cases_Bool (not (a.session == session)))
  where
    gone : (b : Bool) → not (a.session == session) ≡ false → (a.session == s) ≡ false
    gone b e = ⊎_elim
        (λ k. absurd (let m : a.session ≡ s = eqb-true a.session s k in let x : (s == session) ≡ (a.session == session) = ap (λ (i : ℕ). i == session) (sym m) in let y : not (s == session) ≡ false = ap not x ∙ e in let z : not (s == session) ≡ true = ap not n in cc (y, z)))
        (λ k. k)
        (cases_Bool (a.session == s))

pub some_active : (x y : Active) → Some x ≡ Some y → x ≡ y
some_active x y e = cc

-- who is another transaction than the one that ends stays
still_active : (a : Active) (as_ : List Active) (u : TxnId) → HaveOwnSessions as_ → IsAmong a as_ → is_same_txn a.txn u ≡ false → is_active u as_ ≡ true → is_active u (without_session a.session as_) ≡ true
still_active a as_ u own there n h =
    let b = any_some (λ (x : Active). is_same_txn u x.txn) as_ h in
    any_from (λ (x : Active). is_same_txn u x.txn) (without_session a.session as_) b.0 (among_filter (λ (x : Active). not (x.session == a.session)) as_ b.0 b.1 (ap not (⊎_elim
    (λ e. absurd (let session : b.0.session ≡ a.session = eqb-true b.0.session a.session e in
    let same : b.0 ≡ a = some_active b.0 a (sym (own_found as_ b.0 own b.1) ∙ (ap (λ (s : ℕ). active_of s as_) session ∙ own_found as_ a own there)) in
    let k : is_same_txn a.txn u ≡ true = subst (λ (x : Active). is_same_txn x.txn u ≡ true) same (same_either b.0.txn u ∙ b.2) in both_ways (is_same_txn a.txn u) n k))
    (λ e. e)
    (cases_Bool (b.0.session == a.session))))) b.2

pub unless : (b : Bool) (o : Option RecordId) (r : RecordId) → cond b None o ≡ Some r → (o ≡ Some r) × (b ≡ false)
unless true o r h = absurd (cc (h))
unless false o r h = (h, refl)

-- the waits that are left, of other sessions
pub record AreLeft (as_ : List Active) (left : List Wait) (pending : TxnId → Option RecordId) (a : Active) : Type 0 where
  pub others : AllByRecursion (λ w. (w.session == a.session) ≡ false) left
  pub each : AllByRecursion (IsWaitIn as_) left
  pub apart : HaveOwnWaits left
  pub told : (u : TxnId) (r : RecordId) → is_same_txn a.txn u ≡ false → pending u ≡ Some r → has_wait u left ≡ true

pub sound_left : (last : ℕ) (as_ : List Active) (ch : Changes) (cu : Cursors) (ws left : List Wait) (locks : LockState) (a : Active) → IsSoundAt last as_ ch cu ws locks → IsAmong a as_ → AreLeft as_ left locks.pending a
    → IsSoundAt last (without_session a.session as_) (with_at a.txn.0 [] ch) (with_at a.session [] cu) left (released a.txn locks)
sound_left last as_ ch cu ws left locks a s there l = record {
  numbers = numbered_filter last (λ (b : Active). not (b.session == a.session)) as_ s.numbers;
  waits = record {
    sessions = own_filter (λ (b : Active). not (b.session == a.session)) as_ s.waits.sessions;
    each = all_of (IsWaitIn (without_session a.session as_)) left (λ w k. let i = all_at (IsWaitIn as_) left w l.each k in
        record { active = i.active; its = other_active w.session a.session as_ (all_at (λ (v : Wait). (v.session == a.session) ≡ false) left w l.others k) ∙ i.its; same = i.same });
    apart = l.apart;
    told = λ u r h. let m = unless (is_same_txn a.txn u) (locks.pending u) r h in l.told u r m.1 m.0;
  };
  tables = record {
    settled = λ r. settled_release a.txn (locks.at r) (s.tables.settled r);
    alone = λ u r h. ⊎_elim
        (λ e. let k : has_lock a.txn (after_release a.txn (locks.at r)).1 ≡ true = subst (λ (x : TxnId). has_lock x (after_release a.txn (locks.at r)).1 ≡ true) (sym (same_is a.txn u e)) h in
        absurd (both_ways (has_lock a.txn (after_release a.txn (locks.at r)).1) (out_released a.txn (locks.at r)).1 k))
        (λ e. cond-false (is_same_txn a.txn u) None (locks.pending u) e ∙ s.tables.alone u r (waits_release u a.txn (locks.at r) h))
        (cases_Bool (is_same_txn a.txn u));
  };
  owners = λ u r h. let k = released_before a.txn u (locks.at r) h in
      still_active a as_ u s.waits.sessions there k.1 (⊎_elim (λ o. s.owners u r o) (λ o. waiter_active u as_ ws locks.pending s.waits r (s.tables.alone u r o)) k.0);
  own_active = λ n h. ⊎_elim
      (λ e. cond-true (n == a.txn.0) [] (ch n) e)
      (λ e. cond-false (n == a.txn.0) [] (ch n) e ∙ s.own_active n (gone n e h))
      (cases_Bool (n == a.txn.0));
  own_locked = λ n. ⊎_elim
      (λ e. subst (AllByRecursion (HoldsWrite (released a.txn locks).at (txn_id n))) (sym (cond-true (n == a.txn.0) [] (ch n) e)) tt)
      (λ e. subst (AllByRecursion (HoldsWrite (released a.txn locks).at (txn_id n))) (sym (cond-false (n == a.txn.0) [] (ch n) e))
      (all_each (HoldsWrite locks.at (txn_id n)) (HoldsWrite (released a.txn locks).at (txn_id n)) (λ c h. release_keeps a.txn (txn_id n) (locks.at (place_of c)) (turned n a.txn.0 e) h) (ch n) (s.own_locked n)))
      (cases_Bool (n == a.txn.0));
  places = λ session none. ⊎_elim
      (λ e. cond-true (session == a.session) [] (cu session) e)
      (λ e. cond-false (session == a.session) [] (cu session) e ∙ s.places session (sym (other_active session a.session as_ e) ∙ none))
      (cases_Bool (session == a.session));
}
  where
    gone : (n : ℕ) → (n == a.txn.0) ≡ false → is_active (txn_id n) (without_session a.session as_) ≡ false → is_active (txn_id n) as_ ≡ false
    gone n e h = ⊎_elim
        (λ k. absurd (both_ways (is_active (txn_id n) (without_session a.session as_)) h (still_active a as_ (txn_id n) s.waits.sessions there (turned n a.txn.0 e) k)))
        (λ k. k)
        (cases_Bool (is_active (txn_id n) as_))

pub sound_ended : (last : ℕ) (as_ : List Active) (ch : Changes) (cu : Cursors) (ws : List Wait) (locks : LockState) (a : Active) → IsSoundAt last as_ ch cu ws locks → IsAmong a as_ → AllByRecursion (λ w. (w.session == a.session) ≡ false) ws
    → IsSoundAt last (without_session a.session as_) (with_at a.txn.0 [] ch) (with_at a.session [] cu) ws (released a.txn locks)
sound_ended last as_ ch cu ws locks a s there others = sound_left last as_ ch cu ws ws locks a s there (record { others = others; each = s.waits.each; apart = s.waits.apart; told = λ u r n h. s.waits.told u r h })

-- ---- a transaction begins

all_and : {X : Type 0} (P : X → Type 0) (xs : List X) (y : X) → AllByRecursion P xs → P y → AllByRecursion P (xs ++ y ∷ [])
all_and P [] y h k = (k, tt)
all_and P (x ∷ xs) y h k = (h.0, all_and P xs y h.1 k)

numbered_with : (last : ℕ) (as_ : List Active) (a : Active) → last < a.txn.0 → AreNumbered last as_ → AreNumbered a.txn.0 (as_ ++ a ∷ [])
numbered_with last [] a w h = ((omega arith), tt, tt)
numbered_with last (b ∷ bs) a w h = ((let k = h.0 in omega (arith, k, w)), all_and (λ c. b.txn.0 < c.txn.0) bs a h.1 (lt_of b.txn.0 last a.txn.0 h.0 w), numbered_with last bs a w h.2)

not_found : (session : ℕ) (as_ : List Active) → active_of session as_ ≡ None → AllByRecursion (λ b. (b.session == session) ≡ false) as_
not_found session [] h = tt
not_found session (b ∷ bs) h = ⊎_elim
    (λ e. let k : Some b ≡ None = sym (cond-true (b.session == session) (Some b) (active_of session bs) e) ∙ h in absurd (cc (k)))
    (λ e. (e, not_found session bs (sym (cond-false (b.session == session) (Some b) (active_of session bs) e) ∙ h)))
    (cases_Bool (b.session == session))

own_with : (as_ : List Active) (a : Active) → AllByRecursion (λ b. (b.session == a.session) ≡ false) as_ → HaveOwnSessions as_ → HaveOwnSessions (as_ ++ a ∷ [])
own_with [] a n h = (tt, tt)
own_with (b ∷ bs) a n h = (all_and (λ c. (c.session == b.session) ≡ false) bs a h.0 (turned b.session a.session n.0), own_with bs a n.1 h.1)

found_with : (s : ℕ) (as_ : List Active) (a b : Active) → active_of s as_ ≡ Some b → active_of s (as_ ++ a ∷ []) ≡ Some b
found_with s [] a b h = absurd (cc (h))
found_with s (c ∷ cs) a b h = ⊎_elim
    (λ e. cond-true (c.session == s) (Some c) (active_of s (cs ++ a ∷ [])) e ∙ (sym (cond-true (c.session == s) (Some c) (active_of s cs) e) ∙ h))
    (λ e. cond-false (c.session == s) (Some c) (active_of s (cs ++ a ∷ [])) e ∙ found_with s cs a b (sym (cond-false (c.session == s) (Some c) (active_of s cs) e) ∙ h))
    (cases_Bool (c.session == s))

-- a session without a transaction had none before another one began
none_before : (s : ℕ) (as_ : List Active) (a : Active) → active_of s (as_ ++ a ∷ []) ≡ None → active_of s as_ ≡ None
none_before s as_ a h = by (active_of s as_) refl
  where
    by : (o : Option Active) → active_of s as_ ≡ o → o ≡ None
    by None e = refl
    by (Some b) e = let k : Some b ≡ None = sym (found_with s as_ a b e) ∙ h in absurd (cc (k))

pub begun_found : (as_ : List Active) (a : Active) → active_of a.session as_ ≡ None → active_of a.session (as_ ++ a ∷ []) ≡ Some a
begun_found [] a h = cond-true (a.session == a.session) (Some a) None (same_number a.session)
begun_found (c ∷ cs) a h = ⊎_elim
    (λ e. let k : Some c ≡ None = sym (cond-true (c.session == a.session) (Some c) (active_of a.session cs) e) ∙ h in absurd (cc (k)))
    (λ e. cond-false (c.session == a.session) (Some c) (active_of a.session (cs ++ a ∷ [])) e ∙ begun_found cs a (sym (cond-false (c.session == a.session) (Some c) (active_of a.session cs) e) ∙ h))
    (cases_Bool (c.session == a.session))

pub active_with : (u : TxnId) (as_ : List Active) (a : Active) → is_active u as_ ≡ true → is_active u (as_ ++ a ∷ []) ≡ true
active_with u as_ a h = let b = any_some (λ (x : Active). is_same_txn u x.txn) as_ h in any_from (λ (x : Active). is_same_txn u x.txn) (as_ ++ a ∷ []) b.0 (among_first as_ (a ∷ []) b.0 b.1) b.2

pub sound_begun : (last : ℕ) (as_ : List Active) (ch : Changes) (cu : Cursors) (ws : List Wait) (locks : LockState) (a : Active) → IsSoundAt last as_ ch cu ws locks → last < a.txn.0 → active_of a.session as_ ≡ None
    → IsSoundAt a.txn.0 (as_ ++ a ∷ []) ch cu ws locks
sound_begun last as_ ch cu ws locks a s more none = record {
  numbers = numbered_with last as_ a more s.numbers;
  waits = record {
    sessions = own_with as_ a (not_found a.session as_ none) s.waits.sessions;
    each = all_each (IsWaitIn as_) (IsWaitIn (as_ ++ a ∷ [])) (λ w i. record { active = i.active; its = found_with w.session as_ a i.active i.its; same = i.same }) ws s.waits.each;
    apart = s.waits.apart;
    told = s.waits.told;
  };
  tables = s.tables;
  owners = λ u r h. active_with u as_ a (s.owners u r h);
  own_active = λ n h. s.own_active n (⊎_elim (λ k. absurd (both_ways (is_active (txn_id n) (as_ ++ a ∷ [])) h (active_with (txn_id n) as_ a k))) (λ k. k) (cases_Bool (is_active (txn_id n) as_)));
  own_locked = s.own_locked;
  places = λ session h. s.places session (none_before session as_ a h);
}

-- no number is past the last one
numbered_le : (last : ℕ) (as_ : List Active) (a : Active) → AreNumbered last as_ → IsAmong a as_ → a.txn.0 ≤ last
numbered_le last [] a h k = absurd k
numbered_le last (b ∷ bs) a h (inl e) = subst (λ (x : Active). x.txn.0 ≤ last) e h.0
numbered_le last (b ∷ bs) a h (inr k) = numbered_le last bs a h.2 k

-- a number that is drawn has told nobody to wait
pub drawn_untold : (last : ℕ) (as_ : List Active) (ch : Changes) (cu : Cursors) (ws : List Wait) (locks : LockState) (t : TxnId) → IsSoundAt last as_ ch cu ws locks → last < t.0 → locks.pending t ≡ None
drawn_untold last as_ ch cu ws locks t s more = by (locks.pending t) refl
  where
    by : (o : Option RecordId) → locks.pending t ≡ o → o ≡ None
    by None e = refl
    by (Some r) e =
        let w = wait_of_told t as_ ws locks.pending s.waits r e in
        let a = its_session w.wait.session as_ w.in_.active w.in_.its in
        let k = numbered_le last as_ w.in_.active s.numbers a.0 in
        let m = ap (λ (x : TxnId). x.0) (w.in_.same ∙ w.its) in
        absurd (omega (arith, k, m, more))

-- ---- own changes

all_both : {X : Type 0} (P : X → Type 0) (xs ys : List X) → AllByRecursion P xs → AllByRecursion P ys → AllByRecursion P (xs ++ ys)
all_both P [] ys h k = k
all_both P (x ∷ xs) ys h k = (h.0, all_both P xs ys h.1 k)

pub sound_own : (last : ℕ) (as_ : List Active) (ch : Changes) (cu : Cursors) (ws : List Wait) (locks : LockState) (t : TxnId) (cs : List (ℕ × RecordChange)) → IsSoundAt last as_ ch cu ws locks → is_active t as_ ≡ true
    → AllByRecursion (HoldsWrite locks.at t) cs → IsSoundAt last as_ (with_at t.0 (ch t.0 ++ cs) ch) cu ws locks
sound_own last as_ ch cu ws locks t cs s active held = record {
  numbers = s.numbers;
  waits = s.waits;
  tables = s.tables;
  owners = s.owners;
  own_active = λ n h. ⊎_elim
      (λ e. absurd (both_ways (is_active (txn_id n) as_) h (subst (λ (i : ℕ). is_active (txn_id i) as_ ≡ true) (sym (eqb-true n t.0 e)) active)))
      (λ e. cond-false (n == t.0) (ch t.0 ++ cs) (ch n) e ∙ s.own_active n h)
      (cases_Bool (n == t.0));
  own_locked = λ n. ⊎_elim
      (λ e. subst (AllByRecursion (HoldsWrite locks.at (txn_id n))) (sym (cond-true (n == t.0) (ch t.0 ++ cs) (ch n) e))
      (subst (λ (i : ℕ). AllByRecursion (HoldsWrite locks.at (txn_id i)) (ch t.0 ++ cs)) (sym (eqb-true n t.0 e))
      (all_both (HoldsWrite locks.at t) (ch t.0) (cs) (s.own_locked t.0) held)))
      (λ e. subst (AllByRecursion (HoldsWrite locks.at (txn_id n))) (sym (cond-false (n == t.0) (ch t.0 ++ cs) (ch n) e)) (s.own_locked n))
      (cases_Bool (n == t.0));
  places = s.places;
}

-- ---- a call that waited goes on

granted_told : (t : TxnId) (locks : LockState) → was_granted_in t locks ≡ true → (r : RecordId) → locks.pending t ≡ Some r → has_lock t (locks.at r).1 ≡ false
granted_told t locks h r told = ⊎_elim
    (λ e. let k : cond (has_lock t (locks.at r).1) false true ≡ true = sym (ap (λ (o : Option RecordId). option_map_or (λ (x : RecordId). cond (has_lock t (locks.at x).1) false true) o false) told) ∙ h in
    let m : false ≡ true = sym (cond-true (has_lock t (locks.at r).1) false true e) ∙ k in absurd (both_ways false refl m))
    (λ e. e)
    (cases_Bool (has_lock t (locks.at r).1))

-- those of the other sessions stay
has_wait_without : (u : TxnId) (session : ℕ) (ws : List Wait) (w : Wait) → IsAmong w ws → is_same_txn u w.txn ≡ true → (w.session == session) ≡ false → has_wait u (without_wait session ws) ≡ true
has_wait_without u session ws w there its n = any_from (λ (x : Wait). is_same_txn u x.txn) (without_wait session ws) w (among_filter (λ (x : Wait). not (x.session == session)) ws w there (ap not n)) its

pub waits_resumed : (as_ : List Active) (ws : List Wait) (pending : TxnId → Option RecordId) (w : Wait) → HaveWaits as_ ws pending → wait_of w.session ws ≡ Some w
    → HaveWaits as_ (without_wait w.session ws) (λ u. cond (is_same_txn w.txn u) None (pending u))
waits_resumed as_ ws pending w h found = record {
  sessions = h.sessions;
  each = all_filter (IsWaitIn as_) (λ (v : Wait). not (v.session == w.session)) ws h.each;
  apart = waits_filter (λ (v : Wait). not (v.session == w.session)) ws h.apart;
  told = λ u r k. let m = unless (is_same_txn w.txn u) (pending u) r k in let v = wait_of_told u as_ ws pending h r m.0 in
      has_wait_without u w.session ws v.wait v.there (subst (λ (x : TxnId). is_same_txn u x ≡ true) (sym v.its) (same_itself u)) (other u v m.1);
}
  where
    mine : IsWaitIn as_ w
    mine = all_at (IsWaitIn as_) ws w h.each (found_is (λ (v : Wait). v.session == w.session) ws w found).0

    other : (u : TxnId) (v : HasWaitIn u as_ ws) → is_same_txn w.txn u ≡ false → (v.wait.session == w.session) ≡ false
    other u v n = ⊎_elim
        (λ e. absurd (let session : v.wait.session ≡ w.session = eqb-true v.wait.session w.session e in
        let same : v.in_.active ≡ mine.active = some_active v.in_.active mine.active (sym v.in_.its ∙ (ap (λ (s : ℕ). active_of s as_) session ∙ mine.its)) in
        let txn : w.txn ≡ u = sym mine.same ∙ (ap (λ (x : Active). x.txn) (sym same) ∙ (v.in_.same ∙ v.its)) in
        both_ways (is_same_txn w.txn u) n (subst (λ (x : TxnId). is_same_txn w.txn x ≡ true) txn (same_itself w.txn))))
        (λ e. e)
        (cases_Bool (v.wait.session == w.session))

pub sound_resumed : (last : ℕ) (as_ : List Active) (ch : Changes) (cu : Cursors) (ws : List Wait) (locks : LockState) (w : Wait) → IsSoundAt last as_ ch cu ws locks → wait_of w.session ws ≡ Some w → was_granted_in w.txn locks ≡ true
    → IsSoundAt last as_ ch cu (without_wait w.session ws) (forgotten w.txn locks)
sound_resumed last as_ ch cu ws locks w s found granted = record {
  numbers = s.numbers;
  waits = waits_resumed as_ ws locks.pending w s.waits found;
  tables = record {
    settled = s.tables.settled;
    alone = λ u r h. ⊎_elim
        (λ e. absurd (let same = same_is w.txn u e in let told = s.tables.alone u r h in
        both_ways (has_lock u (locks.at r).1) (subst (λ (x : TxnId). has_lock x (locks.at r).1 ≡ false) same (granted_told w.txn locks granted r (ap locks.pending same ∙ told))) h))
        (λ e. cond-false (is_same_txn w.txn u) None (locks.pending u) e ∙ s.tables.alone u r h)
        (cases_Bool (is_same_txn w.txn u));
  };
  owners = s.owners;
  own_active = s.own_active;
  own_locked = s.own_locked;
  places = s.places;
}
