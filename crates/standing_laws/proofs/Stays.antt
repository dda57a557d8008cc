-- Each step of an event keeps what holds: a call that waits, and its victims.
use Rattle.std.proofs.Common.{◌≡◌, ℕ, ◌<◌, ◌==◌, Bool, true, false, cond, not, ◌||◌, ◌⊎◌, inl, inr, List, [], ◌∷◌, ◌++◌, Some, None, Option, refl, ap, sym, ◌∙◌, subst, ⊎_elim, arith}
use Rattle.std.specs.List.{find, filter, AllByRecursion}
use Rattle.std.specs.Option.{is_some}
use Rattle.std.proofs.lemmas.Bool.{cases_Bool, cond-true, cond-false, both_ways}
use Rattle.std.proofs.lemmas.Bool.Decides.{nat_tests}
use Rattle.je_order.specs.declared.txn_id.TxnId.{TxnId}
use Rattle.je_order.specs.Transactions.{is_same_txn}
use Rattle.je_order.proofs.TxnIds.{same_is, same_itself, same_either}
use Rattle.waits_for.specs.Cycles.{is_in}
use Rattle.lock_table.specs.declared.record_id.RecordId.{RecordId}
use Rattle.lock_table.specs.Locks.{lock_of, has_lock, is_blocked, with_lock, after_ask, after_cancel, IsSettled}
use Rattle.lock_table.specs.Records.{is_record}
use Rattle.lock_table.proofs.QueueMaps.{record_is}
use Rattle.lock_table.proofs.RecordCalls.{settled_ask, settled_cancel, waits_ask, waits_cancel, none_of}
use Rattle.lock_mgr.specs.Deadlock.{without_waits}
use Rattle.store_model.specs.declared.need.Need.{Need}
use Rattle.store_model.specs.declared.victim.Victim.{Victim}
use Rattle.je_answers.specs.declared.active.Active.{Active}
use Rattle.je_answers.specs.declared.wait.Wait.{Wait}
use Rattle.je_answers.specs.Standing.{LockState, Standing, active_of}
use Rattle.je_answers.specs.Locking.{Queues, record_of, got, is_stopped, all_given_back, given_back, released, with_wait}
use Rattle.je_answers.specs.After.{marked, marked_by, is_victim, txns_of, without_session, ended, all_ended}
use Rattle.active_txns.specs.Marks.{HaveOwnSessions}
use Rattle.standing_laws.specs.Right.{AreNumbered, HasWrite, HoldsWrite, place_of, txn_id, has_wait, IsWaitIn, HaveOwnWaits, HaveWaits, MayWait, IsSoundAt, IsRightAt, AreRight}
use Rattle.standing_laws.proofs.Among.{IsAmong, any_some, any_from, all_at, all_of, among_map, mapped_among, among_filter, filter_among, among_append, among_first, among_second, its_session}
use Rattle.standing_laws.proofs.Waiters.{wait_of_told}
use Rattle.standing_laws.proofs.Steps.{Queue, Changes, Cursors, state, all_each, waits_nowhere, sound_back}
use Rattle.standing_laws.proofs.Moves.{sound_ended, waits_filter}
use Rattle.standing_laws.proofs.Marks.{marked_own, marked_numbered, marked_active, marked_found, same_txn, marked_none}

-- ---- numbers tell transactions apart

above : (n : ℕ) (as_ : List Active) (b : Active) → AllByRecursion (λ c. n < c.txn.0) as_ → IsAmong b as_ → n < b.txn.0
above n as_ b h k = all_at (λ (c : Active). n < c.txn.0) as_ b h k

pub same_active : (last : ℕ) (as_ : List Active) (a b : Active) → AreNumbered last as_ → IsAmong a as_ → IsAmong b as_ → a.txn ≡ b.txn → a ≡ b
same_active last [] a b h k m e = absurd k
same_active last (c ∷ cs) a b h (inl k) (inl m) e = sym k ∙ m
same_active last (c ∷ cs) a b h (inl k) (inr m) e = let x = above c.txn.0 cs b h.1 m in let y = ap (λ (t : TxnId). t.0) e in let z = ap (λ (d : Active). d.txn.0) k in absurd (omega (arith, x, y, z))
same_active last (c ∷ cs) a b h (inr k) (inl m) e = let x = above c.txn.0 cs a h.1 k in let y = ap (λ (t : TxnId). t.0) e in let z = ap (λ (d : Active). d.txn.0) m in absurd (omega (arith, x, y, z))
same_active last (c ∷ cs) a b h (inr k) (inr m) e = same_active last cs a b h.2 k m e

-- ---- an end

other_txn : (last : ℕ) (as_ : List Active) (ws : List Wait) (a : Active) (w : Wait) → AreNumbered last as_ → IsAmong a as_ → IsWaitIn as_ w → (w.session == a.session) ≡ false → is_same_txn a.txn w.txn ≡ false
other_txn last as_ ws a w numbers there i n = ⊎_elim
    (λ e. absurd (let c = its_session w.session as_ i.active i.its in
    let same : a ≡ i.active = same_active last as_ a i.active numbers there c.0 (same_is a.txn w.txn e ∙ sym i.same) in
    let session : (w.session == a.session) ≡ true = ap (λ (x : Active). w.session == x.session) same ∙ (ap (λ (m : ℕ). w.session == m) c.1 ∙ same_number w.session) in
    both_ways (w.session == a.session) n session))
    (λ e. e)
    (cases_Bool (is_same_txn a.txn w.txn))
  where
    same_number : (m : ℕ) → (m == m) ≡ true
    same_number m = grind (arith, nat_tests)

pub right_ended : (st : Standing) (a : Active) → AreRight st → IsAmong a st.actives → AllByRecursion (λ w. (w.session == a.session) ≡ false) st.waiting → AreRight (ended a st)
right_ended st a r there others = record {
  sound = sound_ended st.last_txn st.actives st.own st.places st.waiting st.locks a r.sound there others;
  waiting = all_of (λ w. is_some ((released a.txn st.locks).pending w.txn) ≡ true) st.waiting (λ w k.
      ap is_some (cond-false (is_same_txn a.txn w.txn) None (st.locks.pending w.txn)
      (other_txn st.last_txn st.actives st.waiting a w r.sound.numbers there (all_at (IsWaitIn st.actives) st.waiting w r.sound.waits.each k) (all_at (λ (v : Wait). (v.session == a.session) ≡ false) st.waiting w others k)))
      ∙ all_at (λ (v : Wait). is_some (st.locks.pending v.txn) ≡ true) st.waiting w r.waiting k);
  calls = r.calls;
}

-- several ends, none of them of a session whose call waits
pub right_all_ended : (l : List Active) (st : Standing) → HaveOwnSessions l → AllByRecursion (λ a. IsAmong a st.actives) l → AllByRecursion (λ a. AllByRecursion (λ w. (w.session == a.session) ≡ false) st.waiting) l → AreRight st → AreRight (all_ended l st)
right_all_ended [] st own there others r = r
right_all_ended (a ∷ as_) st own there others r =
    right_all_ended as_ (ended a st) own.1
    (all_of (λ b. IsAmong b (without_session a.session st.actives)) as_ (λ b k. among_filter (λ (c : Active). not (c.session == a.session)) st.actives b (all_at (λ c. IsAmong c st.actives) as_ b there.1 k)
    (ap not (all_at (λ (c : Active). (c.session == a.session) ≡ false) as_ b own.0 k))))
    others.1 (right_ended st a r there.0 others.0)

-- ---- several calls are answered

pub right_all_back : (l : List Active) (last : ℕ) (as_ : List Active) (ch : Changes) (cu : Cursors) (ws : List Wait) (locks : LockState) → IsRightAt last as_ ch cu ws locks → IsRightAt last as_ ch cu ws (state (all_given_back l locks.at) locks.pending)
right_all_back [] last as_ ch cu ws locks r = r
right_all_back (a ∷ l) last as_ ch cu ws locks r =
    right_all_back l last as_ ch cu ws (state (given_back a.level a.txn locks.at) locks.pending)
    (record { sound = sound_back last as_ ch cu ws locks a.level a.txn r.sound; waiting = r.waiting; calls = r.calls })

-- ---- a wait

not_true : (b : Bool) → not b ≡ true → b ≡ false
not_true true h = absurd (cc (h))
not_true false h = refl

without_owners : (us : List TxnId) (q : Queue) → (without_waits us q).0 ≡ q.0
without_owners [] q = refl
without_owners (u ∷ us) q = without_owners us (after_cancel u q)

settled_without : (us : List TxnId) (q : Queue) → IsSettled q → IsSettled (without_waits us q)
settled_without [] q h = h
settled_without (u ∷ us) q h = settled_without us (after_cancel u q) (settled_cancel u q h)

waits_without : (t : TxnId) (us : List TxnId) (q : Queue) → has_lock t (without_waits us q).1 ≡ true → (has_lock t q.1 ≡ true) × (is_in t us ≡ false)
waits_without t [] q h = (h, refl)
waits_without t (u ∷ us) q h =
    let k = waits_without t us (after_cancel u q) h in (
      waits_cancel t u q k.0,
      ⊎_elim
          (λ e. absurd (both_ways (has_lock t (after_cancel u q).1) (subst (λ (x : TxnId). has_lock x (after_cancel u q).1 ≡ false) (sym (same_is t u e)) (none_of u q.1)) k.0))
          (λ e. ap (λ b. b || is_in t us) e ∙ k.1)
          (cases_Bool (is_same_txn t u)),
    )

-- where a need is stopped, asking changes no owner
pub asked_owners : (t : TxnId) (n : Need) (at : Queues) → is_stopped t n at ≡ true → (r : RecordId) → (got t n at r).0 ≡ (at r).0
asked_owners t n at stopped r = ⊎_elim
    (λ e. let blocked : is_blocked (at r).0 (lock_of t n.asked) ≡ true = ap (λ (x : RecordId). is_blocked (at x).0 (lock_of t n.asked)) (sym (record_is (record_of n) r e)) ∙ stopped in
    ap (λ (q : Queue). q.0) (cond-true (is_record (record_of n) r) (after_ask (lock_of t n.asked) (at r)) (at r) e ∙ cond-true (is_blocked (at r).0 (lock_of t n.asked)) ((at r).0, (at r).1 ++ lock_of t n.asked ∷ []) (with_lock (lock_of t n.asked) (at r).0, (at r).1) blocked))
    (λ e. ap (λ (q : Queue). q.0) (cond-false (is_record (record_of n) r) (after_ask (lock_of t n.asked) (at r)) (at r) e))
    (cases_Bool (is_record (record_of n) r))

settled_asked : (t : TxnId) (n : Need) (at : Queues) → ((r : RecordId) → IsSettled (at r)) → ((r : RecordId) → has_lock t (at r).1 ≡ false) → (r : RecordId) → IsSettled (got t n at r)
settled_asked t n at settled none r = by (is_record (record_of n) r)
  where
    by : (b : Bool) → IsSettled (cond b (after_ask (lock_of t n.asked) (at r)) (at r))
    by true = settled_ask (lock_of t n.asked) (at r) (settled r) (none r)
    by false = settled r

-- who waits after it waited before, or is the one that asked, there
asked_waits : (t u : TxnId) (n : Need) (at : Queues) (r : RecordId) → has_lock u (got t n at r).1 ≡ true → ((is_same_txn t u ≡ true) × (record_of n ≡ r)) ⊎ (has_lock u (at r).1 ≡ true)
asked_waits t u n at r h = ⊎_elim
    (λ e. ⊎_elim
    (λ s. inl (same_either t u ∙ s, record_is (record_of n) r e))
    (λ s. inr (waits_ask u (lock_of t n.asked) (at r) (sym (ap (λ (q : Queue). has_lock u q.1) (cond-true (is_record (record_of n) r) (after_ask (lock_of t n.asked) (at r)) (at r) e)) ∙ h) s))
    (cases_Bool (is_same_txn u t)))
    (λ e. inr (sym (ap (λ (q : Queue). has_lock u q.1) (cond-false (is_record (record_of n) r) (after_ask (lock_of t n.asked) (at r)) (at r) e)) ∙ h))
    (cases_Bool (is_record (record_of n) r))

pub own_waits_with : (ws : List Wait) (w : Wait) → AllByRecursion (λ v. (v.session == w.session) ≡ false) ws → HaveOwnWaits ws → HaveOwnWaits (ws ++ w ∷ [])
own_waits_with [] w n h = (tt, tt)
own_waits_with (v ∷ vs) w n h = (all_and vs h.0, own_waits_with vs w n.1 h.1)
  where
    turned : (v.session == w.session) ≡ false → (w.session == v.session) ≡ false
    turned e = let k : (w.session == v.session) ≡ (v.session == w.session) = grind (arith, nat_tests) in k ∙ e

    all_and : (xs : List Wait) → AllByRecursion (λ x. (x.session == v.session) ≡ false) xs → AllByRecursion (λ x. (x.session == v.session) ≡ false) (xs ++ w ∷ [])
    all_and [] k = (turned n.0, tt)
    all_and (x ∷ xs) k = (k.0, all_and xs k.1)

-- ---- a call waits, and the victims' calls do no more

-- a victim's session is that of one of the transactions whose waits are gone
victim_gone : (as_ : List Active) (vs : List Victim) (w : Wait) → IsWaitIn as_ w → is_victim w.session vs ≡ true → is_in w.txn (txns_of vs as_) ≡ true
victim_gone as_ vs w i h =
    let s = its_session w.session as_ i.active i.its in
    any_from (is_same_txn w.txn) (txns_of vs as_) i.active.txn
    (among_map (λ (b : Active). b.txn) (filter (λ (b : Active). is_victim b.session vs) as_) i.active
    (among_filter (λ (b : Active). is_victim b.session vs) as_ i.active s.0 (ap (λ (n : ℕ). is_victim n vs) s.1 ∙ h)))
    (subst (λ (x : TxnId). is_same_txn w.txn x ≡ true) (sym i.same) (same_itself w.txn))

-- and the other way round
gone_victim : (last : ℕ) (as_ : List Active) (vs : List Victim) (w : Wait) → AreNumbered last as_ → IsWaitIn as_ w → is_in w.txn (txns_of vs as_) ≡ true → is_victim w.session vs ≡ true
gone_victim last as_ vs w numbers i h =
    let s = its_session w.session as_ i.active i.its in
    let t = any_some (is_same_txn w.txn) (txns_of vs as_) h in
    let b = mapped_among (λ (x : Active). x.txn) (filter (λ (x : Active). is_victim x.session vs) as_) t.0 t.1 in
    let k = filter_among (λ (x : Active). is_victim x.session vs) as_ b.0 b.1 in
    let same : b.0 ≡ i.active = same_active last as_ b.0 i.active numbers k.0 s.0 (b.2 ∙ (sym (same_is w.txn t.0 t.2) ∙ sym i.same)) in
    ap (λ (n : ℕ). is_victim n vs) (sym s.1 ∙ ap (λ (x : Active). x.session) (sym same)) ∙ k.1

abbrev pub kept_by : List Victim → Wait → Bool
kept_by vs w = not (is_victim w.session vs)

some_record : (r : RecordId) → is_some (Some r) ≡ true
some_record r = refl

-- what was told before, or is told now
told_or : (t u : TxnId) (g : Bool) (at : RecordId) (o : Option RecordId) (r : RecordId) → cond g None (cond (is_same_txn t u) (Some at) o) ≡ Some r → (g ≡ false) × ((is_same_txn t u ≡ true) ⊎ (o ≡ Some r))
told_or t u true at o r h = absurd (cc (h))
told_or t u false at o r h = (refl, ⊎_elim (λ e. inl e) (λ e. inr (sym (cond-false (is_same_txn t u) (Some at) o e) ∙ h)) (cases_Bool (is_same_txn t u)))

module _ (last : ℕ) (as_ : List Active) (ch : Changes) (cu : Cursors) (ws : List Wait) (locks : LockState) (a : Active) (w : Wait) (n : Need) (vs : List Victim) where
  abbrev gone : List TxnId
  gone = txns_of vs as_

  abbrev waits_now : List Wait
  waits_now = filter (kept_by vs) (ws ++ w ∷ [])

  -- what is so before the call waits
  pub record IsAsking : Type 0 where
    pub sound : IsSoundAt last as_ ch cu ws locks
    pub its : active_of a.session as_ ≡ Some a
    pub session : w.session ≡ a.session
    pub txn : w.txn ≡ a.txn
    pub told : locks.pending a.txn ≡ None
    pub others : AllByRecursion (λ v. (v.session == a.session) ≡ false) ws
    pub stopped : is_stopped a.txn n locks.at ≡ true

  module _ (k : IsAsking) where
    mine : IsWaitIn as_ w
    mine = record { active = a; its = ap (λ (s : ℕ). active_of s as_) k.session ∙ k.its; same = sym k.txn }

    each_of : (v : Wait) → IsAmong v (ws ++ w ∷ []) → IsWaitIn as_ v
    each_of v there = ⊎_elim (λ h. all_at (IsWaitIn as_) ws v k.sound.waits.each h) (λ h. of_last h) (among_append ws (w ∷ []) v there)
      where
        of_last : IsAmong v (w ∷ []) → IsWaitIn as_ v
        of_last (inl e) = subst (IsWaitIn as_) e mine
        of_last (inr e) = absurd e

    marked_wait : (v : Wait) → IsWaitIn as_ v → IsWaitIn (marked vs as_) v
    marked_wait v i = record {
      active = marked_by (find (λ (x : Victim). x.session == i.active.session) vs) i.active;
      its = marked_found v.session vs as_ i.active i.its;
      same = same_txn (find (λ (x : Victim). x.session == i.active.session) vs) i.active ∙ i.same;
    }

    -- a call that waits and is no victim's is kept
    is_kept : (u : TxnId) (v : Wait) → IsAmong v (ws ++ w ∷ []) → v.txn ≡ u → is_in u gone ≡ false → has_wait u waits_now ≡ true
    is_kept u v there its free = any_from (λ (x : Wait). is_same_txn u x.txn) waits_now v
        (among_filter (kept_by vs) (ws ++ w ∷ []) v there (ap not (⊎_elim
        (λ e. absurd (both_ways (is_in u gone) free (subst (λ (x : TxnId). is_in x gone ≡ true) its (victim_gone as_ vs v (each_of v there) e))))
        (λ e. e)
        (cases_Bool (is_victim v.session vs)))))
        (subst (λ (x : TxnId). is_same_txn u x ≡ true) (sym its) (same_itself u))

    pub waits_stay : HaveWaits (marked vs as_) waits_now (with_wait a.txn n gone locks).pending
    waits_stay = record {
      sessions = marked_own vs as_ k.sound.waits.sessions;
      each = all_of (IsWaitIn (marked vs as_)) waits_now (λ v h. marked_wait v (each_of v (filter_among (kept_by vs) (ws ++ w ∷ []) v h).0));
      apart = waits_filter (kept_by vs) (ws ++ w ∷ []) (own_waits_with ws w (subst (λ (s : ℕ). AllByRecursion (λ (v : Wait). (v.session == s) ≡ false) ws) (sym k.session) k.others) k.sound.waits.apart);
      told = λ u r h. let o = told_or a.txn u (is_in u gone) (record_of n) (locks.pending u) r h in
          ⊎_elim
          (λ e. is_kept u w (among_second ws (w ∷ []) w (inl refl)) (k.txn ∙ same_is a.txn u e) o.0)
          (λ e. let v = wait_of_told u as_ ws locks.pending k.sound.waits r e in is_kept u v.wait (among_first ws (w ∷ []) v.wait v.there) v.its o.0)
          o.1;
    }

    nowhere : (r : RecordId) → has_lock a.txn (locks.at r).1 ≡ false
    nowhere r = waits_nowhere locks a.txn k.sound.tables k.told r

    owners_stay : (r : RecordId) → ((with_wait a.txn n gone locks).at r).0 ≡ (locks.at r).0
    owners_stay r = without_owners gone (got a.txn n locks.at r) ∙ asked_owners a.txn n locks.at k.stopped r

    told_now : (u : TxnId) (r : RecordId) → has_lock u ((with_wait a.txn n gone locks).at r).1 ≡ true → (with_wait a.txn n gone locks).pending u ≡ Some r
    told_now u r h =
        let x = waits_without u gone (got a.txn n locks.at r) h in
        cond-false (is_in u gone) None (cond (is_same_txn a.txn u) (Some (record_of n)) (locks.pending u)) x.1
        ∙ ⊎_elim
        (λ e. cond-true (is_same_txn a.txn u) (Some (record_of n)) (locks.pending u) e.0 ∙ ap (λ (q : RecordId). Some q) e.1)
        (λ e. cond-false (is_same_txn a.txn u) (Some (record_of n)) (locks.pending u) (other u r e) ∙ k.sound.tables.alone u r e)
        (asked_waits a.txn u n locks.at r x.0)
      where
        other : (y : TxnId) (q : RecordId) → has_lock y (locks.at q).1 ≡ true → is_same_txn a.txn y ≡ false
        other y q e = ⊎_elim
            (λ s. absurd (both_ways (has_lock y (locks.at q).1) (subst (λ (t : TxnId). has_lock t (locks.at q).1 ≡ false) (same_is a.txn y s) (nowhere q)) e))
            (λ s. s)
            (cases_Bool (is_same_txn a.txn y))

    pub sound_stays : IsSoundAt last (marked vs as_) ch cu waits_now (with_wait a.txn n gone locks)
    sound_stays = record {
      numbers = marked_numbered last vs as_ k.sound.numbers;
      waits = waits_stay;
      tables = record {
        settled = λ r. settled_without gone (got a.txn n locks.at r) (settled_asked a.txn n locks.at k.sound.tables.settled nowhere r);
        alone = told_now;
      };
      owners = λ u r h. marked_active u vs as_ ∙ k.sound.owners u r (ap (has_lock u) (sym (owners_stay r)) ∙ h);
      own_active = λ m h. k.sound.own_active m (sym (marked_active (txn_id m) vs as_) ∙ h);
      own_locked = λ m. all_each (HoldsWrite locks.at (txn_id m)) (HoldsWrite (with_wait a.txn n gone locks).at (txn_id m))
          (λ c h. subst (HasWrite (txn_id m)) (sym (owners_stay (place_of c))) h) (ch m) (k.sound.own_locked m);
      places = λ session h. k.sound.places session (marked_none session vs as_ h);
    }

    told_each : AllByRecursion (λ v. is_some (locks.pending v.txn) ≡ true) ws → AllByRecursion (λ v. is_some ((with_wait a.txn n gone locks).pending v.txn) ≡ true) waits_now
    told_each before = all_of (λ v. is_some ((with_wait a.txn n gone locks).pending v.txn) ≡ true) waits_now (λ v h. let f = filter_among (kept_by vs) (ws ++ w ∷ []) v h in
        ap is_some (cond-false (is_in v.txn gone) None (cond (is_same_txn a.txn v.txn) (Some (record_of n)) (locks.pending v.txn)) (not_gone v f.0 (not_true (is_victim v.session vs) f.1)))
        ∙ ⊎_elim
        (λ e. ap is_some (cond-true (is_same_txn a.txn v.txn) (Some (record_of n)) (locks.pending v.txn) e))
        (λ e. ap is_some (cond-false (is_same_txn a.txn v.txn) (Some (record_of n)) (locks.pending v.txn) e) ∙ was_told v f.0 e)
        (cases_Bool (is_same_txn a.txn v.txn)))
      where
        not_gone : (v : Wait) → IsAmong v (ws ++ w ∷ []) → is_victim v.session vs ≡ false → is_in v.txn gone ≡ false
        not_gone v there e = ⊎_elim
            (λ x. absurd (both_ways (is_victim v.session vs) e (gone_victim last as_ vs v k.sound.numbers (each_of v there) x)))
            (λ x. x)
            (cases_Bool (is_in v.txn gone))

        was_told : (v : Wait) → IsAmong v (ws ++ w ∷ []) → is_same_txn a.txn v.txn ≡ false → is_some (locks.pending v.txn) ≡ true
        was_told v there e = ⊎_elim (λ x. all_at (λ (y : Wait). is_some (locks.pending y.txn) ≡ true) ws v before x) (λ x. last_one x) (among_append ws (w ∷ []) v there)
          where
            last_one : IsAmong v (w ∷ []) → is_some (locks.pending v.txn) ≡ true
            last_one (inl x) = absurd (both_ways (is_same_txn a.txn v.txn) e (subst (λ (t : TxnId). is_same_txn a.txn t ≡ true) (sym k.txn ∙ ap (λ (y : Wait). y.txn) x) (same_itself a.txn)))
            last_one (inr x) = absurd x

    pub right_stays : AllByRecursion (λ v. is_some (locks.pending v.txn) ≡ true) ws → AllByRecursion (λ v. MayWait v.call) ws → MayWait w.call
        → IsRightAt last (marked vs as_) ch cu waits_now (with_wait a.txn n gone locks)
    right_stays before calls may = record {
      sound = sound_stays;
      waiting = told_each before;
      calls = all_of (λ v. MayWait v.call) waits_now (λ v h. ⊎_elim (λ x. all_at (λ (y : Wait). MayWait y.call) ws v calls x) (λ x. last_call v x) (among_append ws (w ∷ []) v (filter_among (kept_by vs) (ws ++ w ∷ []) v h).0));
    }
      where
        last_call : (v : Wait) → IsAmong v (w ∷ []) → MayWait v.call
        last_call v (inl x) = subst (λ (y : Wait). MayWait y.call) x may
        last_call v (inr x) = absurd x
