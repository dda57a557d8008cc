-- A call that waits, and its victims that are transactions of one call and end.
use Rattle.std.proofs.Common.{◌≡◌, ℕ, ◌==◌, Bool, true, false, not, List, [], ◌∷◌, ◌++◌, Some, refl, ap, ◌∙◌, subst, ⊎_elim}
use Rattle.std.specs.List.{filter, AllByRecursion}
use Rattle.std.proofs.lemmas.Bool.{cases_Bool, both_ways, eqb-true, and_parts}
use Rattle.je_order.proofs.TxnIds.{same_itself}
use Rattle.je_order.specs.Transactions.{is_same_txn}
use Rattle.store_model.specs.declared.call.Call.{Call}
use Rattle.store_model.specs.declared.need.Need.{Need}
use Rattle.store_model.specs.declared.victim.Victim.{Victim}
use Rattle.je_answers.specs.declared.active.Active.{Active}
use Rattle.je_answers.specs.declared.wait.Wait.{Wait}
use Rattle.je_answers.specs.Standing.{Standing}
use Rattle.je_answers.specs.Views.{Target, needs_in}
use Rattle.je_answers.specs.Locking.{granted_part, first_blocked, with_wait}
use Rattle.je_answers.specs.Events.{asking, locks_before}
use Rattle.je_answers.specs.After.{ended, all_ended, marked, is_victim, txns_of, autos_in, without_session, without_waits_of, with_victims, with_waiting}
use Rattle.active_txns.specs.Marks.{HaveOwnSessions}
use Rattle.standing_laws.specs.Right.{AreRight, IsRightAt, IsSoundAt, MayWait}
use Rattle.standing_laws.proofs.Among.{IsAmong, any_from, all_at, all_of, among_filter, filter_among}
use Rattle.standing_laws.proofs.Steps.{sound_all_got, granted_free, stopped_behind}
use Rattle.standing_laws.proofs.Moves.{own_filter}
use Rattle.standing_laws.proofs.Marks.{is_auto_victim, marked_own, ends_marked}
use Rattle.standing_laws.proofs.Stays.{right_ended, right_all_back, kept_by, right_stays}
use Rattle.standing_laws.proofs.StandingsStay.{MayRun, there_is, untold_has-no_wait}

-- what an end keeps, several ends keep, none of them of a session whose call waits
ends_keep : (P : Standing → Type 0) → ((st : Standing) (a : Active) → AreRight st → IsAmong a st.actives → P st → P (ended a st)) → (l : List Active) (st : Standing) → HaveOwnSessions l → AllByRecursion (λ a. IsAmong a st.actives) l
    → AllByRecursion (λ a. AllByRecursion (λ w. (w.session == a.session) ≡ false) st.waiting) l → AreRight st → P st → P (all_ended l st)
ends_keep P step [] st own there others r p = p
ends_keep P step (a ∷ as_) st own there others r p =
    ends_keep P step as_ (ended a st) own.1
    (all_of (λ b. IsAmong b (without_session a.session st.actives)) as_ (λ b k. among_filter (λ (c : Active). not (c.session == a.session)) st.actives b (all_at (λ c. IsAmong c st.actives) as_ b there.1 k)
    (ap not (all_at (λ (c : Active). (c.session == a.session) ≡ false) as_ b own.0 k))))
    others.1 (right_ended st a r there.0 others.0) (step st a r there.0 p)

not_true : (b : Bool) → not b ≡ true → b ≡ false
not_true true h = absurd (cc (h))
not_true false h = refl

apart_victims : (vs : List Victim) (w : Wait) (b : Active) → is_victim b.session vs ≡ true → is_victim w.session vs ≡ false → (w.session == b.session) ≡ false
apart_victims vs w b h k = ⊎_elim
    (λ e. absurd (both_ways (is_victim w.session vs) k (ap (λ (n : ℕ). is_victim n vs) (eqb-true w.session b.session e) ∙ h)))
    (λ e. e)
    (cases_Bool (w.session == b.session))

module _ (st : Standing) (a : Active) (line : ℕ) (call : Call) (g : Target) (n : Need) (vs : List Victim) (may : MayWait call) (m : MayRun st a) (stopped : first_blocked a.txn (needs_in st a call g) st.locks.at ≡ Some n) where
  -- where the call waits, and the victims' calls no more
  abbrev pub waiting_now : Standing
  waiting_now = without_waits_of vs (with_waiting st a line call g n vs)

  pub sound_before : IsSoundAt st.last_txn st.actives st.own st.places st.waiting (locks_before st a call g)
  sound_before = sound_all_got st.last_txn st.actives st.own st.places st.waiting st.locks a.txn (granted_part a.txn (needs_in st a call g) st.locks.at) m.right.sound
      (any_from (λ (b : Active). is_same_txn a.txn b.txn) st.actives a (there_is st a m) (same_itself a.txn)) m.told (granted_free a.txn (needs_in st a call g) st.locks.at)

  -- where the victims' locks all stand yet
  pub right_asked : IsRightAt st.last_txn waiting_now.actives st.own st.places waiting_now.waiting (with_wait a.txn n (txns_of vs st.actives) (locks_before st a call g))
  right_asked = right_stays st.last_txn st.actives st.own st.places st.waiting (locks_before st a call g) a (asking a line call) n vs
      (record {
        sound = sound_before;
        its = m.its;
        session = refl;
        txn = refl;
        told = m.told;
        others = untold_has-no_wait st a m.right m.its m.told;
        stopped = stopped_behind a.txn (needs_in st a call g) st.locks.at n stopped;
      }) m.right.waiting m.right.calls may

  right_waiting : AreRight waiting_now
  right_waiting = right_all_back (filter (λ b. is_victim b.session vs) st.actives) st.last_txn waiting_now.actives st.own st.places waiting_now.waiting (with_wait a.txn n (txns_of vs st.actives) (locks_before st a call g)) right_asked

  pub victims_keep : (P : Standing → Type 0) → ((x : Standing) (b : Active) → AreRight x → IsAmong b x.actives → P x → P (ended b x)) → P waiting_now → P (with_victims vs (with_waiting st a line call g n vs))
  victims_keep P step p =
      subst P (ends_marked vs vs st.actives waiting_now)
      (ends_keep P step (autos_in vs (marked vs st.actives)) waiting_now
      (own_filter (is_auto_victim vs) (marked vs st.actives) (marked_own vs st.actives m.right.sound.waits.sessions))
      (all_of (λ b. IsAmong b (marked vs st.actives)) (autos_in vs (marked vs st.actives)) (λ b k. (filter_among (is_auto_victim vs) (marked vs st.actives) b k).0))
      (all_of (λ b. AllByRecursion (λ w. (w.session == b.session) ≡ false) waiting_now.waiting) (autos_in vs (marked vs st.actives)) (λ b k. all_of (λ w. (w.session == b.session) ≡ false) waiting_now.waiting (λ w h.
      apart_victims vs w b (and_parts b.is_auto (is_victim b.session vs) (filter_among (is_auto_victim vs) (marked vs st.actives) b k).1).1 (not_true (is_victim w.session vs) (filter_among (kept_by vs) (st.waiting ++ asking a line call ∷ []) w h).1))))
      right_waiting p)
