-- A transaction ends: what it leaves agrees with what was there at all names that it did not write, and it wrote none that another one read.
use Rattle.std.proofs.Common.{◌≡◌, ◌≤◌, ◌+◌, ◌⊎◌, inl, inr, ℕ, ◌==◌, Bool, true, false, not, List, [], ◌∷◌, ◌++◌, Option, None, Some, refl, ap, ap₂, sym, ◌∙◌, subst, ⊎_elim, arith}
use Rattle.std.specs.List.{AllByRecursion}
use Rattle.std.proofs.lemmas.Bool.{cases_Bool, cond-true, cond-false, both_ways, eqb-true}
use Rattle.je_order.specs.declared.name.Name.{Name}
use Rattle.je_order.specs.declared.bound.Bound.TheVariants.{At as On}
use Rattle.je_order.specs.declared.txn_id.TxnId.{TxnId}
use Rattle.je_order.specs.Transactions.{is_same_txn}
use Rattle.je_order.proofs.TxnIds.{same_is}
use Rattle.lock_mode.specs.Modes.{can_be_held}
use Rattle.lock_table.specs.declared.record_id.RecordId.{RecordId}
use Rattle.lock_table.specs.declared.lock.Lock.{Lock}
use Rattle.lock_table.specs.Locks.{after_release}
use Rattle.store_model.specs.declared.isolation.Isolation.{Isolation}
use Rattle.store_model.specs.declared.store.Database.{Database}
use Rattle.store_model.specs.declared.store.Store.{Store}
use Rattle.store_model.specs.declared.change.Change.{Change}
use Rattle.store_model.specs.declared.change.Change.TheVariants.{Set, Unset, Make, MakeIndex, Remove, Rename, Empty}
use Rattle.store_model.specs.declared.record_change.RecordChange.{RecordChange}
use Rattle.store_model.specs.declared.record_change.RecordChange.TheVariants.{Set as SetRecord, Unset as UnsetRecord}
use Rattle.store_model.specs.Store.{all_pairs_changed, all_changed, change_in, IsStore}
use Rattle.store_model.specs.Reads.{at_name}
use Rattle.store_model.specs.Refusals.{made_by}
use Rattle.store_model.specs.Needs.{changed_name}
use Rattle.je_answers.specs.declared.active.Active.{Active}
use Rattle.je_answers.specs.Standing.{Standing, place_at, with_at, all_numbered}
use Rattle.je_answers.specs.Views.{of_db, changes_in, changes_named}
use Rattle.je_answers.specs.After.{committed_if_any, ended, without_session}
use Rattle.standing_laws.specs.Right.{AreSound, HoldsWrite, HasWrite, txn_id}
use Rattle.standing_laws.proofs.Among.{IsAmong, all_at, all_of, filter_among}
use Rattle.standing_laws.proofs.Stays.{same_active}
use Rattle.serial_replay.specs.Replay.{AnsweredCall}
use Rattle.serial_replay.proofs.Locality.{same_there}
use Rattle.serial_replay.proofs.Changing.{name_in, IsNoneOf, unchanged, one_or_none}
use Rattle.serial_replay.proofs.Holding.{Holds, release_keeps, clash}
use Rattle.serial_replay.proofs.Occupied.{IsWritten, of_db_is}
use Rattle.serial_replay.proofs.Shut.{place}
use Rattle.serial_replay.proofs.Stores.{Base, Numbers, base_in, pairs_in, base_at, pairs_at, IsFit, AreNumbered, all_base, all_pairs, AreOver, all_right, over_all, numbered_all}
use Rattle.serial_replay.proofs.Upkeep.{AreUp, up_own}
use Rattle.serial_replay.proofs.IndexBases.{up_committed}
use Rattle.serial_replay.proofs.Keeping.{occupied_at, IsStable, stable_same, IsWell, IsKept, own_same, fits_kept, keeps_kept, IsGround, EachBut, IsKnown}

-- ---- a commit changes records alone

abbrev pub IsOfRecords : Change → Type 0
IsOfRecords (Set db at value) = Unit {0}
IsOfRecords (Unset db at) = Unit {0}
IsOfRecords (Make db kind) = ⊥
IsOfRecords (MakeIndex db index) = ⊥
IsOfRecords (Remove db) = ⊥
IsOfRecords (Rename db to) = ⊥
IsOfRecords (Empty db) = ⊥

one_of_records : (db : List ℕ) (c : RecordChange) → IsOfRecords (change_in db c)
one_of_records db (SetRecord at value) = tt
one_of_records db (UnsetRecord at) = tt

append_records : (xs ys : List Change) → AllByRecursion IsOfRecords xs → AllByRecursion IsOfRecords ys → AllByRecursion IsOfRecords (xs ++ ys)
append_records [] ys h k = k
append_records (x ∷ xs) ys h k = (h.0, append_records xs ys h.1 k)

in_of_records : (o : Option Database) (c : RecordChange) → AllByRecursion IsOfRecords (changes_in o c)
in_of_records None c = tt
in_of_records (Some d) c = (one_of_records d.name c, tt)

named_of_records : (st : Standing) (cs : List (ℕ × RecordChange)) → AllByRecursion IsOfRecords (changes_named st cs)
named_of_records st [] = tt
named_of_records st (c ∷ cs) = append_records (changes_in _ c.1) (changes_named st cs) (in_of_records _ c.1) (named_of_records st cs)

pub same_numbers : (changes : List Change) (last : ℕ) (numbers : Numbers) → AllByRecursion IsOfRecords changes → all_numbered changes last numbers ≡ numbers
same_numbers [] last numbers h = refl
same_numbers (Set db at value ∷ changes) last numbers h = same_numbers changes (last + made_by (Set db at value ∷ [])) numbers h.1
same_numbers (Unset db at ∷ changes) last numbers h = same_numbers changes (last + made_by (Unset db at ∷ [])) numbers h.1
same_numbers (Make db kind ∷ changes) last numbers h = absurd h.0
same_numbers (MakeIndex db index ∷ changes) last numbers h = absurd h.0
same_numbers (Remove db ∷ changes) last numbers h = absurd h.0
same_numbers (Rename db to ∷ changes) last numbers h = absurd h.0
same_numbers (Empty db ∷ changes) last numbers h = absurd h.0

pub none_made : (changes : List Change) → AllByRecursion IsOfRecords changes → made_by changes ≡ 0
none_made [] h = refl
none_made (Set db at value ∷ changes) h = none_made changes h.1
none_made (Unset db at ∷ changes) h = none_made changes h.1
none_made (Make db kind ∷ changes) h = absurd h.0
none_made (MakeIndex db index ∷ changes) h = absurd h.0
none_made (Remove db ∷ changes) h = absurd h.0
none_made (Rename db to ∷ changes) h = absurd h.0
none_made (Empty db ∷ changes) h = absurd h.0

-- ---- an end

-- a transaction ended and these changes were committed
pub record IsEndOf (st : Standing) (a : Active) (cs : List (ℕ × RecordChange)) (new : Standing) : Type 0 where
  pub store : new.store ≡ all_changed (changes_named st cs) st.store
  pub numbers : new.numbers ≡ st.numbers
  pub last_db : new.last_db ≡ st.last_db
  pub last_txn : new.last_txn ≡ st.last_txn
  pub actives : new.actives ≡ without_session a.session st.actives
  pub own : (t : ℕ) → new.own t ≡ with_at a.txn.0 [] st.own t
  pub places : (session : ℕ) → new.places session ≡ with_at a.session [] st.places session
  pub locks : (r : RecordId) → new.locks.at r ≡ after_release a.txn (st.locks.at r)

end_by : (st : Standing) (a : Active) (cs : List (ℕ × RecordChange)) (changes : List Change) → changes ≡ changes_named st cs → AllByRecursion IsOfRecords changes → IsEndOf st a cs (ended a (committed_if_any changes st))
end_by st a cs [] e h = record {
  store = ap (λ (l : List Change). all_changed l st.store) e;
  numbers = refl;
  last_db = refl;
  last_txn = refl;
  actives = refl;
  own = λ t. refl;
  places = λ session. refl;
  locks = λ r. refl;
}
end_by st a cs (c ∷ changes) e h = record {
  store = ap (λ (l : List Change). all_changed l st.store) e;
  numbers = same_numbers (c ∷ changes) st.last_db st.numbers h;
  last_db = more (made_by (c ∷ changes)) (none_made (c ∷ changes) h);
  last_txn = refl;
  actives = refl;
  own = λ t. refl;
  places = λ session. refl;
  locks = λ r. refl;
}
  where
    more : (m : ℕ) → m ≡ 0 → st.last_db + m ≡ st.last_db
    more m k = omega (arith, k)

pub end_is : (st : Standing) (a : Active) (cs : List (ℕ × RecordChange)) → IsEndOf st a cs (ended a (committed_if_any (changes_named st cs) st))
end_is st a cs = end_by st a cs (changes_named st cs) refl (named_of_records st cs)

pub end_named : (st : Standing) (a : Active) (cs : List (ℕ × RecordChange)) (changes : List Change) → changes ≡ changes_named st cs → IsEndOf st a cs (ended a (committed_if_any changes st))
end_named st a cs changes e = end_by st a cs changes e (subst (AllByRecursion IsOfRecords) (sym e) (named_of_records st cs))

module _ (st : Standing) (a : Active) (cs : List (ℕ × RecordChange)) (new : Standing) (told : List AnsweredCall) (sound : AreSound st) (there : IsAmong a st.actives) (ground : IsGround st told)
    (whole : (cs ≡ []) ⊎ (cs ≡ st.own a.txn.0)) (end : IsEndOf st a cs new) where
  its : (c : ℕ × RecordChange) → IsAmong c cs → IsAmong c (st.own a.txn.0)
  its c k = by whole
    where
      by : (cs ≡ []) ⊎ (cs ≡ st.own a.txn.0) → IsAmong c (st.own a.txn.0)
      by (inl e) = absurd (subst (IsAmong c) e k)
      by (inr e) = subst (IsAmong c) e k

  fit : AllByRecursion (IsFit st) cs
  fit = all_of (IsFit st) cs (λ c k. all_at (IsFit st) (st.own a.txn.0) c (ground.fits a.txn.0) (its c k))

  same_base : (n : ℕ) → base_at n new ≡ base_at n st
  same_base n = ap₂ (λ (m : Numbers) (s : Store). base_in m n s) end.numbers end.store ∙ all_base st.numbers st.store cs st.store fit (λ m. refl) n

  pairs_are : (n : ℕ) (b : Base) → base_at n st ≡ Some b → pairs_at n new ≡ all_pairs_changed b.1 (of_db n cs) (pairs_at n st)
  pairs_are n b e = ap₂ (λ (m : Numbers) (s : Store). pairs_in m n s) end.numbers end.store ∙ all_pairs st.numbers st.store cs st.store fit (λ m. refl) n b e

  pub stable_end : IsStable st new
  stable_end = stable_same st new same_base

  -- a name that a change is of is written
  written : (n : ℕ) (b : Base) (x : Name) (c : RecordChange) → base_at n st ≡ Some b → IsAmong c (of_db n cs) → name_in b.1 c ≡ x → IsAmong (n, c) (st.own a.txn.0) × (changed_name c ≡ x)
  written n b x c e k is =
      let o = its (n, c) (of_db_is n cs c k) in
      let f = all_at (IsFit st) (st.own a.txn.0) (n, c) (ground.fits a.txn.0) o in
      (o, name f.base (some_is f.base b (sym f.there ∙ e)) f.its)
    where
      some_is : (p q : Base) → Some p ≡ Some q → p ≡ q
      some_is p q h = cc (h)

      name : (q : Base) → q ≡ b → name_in q.1 c ≡ changed_name c → changed_name c ≡ x
      name q same proper = sym proper ∙ (ap (λ (z : Base). name_in z.1 c) same ∙ is)

  -- there nobody else has a lock
  nobody : (t : TxnId) (n : ℕ) (x : Name) (c : RecordChange) → (t ≡ a.txn → ⊥) → IsAmong (n, c) (st.own a.txn.0) → changed_name c ≡ x → Holds can_be_held t (st.locks.at (place n (On x))).0 → ⊥
  nobody t n x c apart k is h =
      let w = all_at (HoldsWrite st.locks.at (txn_id a.txn.0)) (st.own a.txn.0) (n, c) (sound.own_locked a.txn.0) k in
      clash t a.txn (st.locks.at (place n (On x))).0 (sound.tables.settled (place n (On x))).owners
      (⊎_elim (λ e. absurd (apart (sym (same_is a.txn t e)))) (λ e. e) (cases_Bool (is_same_txn a.txn t)))
      h (subst (λ (m : Name). HasWrite a.txn (st.locks.at (place n (On m))).0) is w)

  own_others : (t : ℕ) → (t ≡ a.txn.0 → ⊥) → new.own t ≡ st.own t
  own_others t apart = end.own t ∙ cond-false (t == a.txn.0) [] (st.own t) (⊎_elim (λ e. absurd (apart (eqb-true t a.txn.0 e))) (λ e. e) (cases_Bool (t == a.txn.0)))

  -- what is written afterwards was written before, by another one
  written_before : (n : ℕ) (x : Name) → IsWritten new.own n x → IsWritten st.own n x
  written_before n x w = ⊎_elim
      (λ e. absurd (subst (IsAmong (n, w.change)) (end.own w.txn ∙ cond-true (w.txn == a.txn.0) [] (st.own w.txn) e) w.there))
      (λ e. record { txn = w.txn; change = w.change; there = subst (IsAmong (n, w.change)) (end.own w.txn ∙ cond-false (w.txn == a.txn.0) [] (st.own w.txn) e) w.there; named = w.named })
      (cases_Bool (w.txn == a.txn.0))

  pub kept_end : (t : TxnId) (level : Isolation) → (t ≡ a.txn → ⊥) → IsKept t level st new
  kept_end t level apart = record {
    locks = λ sort s r h. subst (λ (q : List Lock × List Lock). Holds sort t q.0) (sym (end.locks r)) (release_keeps sort s a.txn t (st.locks.at r) other h);
    alike = λ n b x used e. ⊎_elim
        (λ c. let w = written n b x c.0 e c.1 c.2 in inr (inr (record { txn = a.txn.0; change = c.0; there = w.0; named = w.1 }), nobody t n x c.0 apart w.0 w.1))
        (λ none. inl (same n b x e none))
        (one_or_none b.1 x (of_db n cs));
    occupied = λ ser n b x used e o. inl (before n b x e o);
    stays = λ n b x used e h o. after n b x e h o;
  }
    where
      other : is_same_txn a.txn t ≡ false
      other = ⊎_elim (λ e. absurd (apart (sym (same_is a.txn t e)))) (λ e. e) (cases_Bool (is_same_txn a.txn t))

      same : (n : ℕ) (b : Base) (x : Name) → base_at n st ≡ Some b → IsNoneOf b.1 x (of_db n cs) → at_name b.1 x (pairs_at n st) ≡ at_name b.1 x (pairs_at n new)
      same n b x e none = sym (ap (at_name b.1 x) (pairs_are n b e) ∙ unchanged b.1 (of_db n cs) x (pairs_at n st) none)

      before : (n : ℕ) (b : Base) (x : Name) → base_at n st ≡ Some b → occupied_at new n b.1 x → occupied_at st n b.1 x
      before n b x e (inr w) = inr (written_before n x w)
      before n b x e (inl r) = ⊎_elim
          (λ c. let w = written n b x c.0 e c.1 c.2 in inr (record { txn = a.txn.0; change = c.0; there = w.0; named = w.1 }))
          (λ none. inl (record { pair = r.pair; there = same_there b.1 (pairs_at n new) (pairs_at n st) r.pair (subst (λ (m : Name). at_name b.1 m (pairs_at n new) ≡ at_name b.1 m (pairs_at n st)) (sym r.named) (sym (same n b x e none))) r.there; named = r.named }))
          (one_or_none b.1 x (of_db n cs))

      after : (n : ℕ) (b : Base) (x : Name) → base_at n st ≡ Some b → Holds can_be_held t (st.locks.at (place n (On x))).0 → occupied_at st n b.1 x → occupied_at new n b.1 x
      after n b x e h (inl r) = ⊎_elim
          (λ c. let w = written n b x c.0 e c.1 c.2 in absurd (nobody t n x c.0 apart w.0 w.1 h))
          (λ none. inl (record { pair = r.pair; there = same_there b.1 (pairs_at n st) (pairs_at n new) r.pair (subst (λ (m : Name). at_name b.1 m (pairs_at n st) ≡ at_name b.1 m (pairs_at n new)) (sym r.named) (same n b x e none)) r.there; named = r.named }))
          (one_or_none b.1 x (of_db n cs))
      after n b x e h (inr w) = inr (record {
        txn = w.txn;
        change = w.change;
        named = w.named;
        there = subst (IsAmong (n, w.change)) (sym (own_others w.txn (λ k. nobody t n x w.change apart (subst (λ (m : ℕ). IsAmong (n, w.change) (st.own m)) k w.there) w.named h))) w.there;
      })

  fits_end : (t : ℕ) → AllByRecursion (IsFit new) (new.own t)
  fits_end t = ⊎_elim
      (λ e. subst (AllByRecursion (IsFit new)) (sym (end.own t ∙ cond-true (t == a.txn.0) [] (st.own t) e)) tt)
      (λ e. subst (AllByRecursion (IsFit new)) (sym (end.own t ∙ cond-false (t == a.txn.0) [] (st.own t) e)) (fits_kept st new t sound (ground.fits t) stable_end))
      (cases_Bool (t == a.txn.0))

  right_end : IsStore new.store
  right_end = subst IsStore (sym end.store) (all_right (changes_named st cs) st.store ground.well.store)

  well_end : IsWell new
  well_end = record {
    store = right_end;
    numbers = subst (λ (ds : List Database). AreNumbered new.numbers new.last_db ds) (sym (ap (λ (s : Store). s.databases) end.store))
        (subst (λ (m : Numbers). AreNumbered m new.last_db (all_changed (changes_named st cs) st.store).databases) (sym end.numbers)
        (subst (λ (l : ℕ). AreNumbered st.numbers l (all_changed (changes_named st cs) st.store).databases) (sym end.last_db)
        (numbered_all st.numbers st.last_db st.store cs st.store ground.well.numbers)));
    over = subst AreOver (sym end.store) (over_all st.numbers st.store cs st.store ground.well.over);
  }

  -- indexes are kept up
  up_end : (cs ≡ []) ⊎ (cs ≡ st.own a.txn.0) → AreUp new
  up_end (inl e) = up_own st new (end.store ∙ ap (λ (l : List (ℕ × RecordChange)). all_changed (changes_named st l) st.store) e) end.numbers own_or_none ground.up
    where
      own_or_none : (t : ℕ) → (new.own t ≡ st.own t) ⊎ (new.own t ≡ [])
      own_or_none t = ⊎_elim
          (λ k. inr (end.own t ∙ cond-true (t == a.txn.0) [] (st.own t) k))
          (λ k. inl (end.own t ∙ cond-false (t == a.txn.0) [] (st.own t) k))
          (cases_Bool (t == a.txn.0))
  up_end (inr e) = up_committed st a new told sound ground (record {
    bases = same_base;
    pairs = λ n b k. pairs_are n b k ∙ ap (λ (l : List (ℕ × RecordChange)). all_pairs_changed b.1 (of_db n l) (pairs_at n st)) e;
    own = end.own;
  })

  pub ground_end : IsGround new told
  ground_end = record {
    well = well_end;
    fits = fits_end;
    up = up_end whole;
    last = subst (λ (l : ℕ). AllByRecursion (λ (c : AnsweredCall). c.txn.0 ≤ l) told) (sym end.last_txn) ground.last;
  }

  pub known_end : EachBut a.txn st told st.actives → IsKnown new told
  known_end each = record {
    ground = ground_end;
    each = λ b k keep. let f = filter_among (λ (c : Active). not (c.session == a.session)) st.actives b (subst (IsAmong b) end.actives k) in
        keeps_kept b.txn b.level b.session b.is_auto st new told told stable_end ground.well well_end (kept_end b.txn b.level (apart b f.0 f.1))
        (λ own_call cursor. ap (place_at cursor) (end.places b.session ∙ cond-false (b.session == a.session) [] (st.places b.session) (not_true (b.session == a.session) f.1))) (λ c i. own_same st new b.txn sound (ground.fits b.txn.0) stable_end c i)
        (own_others b.txn.0 (λ e. apart b f.0 f.1 (ap (λ (m : ℕ). txn_id m) e))) refl (each b f.0 (apart b f.0 f.1) keep);
  }
    where
      same_number : (m : ℕ) → (m == m) ≡ true
      same_number m = by (m == m) refl
        where
          by : (x : Bool) → (m == m) ≡ x → (m == m) ≡ true
          by true e = e
          by false e = absurd (not_itself m e)
            where
              not_itself : (k : ℕ) → (k == k) ≡ false → ⊥
              not_itself k h = grind (arith, h)

      not_true : (x : Bool) → not x ≡ true → x ≡ false
      not_true true h = absurd (cc (h))
      not_true false h = refl

      apart : (b : Active) → IsAmong b st.actives → not (b.session == a.session) ≡ true → b.txn ≡ a.txn → ⊥
      apart b k other e =
          let same : b ≡ a = same_active st.last_txn st.actives b a sound.numbers k there e in
          both_ways (b.session == a.session) (not_true (b.session == a.session) other) (ap (λ (x : Active). x.session == a.session) same ∙ same_number a.session)
