-- Indexes by name and by number: what holds of an environment at its beginning, and what its transactions see.
use Rattle.std.proofs.Common.{◌≡◌, ℕ, ◌==◌, List, [], Option, None, Some, refl, ap, sym, ◌∙◌, subst}
use Rattle.std.specs.List.{AllByRecursion}
use Rattle.je_order.specs.Order.{is_same_bytes}
use Rattle.store_model.specs.declared.store.Database.{Database}
use Rattle.store_model.specs.declared.index.Index.{Index}
use Rattle.store_model.specs.declared.extract.Extract.{Extract}
use Rattle.store_model.specs.Store.{database_of}
use Rattle.store_model.specs.Indexes.{IsMadeFrom, IsIndex, AreIndexed, index_pairs}
use Rattle.je_answers.specs.declared.active.Active.{Active}
use Rattle.je_answers.specs.Standing.{Standing, database_at}
use Rattle.je_answers.specs.Views.{of_db}
use Rattle.standing_laws.specs.Right.{AreSound}
use Rattle.standing_laws.proofs.Among.{IsAmong, all_at, all_of, found_is}
use Rattle.index_laws.specs.Keeping.{KeepUp}
use Rattle.indexed_standings.specs.Indexed.{IsKeptFor, IsKept, AreIndexedFor}
use Rattle.indexed_standings.proofs.Seeing.{seen-indexed}
use Rattle.serial_replay.specs.Replay.{AnsweredCall}
use Rattle.serial_replay.proofs.Stores.{over_by, base_of, pairs_of, based, base_at, pairs_at, bytes_exact, number_of_found, by_number, found_there}
use Rattle.serial_replay.proofs.Upkeep.{by_extract, IsUp, AreUp, keep_same, keep_none}
use Rattle.serial_replay.proofs.Keeping.{IsWell, IsGround}
use Rattle.serial_replay.proofs.IndexBases.{without_data}

over_is : (x y : ℕ × Extract) → Some x ≡ Some y → x ≡ y
over_is x y h = cc (h)

-- ---- nobody has changed anything

module _ (st : Standing) (well : IsWell st) (indexed : AreIndexed st.store) (none : (t : ℕ) → st.own t ≡ []) where
  up_at : (d : Database) (j : Index) (o : Option Database) → IsAmong d st.store.databases → database_of j.primary st.store ≡ o → IsMadeFrom o j.extract d.pairs → IsUp st (st.numbers d.name) (st.numbers j.primary) j.extract
  up_at d j None a is made = absurd made
  up_at d j (Some p) a is made = record {
    same = same;
    keeps = λ t. keep_same (by_extract j.extract) (pairs_at (st.numbers j.primary) st) (pairs_at (st.numbers j.primary) st) (pairs_at (st.numbers d.name) st) (pairs_at (st.numbers d.name) st)
        [] (of_db (st.numbers j.primary) (st.own t)) [] (of_db (st.numbers d.name) (st.own t)) refl refl (ap (of_db (st.numbers j.primary)) (none t)) (ap (of_db (st.numbers d.name)) (none t))
        (keep_none (by_extract j.extract) (pairs_at (st.numbers j.primary) st) (pairs_at (st.numbers d.name) st) same);
  }
    where
      same : pairs_at (st.numbers d.name) st ≡ index_pairs j.extract (pairs_at (st.numbers j.primary) st)
      same =
          ap pairs_of (found_there st.numbers st.last_db (st.numbers d.name) st.store d well.store well.numbers a refl)
          ∙ (made.2 ∙ ap (index_pairs j.extract) (sym (ap pairs_of (by_number st.numbers st.last_db st.store j.primary p well.numbers is))))

  pub first_up : AreUp st
  first_up n q e b there is =
      let i = based st.numbers (database_at n st) b there in
      by i.database i.database.index refl (found_is (λ (d : Database). st.numbers d.name == n) st.store.databases i.database i.is).0 (number_of_found st.numbers n st.store i.database i.is) (i.over ∙ is)
    where
      by : (d : Database) (o : Option Index) → d.index ≡ o → IsAmong d st.store.databases → st.numbers d.name ≡ n → over_by st.numbers d.index ≡ Some (q, e) → IsUp st n q e
      by d None f a number h = let m = sym (ap (over_by st.numbers) f) ∙ h in absurd (cc (m))
      by d (Some j) f a number h =
          let v = over_is (st.numbers j.primary, j.extract) (q, e) (sym (ap (over_by st.numbers) f) ∙ h) in
          let made = (subst (IsIndex st.store d) f (all_at (λ (x : Database). IsIndex st.store x x.index) st.store.databases d indexed a)).1 in
          subst (λ (m : ℕ). IsUp st m q e) number (subst (λ (z : ℕ × Extract). IsUp st (st.numbers d.name) z.0 z.1) v (up_at d j (database_of j.primary st.store) a refl made))

-- ---- by name

module _ (st : Standing) (told : List AnsweredCall) (ground : IsGround st told) where
  its : (d : Database) (j : Index) → IsAmong d st.store.databases → d.index ≡ Some j → IsUp st (st.numbers d.name) (st.numbers j.primary) j.extract
  its d j a f = ground.up (st.numbers d.name) (st.numbers j.primary) j.extract (d.name, d.kind, over_by st.numbers d.index)
      (ap (base_of st.numbers) (found_there st.numbers st.last_db (st.numbers d.name) st.store d ground.well.store ground.well.numbers a refl)) (ap (over_by st.numbers) f)

  module _ (d : Database) (j : Index) (a : IsAmong d st.store.databases) (f : d.index ≡ Some j) where
    abbrev p : Database
    p = (ground.well.over d j a f).1.0

    found_p : database_of j.primary st.store ≡ Some p
    found_p = (ground.well.over d j a f).1.1

    number_p : database_at (st.numbers j.primary) st ≡ Some p
    number_p = by_number st.numbers st.last_db st.store j.primary p ground.well.numbers found_p

    name : p.name ≡ j.primary
    name = bytes_exact p.name j.primary (found_is (λ (x : Database). is_same_bytes x.name j.primary) st.store.databases p found_p).1

    at_n : d.pairs ≡ pairs_at (st.numbers d.name) st
    at_n = sym (ap pairs_of (found_there st.numbers st.last_db (st.numbers d.name) st.store d ground.well.store ground.well.numbers a refl))

    at_q : p.pairs ≡ pairs_at (st.numbers j.primary) st
    at_q = sym (ap pairs_of number_p)

    index_is : IsIndex st.store d (Some j)
    index_is = (
      (ground.well.over d j a f).0,
      subst (λ (o : Option Database). IsMadeFrom o j.extract d.pairs) (sym found_p)
          ((ground.well.over d j a f).1.2, (ground.well.over d j a f).1.3, at_n ∙ ((its d j a f).same ∙ ap (index_pairs j.extract) (sym at_q))),
    )

    kept_is : (t : ℕ) → IsKept st t d (Some j)
    kept_is t = subst (IsKeptFor st t d j) (sym found_p) (record {
      keeps = again (keep_same (by_extract j.extract) (pairs_at (st.numbers j.primary) st) p.pairs (pairs_at (st.numbers d.name) st) d.pairs
          (of_db (st.numbers j.primary) (st.own t)) (of_db (st.numbers p.name) (st.own t)) (of_db (st.numbers d.name) (st.own t)) (of_db (st.numbers d.name) (st.own t))
          at_q at_n (ap (λ (n : List ℕ). of_db (st.numbers n) (st.own t)) name) refl ((its d j a f).keeps t));
      plain = without_data st (st.numbers p.name) (p.name, p.kind, over_by st.numbers p.index) (st.own t) (ground.fits t)
          (ap (λ (n : List ℕ). base_at (st.numbers n) st) name ∙ ap (base_of st.numbers) number_p) (ground.well.over d j a f).1.2;
    })
      where
        again : KeepUp (by_extract j.extract) p.pairs d.pairs (of_db (st.numbers p.name) (st.own t)) (of_db (st.numbers d.name) (st.own t))
            → KeepUp j p.pairs d.pairs (of_db (st.numbers p.name) (st.own t)) (of_db (st.numbers d.name) (st.own t))
        again h = record { same = h.same; only = h.only }

  -- the indexes of the store
  pub are_indexed : AreIndexed st.store
  are_indexed = all_of (λ d. IsIndex st.store d d.index) st.store.databases (λ d a. by d a d.index refl)
    where
      by : (d : Database) → IsAmong d st.store.databases → (o : Option Index) → d.index ≡ o → IsIndex st.store d d.index
      by d a None f = subst (IsIndex st.store d) (sym f) tt
      by d a (Some j) f = subst (IsIndex st.store d) (sym f) (index_is d j a f)

  are_kept : (t : ℕ) → AllByRecursion (λ d. IsKept st t d d.index) st.store.databases
  are_kept t = all_of (λ d. IsKept st t d d.index) st.store.databases (λ d a. by d a d.index refl)
    where
      by : (d : Database) → IsAmong d st.store.databases → (o : Option Index) → d.index ≡ o → IsKept st t d d.index
      by d a None f = subst (IsKept st t d) (sym f) tt
      by d a (Some j) f = subst (IsKept st t d) (sym f) (kept_is d j a f t)

  -- and what each transaction sees
  pub are_seen : AreSound st → (a : Active) → AreIndexedFor st a
  are_seen sound a = seen-indexed st a (record { sound = sound; store = ground.well.store; indexed = are_indexed; kept = are_kept })
