-- An index is made and filled: its pairs come into a database that nobody uses.
use Rattle.std.proofs.Common.{◌≡◌, ◌≤◌, ◌+◌, inl, inr, ℕ, ◌==◌, Bool, true, false, cond, List, [], ◌∷◌, ◌++◌, map, Option, None, Some, refl, ap, ap₂, sym, ◌∙◌, subst, ⊎_elim, arith}
use Rattle.std.specs.List.{AllByRecursion}
use Rattle.std.proofs.lemmas.Bool.{cases_Bool, cond-true, cond-false, eqb-true}
use Rattle.je_order.specs.declared.name.Name.{Name}
use Rattle.lock_table.specs.declared.record_id.RecordId.{RecordId}
use Rattle.store_model.specs.declared.store.Store.{Store}
use Rattle.store_model.specs.declared.store.Database.{Database}
use Rattle.store_model.specs.declared.kind.Kind.{Kind}
use Rattle.store_model.specs.declared.kind.Kind.TheVariants.{Dup}
use Rattle.store_model.specs.declared.change.Change.{Change}
use Rattle.store_model.specs.declared.change.Change.TheVariants.{Set}
use Rattle.store_model.specs.declared.record_change.RecordChange.{RecordChange}
use Rattle.store_model.specs.declared.record_change.RecordChange.TheVariants.{Set as SetRecord}
use Rattle.store_model.specs.declared.index.Index.{Index}
use Rattle.store_model.specs.declared.extract.Extract.{Extract}
use Rattle.store_model.specs.Store.{Pair, HasRisingNames, IsStore, named, name_of, proper, pairs_changed, all_changed, all_pairs_changed}
use Rattle.store_model.specs.Indexes.{index_pairs}
use Rattle.store_model.proofs.StoreLaws.{names_nil}
use Rattle.store_model.proofs.Rows.{is_name, name_is, row, row_changed, all_rising, same_pairs}
use Rattle.store_model.proofs.IndexLaws.{index_rises}
use Rattle.je_order.specs.Order.{is_same_bytes}
use Rattle.store_model.specs.Store.{database_of}
use Rattle.je_answers.specs.Standing.{Standing, database_at, with_number}
use Rattle.je_answers.specs.Locking.{IsUnused}
use Rattle.je_answers.specs.Views.{of_db, changes_in}
use Rattle.standing_laws.specs.Right.{AreSound}
use Rattle.standing_laws.proofs.Among.{found_is}
use Rattle.standing_laws.proofs.Writers.{unused-has_no_changes}
use Rattle.serial_replay.specs.Replay.{AnsweredCall}
use Rattle.serial_replay.proofs.Stores.{Base, Numbers, over_by, base_of, pairs_of, same_number, base_in, pairs_in, base_at, pairs_at, numbered_in, named_in, IsFitIn, IsFit, bytes_exact, by_number, AreNumbered, AreOver, all_base, all_pairs, all_right, numbered_all, over_all}
use Rattle.serial_replay.proofs.Upkeep.{by_extract, IsUp, keep_same, keep_none}
use Rattle.serial_replay.proofs.Keeping.{IsWell, IsGround}
use Rattle.serial_replay.proofs.IndexBases.{index_at}
use Rattle.serial_replay.proofs.CatalogSteps.{IsCatalogStep, low_number, IsMadeUp}

-- pairs as changes, with the number of the database and with its name
abbrev pub puts_at : ℕ → List Pair → List (ℕ × RecordChange)
puts_at n ps = map (λ r. (n, SetRecord (named r.0 r.1) [])) ps

abbrev pub puts_in : List ℕ → List Pair → List Change
puts_in db ps = map (λ r. Set db (named r.0 r.1) []) ps

puts_are : (numbers : Numbers) (store : Store) (n : ℕ) (d : Database) → numbered_in numbers n store ≡ Some d → (ps : List Pair) → named_in numbers store (puts_at n ps) ≡ puts_in d.name ps
puts_are numbers store n d h [] = refl
puts_are numbers store n d h (r ∷ ps) =
    ap (λ (o : Option Database). changes_in o (SetRecord (named r.0 r.1) []) ++ named_in numbers store (puts_at n ps)) h
    ∙ ap (λ (l : List Change). Set d.name (named r.0 r.1) [] ∷ l) (puts_are numbers store n d h ps)

none_at : (m n : ℕ) → (m ≡ n → ⊥) → (ps : List Pair) → of_db m (puts_at n ps) ≡ []
none_at m n apart [] = refl
none_at m n apart (r ∷ ps) =
    cond-false (n == m) (SetRecord (named r.0 r.1) [] ∷ of_db m (puts_at n ps)) (of_db m (puts_at n ps)) (⊎_elim (λ e. absurd (apart (sym (eqb-true n m e)))) (λ e. e) (cases_Bool (n == m)))
    ∙ none_at m n apart ps

puts_fit : (numbers : Numbers) (store : Store) (n : ℕ) (d : Database) → numbered_in numbers n store ≡ Some d → d.kind ≡ Dup → (ps : List Pair) → AllByRecursion (IsFitIn numbers store) (puts_at n ps)
puts_fit numbers store n d h dup [] = tt
puts_fit numbers store n d h dup (r ∷ ps) = (
  record {
    base = (d.name, d.kind, over_by numbers d.index);
    there = ap (base_of numbers) h;
    its = ap (λ (k : Kind). proper k (named r.0 r.1)) dup;
  },
  puts_fit numbers store n d h dup ps,
)

-- ---- rising pairs that come into an empty database are its pairs

abbrev put : Pair → RecordChange
put r = SetRecord (named r.0 r.1) []

all_at_its : (n : ℕ) (ps : List Pair) → of_db n (puts_at n ps) ≡ map put ps
all_at_its n [] = refl
all_at_its n (r ∷ ps) = cond-true (n == n) (put r ∷ of_db n (puts_at n ps)) (of_db n (puts_at n ps)) (same_number n) ∙ ap (λ (l : List RecordChange). put r ∷ l) (all_at_its n ps)

abbrev first_of : Option Pair → Option Pair → Option Pair
first_of None p = p
first_of (Some r) p = Some r

pair_is : (r s : Pair) → named r.0 r.1 ≡ named s.0 s.1 → r ≡ s
pair_is (a, b) (c, d) h = ap₂ (λ (x y : List ℕ). (x, y)) (ap (λ (m : Name). m.key) h) (ap (λ (m : Name). m.dup) h)

row_put_again : (n : Name) (ps xs : List Pair) → row Dup n (all_pairs_changed Dup (map put ps) xs) ≡ first_of (row Dup n ps) (row Dup n xs)
row_put_again n [] xs = refl
row_put_again n (r ∷ ps) xs =
    row_put_again n ps (pairs_changed Dup (put r) xs)
    ∙ (ap (first_of (row Dup n ps)) (row_changed Dup (put r) n xs) ∙ by (is_name (named r.0 r.1) n) refl (row Dup n ps) refl)
  where
    by : (b : Bool) → is_name (named r.0 r.1) n ≡ b → (o : Option Pair) → row Dup n ps ≡ o → first_of o (cond b (Some (r.0, r.1)) (row Dup n xs)) ≡ first_of (cond b (Some r) o) (row Dup n xs)
    by false e None f = refl
    by false e (Some s) f = refl
    by true e None f = ap (λ (p : Pair). Some p) (pair_is (r.0, r.1) r refl)
    by true e (Some s) f =
        let k = (found_is (λ (p : Pair). is_name (name_of Dup p) n) ps s f).1 in
        ap (λ (p : Pair). Some p) (pair_is s r (name_is (named s.0 s.1) n k ∙ sym (name_is (named r.0 r.1) n e)))

put_again : (ps : List Pair) → HasRisingNames Dup ps → all_pairs_changed Dup (map put ps) [] ≡ ps
put_again ps up = same_pairs Dup (all_pairs_changed Dup (map put ps) []) ps (all_rising Dup (map put ps) [] (names_nil Dup)) up (λ n. row_put_again n ps [] ∙ first_none (row Dup n ps))
  where
    first_none : (o : Option Pair) → first_of o None ≡ o
    first_none None = refl
    first_none (Some r) = refl

-- ---- the step

module _ (st mid new : Standing) (n : ℕ) (d : Database) (ps : List Pair) (made : Option Index) (step : IsCatalogStep st mid made) (low : n ≡ st.last_db + 1) (here : numbered_in mid.numbers n mid.store ≡ Some d) (dup : d.kind ≡ Dup)
    (apart : (m : ℕ) (b : Base) → base_at m st ≡ Some b → m ≡ n → ⊥) (numbers : new.numbers ≡ mid.numbers) (last_db : new.last_db ≡ mid.last_db) (store : new.store ≡ all_changed (puts_in d.name ps) mid.store) where
  abbrev cs : List (ℕ × RecordChange)
  cs = puts_at n ps

  stored : new.store ≡ all_changed (named_in mid.numbers mid.store (puts_at n ps)) mid.store
  stored = store ∙ ap (λ (l : List Change). all_changed l mid.store) (sym (puts_are mid.numbers mid.store n d here ps))

  fit : AllByRecursion (IsFitIn mid.numbers mid.store) (puts_at n ps)
  fit = puts_fit mid.numbers mid.store n d here dup ps

  base_filled : (m : ℕ) → base_at m new ≡ base_at m mid
  base_filled m = ap₂ (λ (k : Numbers) (s : Store). base_in k m s) numbers stored ∙ all_base mid.numbers mid.store cs mid.store fit (λ i. refl) m

  pairs_filled : (m : ℕ) (b : Base) → base_at m mid ≡ Some b → (m ≡ n → ⊥) → pairs_at m new ≡ pairs_at m mid
  pairs_filled m b e other =
      ap₂ (λ (k : Numbers) (s : Store). pairs_in k m s) numbers stored
      ∙ (all_pairs mid.numbers mid.store cs mid.store fit (λ i. refl) m b e
      ∙ ap (λ (l : List RecordChange). all_pairs_changed b.1 l (pairs_at m mid)) (none_at m n other ps))

  pub well_filled : IsWell new
  well_filled = record {
    store = subst IsStore (sym stored) (all_right (named_in mid.numbers mid.store cs) mid.store step.well.store);
    numbers = subst (λ (s : Store). AreNumbered new.numbers new.last_db s.databases) (sym stored)
        (subst (λ (k : Numbers). AreNumbered k new.last_db (all_changed (named_in mid.numbers mid.store cs) mid.store).databases) (sym numbers)
        (subst (λ (l : ℕ). AreNumbered mid.numbers l (all_changed (named_in mid.numbers mid.store cs) mid.store).databases) (sym last_db)
        (numbered_all mid.numbers mid.last_db mid.store cs mid.store step.well.numbers)));
    over = subst AreOver (sym stored) (over_all mid.numbers mid.store cs mid.store step.well.over);
  }

  pub filled : new.last_txn ≡ mid.last_txn → new.actives ≡ mid.actives → ((t : ℕ) → new.own t ≡ mid.own t) → ((session : ℕ) → new.places session ≡ mid.places session) → ((r : RecordId) → new.locks.at r ≡ mid.locks.at r) → IsCatalogStep st new made
  filled last_txn actives own places locks = record {
    well = well_filled;
    last_txn = (let a = step.last_txn in omega (arith, a, last_txn));
    actives = actives ∙ step.actives;
    own = λ t. own t ∙ step.own t;
    places = λ session. places session ∙ step.places session;
    locks = λ r. locks r ∙ step.locks r;
    same = λ t m b used e. let s = step.same t m b used e in (base_filled m ∙ s.0, pairs_filled m b s.0 (apart m b e) ∙ s.1);
    fresh = λ t q m b e used h k. step.fresh t q m b e used (sym (base_filled m) ∙ h) k;
    pairs = λ m b h is. let there = sym (base_filled m) ∙ h in pairs_filled m b there (λ e. omega (arith, e, low, is)) ∙ step.pairs m b there is;
    indexes = λ m q e b h is. ⊎_elim (λ c. inl c) (λ k. inr (k.0, ap (λ (x : Numbers). over_by x made) numbers ∙ k.1)) (step.indexes m q e b (sym (base_filled m) ∙ h) is);
  }

  -- its pairs are those that came into it
  pairs_its : d.pairs ≡ [] → HasRisingNames Dup ps → pairs_at n new ≡ ps
  pairs_its empty up =
      ap₂ (λ (k : Numbers) (s : Store). pairs_in k n s) numbers stored
      ∙ (all_pairs mid.numbers mid.store cs mid.store fit (λ i. refl) n (d.name, d.kind, over_by mid.numbers d.index) (ap (base_of mid.numbers) here)
      ∙ (ap₂ (λ (l : List RecordChange) (v : List Pair). all_pairs_changed d.kind l v) (all_at_its n ps) (ap pairs_of here ∙ empty)
      ∙ (ap (λ (k : Kind). all_pairs_changed k (map put ps) []) dup ∙ put_again ps up)))

  -- the index has the pairs of its primary's records, and nobody has changes in either
  pub up_filled : (q : ℕ) (e : Extract) → d.pairs ≡ [] → ps ≡ index_pairs e (pairs_at q new) → ((t : ℕ) → of_db q (new.own t) ≡ []) → ((t : ℕ) → of_db n (new.own t) ≡ []) → IsUp new n q e
  up_filled q e empty is none none_its = record {
    same = same;
    keeps = λ t. keep_same (by_extract e) (pairs_at q new) (pairs_at q new) (pairs_at n new) (pairs_at n new) [] (of_db q (new.own t)) [] (of_db n (new.own t)) refl refl (none t) (none_its t)
        (keep_none (by_extract e) (pairs_at q new) (pairs_at n new) same);
  }
    where
      same : pairs_at n new ≡ index_pairs e (pairs_at q new)
      same = pairs_its empty (subst (HasRisingNames Dup) (sym is) (index_rises e (pairs_at q new))) ∙ is

-- ---- an index that is made

over_is : (x y : ℕ × Extract) → Some x ≡ Some y → x ≡ y
over_is x y h = cc (h)

-- own changes fit, so that none is of a number that no database has
none_fits : (st : Standing) (n : ℕ) → ((b : Base) → base_at n st ≡ Some b → ⊥) → (own : List (ℕ × RecordChange)) → AllByRecursion (IsFit st) own → of_db n own ≡ []
none_fits st n none [] fits = refl
none_fits st n none (c ∷ own) fits =
    cond-false (c.0 == n) (c.1 ∷ of_db n own) (of_db n own) (⊎_elim (λ e. absurd (none fits.0.base (ap (λ (m : ℕ). base_at m st) (sym (eqb-true c.0 n e)) ∙ fits.0.there))) (λ e. e) (cases_Bool (c.0 == n)))
    ∙ none_fits st n none own fits.1

module _ (st new : Standing) (db : List ℕ) (index : Index) (p : Database) (ps : List Pair) (told : List AnsweredCall) (sound : AreSound st) (ground : IsGround st told) (step : IsCatalogStep st new (Some index))
    (numbers : new.numbers ≡ with_number db (st.last_db + 1) st.numbers) (none : database_of db st.store ≡ None) (there : database_of index.primary st.store ≡ Some p) (unused : IsUnused st (st.numbers index.primary))
    (same : ps ≡ index_pairs index.extract p.pairs)
    (fill : (q : ℕ) → ps ≡ index_pairs index.extract (pairs_at q new) → ((t : ℕ) → of_db q (new.own t) ≡ []) → ((t : ℕ) → of_db (st.last_db + 1) (new.own t) ≡ []) → IsUp new (st.last_db + 1) q index.extract) where
  here : database_at (st.numbers index.primary) st ≡ Some p
  here = by_number st.numbers st.last_db st.store index.primary p ground.well.numbers there

  base_here : base_at (st.numbers index.primary) st ≡ Some (p.name, p.kind, over_by st.numbers p.index)
  base_here = ap (base_of st.numbers) here

  number_is : new.numbers index.primary ≡ st.numbers index.primary
  number_is = ap (λ (m : Numbers). m index.primary) numbers ∙ cond-false (is_same_bytes index.primary db) (st.last_db + 1) (st.numbers index.primary) (⊎_elim (λ e. absurd (other e)) (λ e. e) (cases_Bool (is_same_bytes index.primary db)))
    where
      other : is_same_bytes index.primary db ≡ true → ⊥
      other e = let h = sym none ∙ (ap (λ (m : List ℕ). database_of m st.store) (sym (bytes_exact index.primary db e)) ∙ there) in absurd (cc (h))

  low : st.numbers index.primary ≤ st.last_db
  low = low_number st (st.numbers index.primary) (p.name, p.kind, over_by st.numbers p.index) ground.well base_here

  none_new : (b : Base) → base_at (st.last_db + 1) st ≡ Some b → ⊥
  none_new b e = let h = low_number st (st.last_db + 1) b ground.well e in omega (arith, h)

  its : (b : Base) → base_at (st.last_db + 1) new ≡ Some b → b.2 ≡ Some (st.numbers index.primary, index.extract) → IsUp new (st.last_db + 1) (st.numbers index.primary) index.extract
  its b base is =
      let g = index_at new (st.last_db + 1) (st.numbers index.primary) index.extract b step.well base is in
      fill (st.numbers index.primary)
      (same ∙ ap (index_pairs index.extract) (sym (step.pairs (st.numbers index.primary) g.base g.primary low ∙ ap pairs_of here)))
      (λ t. ap (of_db (st.numbers index.primary)) (step.own t) ∙ unused-has_no_changes st (st.numbers index.primary) sound unused t)
      (λ t. ap (of_db (st.last_db + 1)) (step.own t) ∙ none_fits st (st.last_db + 1) none_new (st.own t) (ground.fits t))

  pub index_made : IsMadeUp st new (Some index)
  index_made q e b base is made = subst (λ (z : ℕ × Extract). IsUp new (st.last_db + 1) z.0 z.1) v (its b base (is ∙ ap (λ (z : ℕ × Extract). Some z) (sym v)))
    where
      v : ◌≡◌ {A = ℕ × Extract} (st.numbers index.primary, index.extract) (q, e)
      v = ap (λ (m : ℕ). (m, index.extract)) (sym number_is) ∙ over_is (new.numbers index.primary, index.extract) (q, e) made
