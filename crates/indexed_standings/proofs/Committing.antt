-- A transaction commits its own changes and ends: the indexes have the pairs of the records then, and the others go on to keep them up.
use Rattle.std.proofs.Common.{◌≡◌, ◌⊎◌, inl, inr, ℕ, ◌==◌, ◌+◌, Bool, true, false, cond, List, [], ◌∷◌, map, find, Option, None, Some, refl, ap, sym, ◌∙◌, subst, option_map}
use Rattle.std.specs.List.{AllByRecursion}
use Rattle.std.proofs.lemmas.Bool.{cond-true, cond-false}
use Rattle.std.proofs.lemmas.Bool.Decides.{eqb_tells}
use Rattle.je_order.specs.Order.{is_same_bytes}
use Rattle.je_order.specs.Transactions.{is_same_txn}
use Rattle.store_model.specs.declared.store.Store.{Store}
use Rattle.store_model.specs.declared.store.Database.{Database}
use Rattle.store_model.specs.declared.index.Index.{Index}
use Rattle.store_model.specs.declared.kind.Kind.{Kind}
use Rattle.store_model.specs.declared.kind.Kind.TheVariants.{Plain, Dup}
use Rattle.store_model.specs.declared.change.Change.{Change}
use Rattle.store_model.specs.declared.change.Change.TheVariants.{Set, Unset}
use Rattle.store_model.specs.declared.record_change.RecordChange.{RecordChange}
use Rattle.store_model.specs.Store.{Pair, HasRisingNames, database_of, all_pairs_changed, all_changed, changed_name}
use Rattle.store_model.specs.Indexes.{IsIndex, IsMadeFrom, index_pairs}
use Rattle.store_model.specs.Refusals.{made_by}
use Rattle.store_model.proofs.StoreLaws.{found}
use Rattle.store_model.proofs.IndexLaws.{index_rises}
use Rattle.je_answers.specs.Standing.{Standing, with_at, all_numbered}
use Rattle.je_answers.specs.Views.{of_db, changes_named}
use Rattle.je_answers.specs.After.{ended, committed_if_any}
use Rattle.standing_laws.specs.Right.{HoldsWrite, txn_id}
use Rattle.standing_laws.proofs.Among.{IsAmong, all_at}
use Rattle.standing_laws.proofs.NamedDatabases.{IsOfRecord}
use Rattle.standing_laws.proofs.CursorDatabases.{all_named}
use Rattle.index_laws.specs.Keeping.{KeepUp, AreApart}
use Rattle.index_laws.proofs.KeepingUp.{others-keep_up}
use Rattle.indexed_standings.specs.Indexed.{IsKeptOver, IsKeptFor, IsKept, KeepsIndexes, AreKeptUp, CommitsKeepUp}
use Rattle.indexed_standings.proofs.Apart.{of_db_all, apart_owns}
use Rattle.indexed_standings.proofs.Numbering.{changed_by, committed_store}

-- ---- what a commit leaves

records_numbered : (changes : List Change) (last : ℕ) (numbers : List ℕ → ℕ) → AllByRecursion IsOfRecord changes → all_numbered changes last numbers ≡ numbers
records_numbered [] last numbers all = refl
records_numbered (Set db at value ∷ changes) last numbers all = records_numbered changes (last + made_by (Set db at value ∷ [])) numbers all.1
records_numbered (Unset db at ∷ changes) last numbers all = records_numbered changes (last + made_by (Unset db at ∷ [])) numbers all.1
records_numbered (change ∷ changes) last numbers all = absurd all.0

its_store : (changes : List Change) (st : Standing) → (committed_if_any changes st).store ≡ all_changed changes st.store
its_store [] st = refl
its_store (c ∷ changes) st = refl

its_numbers : (changes : List Change) (st : Standing) → (committed_if_any changes st).numbers ≡ all_numbered changes st.last_db st.numbers
its_numbers [] st = refl
its_numbers (c ∷ changes) st = refl

its_own : (changes : List Change) (st : Standing) → (committed_if_any changes st).own ≡ st.own
its_own [] st = refl
its_own (c ∷ changes) st = refl

-- ---- databases whose records changed

along : (name : List ℕ) (c : Database → Database) → ((d : Database) → (c d).name ≡ d.name) → (ds : List Database) →
    find (λ d. is_same_bytes d.name name) (map c ds) ≡ option_map c (find (λ d. is_same_bytes d.name name) ds)
along name c same [] = refl
along name c same (d ∷ ds) = ap (λ (n : List ℕ). cond (is_same_bytes n name) (Some (c d)) (find (λ x. is_same_bytes x.name name) (map c ds))) (same d) ∙ by (is_same_bytes d.name name) (along name c same ds)
  where
    by : (b : Bool) → find (λ x. is_same_bytes x.name name) (map c ds) ≡ option_map c (find (λ x. is_same_bytes x.name name) ds) →
        cond b (Some (c d)) (find (λ x. is_same_bytes x.name name) (map c ds)) ≡ option_map c (cond b (Some d) (find (λ x. is_same_bytes x.name name) ds))
    by true h = refl
    by false h = h

-- ---- one index

module _ (st : Standing) (txn : ℕ) (k : KeepsIndexes st) where
  abbrev now : Database → Database
  now d = changed_by st.numbers (st.own txn) d

  -- the standing with the changes committed
  abbrev then_ : Standing
  then_ = record st { store = record { databases = map (changed_by st.numbers (st.own txn)) st.store.databases }; own = with_at txn [] st.own }

  made_then : (d : Database) (index : Index) (o : Option Database) → d.kind ≡ Dup → IsMadeFrom o index.extract d.pairs → IsKeptFor st txn d index o →
      IsMadeFrom (option_map (changed_by st.numbers (st.own txn)) o) index.extract (changed_by st.numbers (st.own txn) d).pairs
  made_then d index None dup made kept = absurd made
  made_then d index (Some primary) dup made kept = (
    made.0,
    made.1,
    ap (λ (q : Kind). all_pairs_changed q (of_db (st.numbers d.name) (st.own txn)) d.pairs) dup
        ∙ kept.keeps.same
        ∙ ap (λ (q : Kind). index_pairs index.extract (all_pairs_changed q (of_db (st.numbers primary.name) (st.own txn)) primary.pairs)) (sym made.0),
  )

  index_then : (d : Database) (o : Option Index) → IsIndex st.store d o → IsKept st txn d o → IsIndex then_.store (changed_by st.numbers (st.own txn) d) o
  index_then d None is kept = tt
  index_then d (Some index) is kept = (
    is.0,
    subst (λ (p : Option Database). IsMadeFrom p index.extract (changed_by st.numbers (st.own txn) d).pairs)
        (sym (along index.primary (changed_by st.numbers (st.own txn)) (λ x. refl) st.store.databases))
        (made_then d index (database_of index.primary st.store) is.0 is.1 kept),
  )

  -- of another transaction
  apart_from : (other : ℕ) (d : Database) (index : Index) (primary : Database) → (other ≡ txn → ⊥) → IsKeptOver st other d index primary → IsKeptOver st txn d index primary →
      AreApart (of_db (st.numbers primary.name) (st.own other)) (of_db (st.numbers primary.name) (st.own txn))
  apart_from other d index primary apart mine its =
      let n = st.numbers primary.name in
      apart_owns st.locks (txn_id other) (txn_id txn) n (of_db n (st.own other)) (of_db n (st.own txn)) k.sound.tables (unlike (eqb_tells txn other))
      (of_db_all (HoldsWrite st.locks.at (txn_id other)) n (st.own other) (k.sound.own_locked other)) mine.plain
      (of_db_all (HoldsWrite st.locks.at (txn_id txn)) n (st.own txn) (k.sound.own_locked txn)) its.plain
    where
      unlike : ((txn == other) ≡ true) × (txn ≡ other) ⊎ ((txn == other) ≡ false) × (txn ≡ other → ⊥) → is_same_txn (txn_id txn) (txn_id other) ≡ false
      unlike (inl same) = absurd (apart (sym same.1))
      unlike (inr other_one) = other_one.0

  kept_then : (own : ℕ → List (ℕ × RecordChange)) (other : ℕ) (d : Database) (index : Index) (o : Option Database) → own ≡ with_at txn [] st.own → d.kind ≡ Dup → IsMadeFrom o index.extract d.pairs →
      ((p : Database) → o ≡ Some p → HasRisingNames p.kind p.pairs) → ((t : ℕ) → IsKeptFor st t d index o) →
      IsKeptFor (record then_ { own = own }) other (changed_by st.numbers (st.own txn) d) index (option_map (changed_by st.numbers (st.own txn)) o)
  kept_then own other d index None is dup made up kept = absurd made
  kept_then own other d index (Some primary) is dup made up kept = by (eqb_tells other txn)
    where
      own_p : ℕ → List RecordChange
      own_p t = of_db (st.numbers primary.name) (st.own t)

      own_d : ℕ → List RecordChange
      own_d t = of_db (st.numbers d.name) (st.own t)

      rising : HasRisingNames Plain primary.pairs
      rising = subst (λ (q : Kind). HasRisingNames q primary.pairs) made.0 (up primary refl)

      primary_then : all_pairs_changed primary.kind (own_p txn) primary.pairs ≡ all_pairs_changed Plain (own_p txn) primary.pairs
      primary_then = ap (λ (q : Kind). all_pairs_changed q (own_p txn) primary.pairs) made.0

      d_then : all_pairs_changed d.kind (own_d txn) d.pairs ≡ all_pairs_changed Dup (own_d txn) d.pairs
      d_then = ap (λ (q : Kind). all_pairs_changed q (own_d txn) d.pairs) dup

      with_own : (mine : List (ℕ × RecordChange)) → own other ≡ mine →
          KeepUp index (all_pairs_changed Plain (own_p txn) primary.pairs) (all_pairs_changed Dup (own_d txn) d.pairs) (of_db (st.numbers primary.name) mine) (of_db (st.numbers d.name) mine) →
          AllByRecursion (λ c. (changed_name c).dup ≡ []) (of_db (st.numbers primary.name) mine) →
          IsKeptOver (record then_ { own = own }) other (changed_by st.numbers (st.own txn) d) index (changed_by st.numbers (st.own txn) primary)
      with_own mine same keeps plain = record {
        keeps = subst (λ (l : List Pair). KeepUp index l (all_pairs_changed d.kind (own_d txn) d.pairs) (of_db (st.numbers primary.name) (own other)) (of_db (st.numbers d.name) (own other))) (sym primary_then)
            (subst (λ (l : List Pair). KeepUp index (all_pairs_changed Plain (own_p txn) primary.pairs) l (of_db (st.numbers primary.name) (own other)) (of_db (st.numbers d.name) (own other))) (sym d_then)
            (subst (λ (m : List (ℕ × RecordChange)). KeepUp index (all_pairs_changed Plain (own_p txn) primary.pairs) (all_pairs_changed Dup (own_d txn) d.pairs) (of_db (st.numbers primary.name) m) (of_db (st.numbers d.name) m)) (sym same) keeps));
        plain = subst (λ (m : List (ℕ × RecordChange)). AllByRecursion (λ c. (changed_name c).dup ≡ []) (of_db (st.numbers primary.name) m)) (sym same) plain;
      }

      by : ((other == txn) ≡ true) × (other ≡ txn) ⊎ ((other == txn) ≡ false) × (other ≡ txn → ⊥) →
          IsKeptOver (record then_ { own = own }) other (changed_by st.numbers (st.own txn) d) index (changed_by st.numbers (st.own txn) primary)
      by (inl e) = with_own [] (ap (λ (f : ℕ → List (ℕ × RecordChange)). f other) is ∙ cond-true (other == txn) [] (st.own other) e.0) (record { same = (kept txn).keeps.same; only = λ key none. tt }) tt
      by (inr e) =
          with_own (st.own other) (ap (λ (f : ℕ → List (ℕ × RecordChange)). f other) is ∙ cond-false (other == txn) [] (st.own other) e.0)
          (others-keep_up index primary.pairs d.pairs (own_p other) (own_d other) (own_p txn) (own_d txn) rising (subst (HasRisingNames Dup) (sym made.2) (index_rises index.extract primary.pairs))
          (apart_from other d index primary e.1 (kept other) (kept txn)) (kept other).keeps (kept txn).keeps) (kept other).plain

  each_then : (other : ℕ) (d : Database) (o : Option Index) → IsIndex st.store d o → ((t : ℕ) → IsKept st t d o) → IsKept then_ other (changed_by st.numbers (st.own txn) d) o
  each_then other d None is kept = tt
  each_then other d (Some index) is kept =
      subst (IsKeptFor then_ other (changed_by st.numbers (st.own txn) d) index) (sym (along index.primary (changed_by st.numbers (st.own txn)) (λ x. refl) st.store.databases))
      (kept_then (with_at txn [] st.own) other d index (database_of index.primary st.store) refl is.0 is.1
      (λ p there. found (λ (e : Database). HasRisingNames e.kind e.pairs) (λ e. is_same_bytes e.name index.primary) st.store.databases p there k.store.records) kept)

  all_mapped : (P : Database → Type 0) (c : Database → Database) (ds : List Database) → ((d : Database) → IsAmong d ds → P (c d)) → AllByRecursion P (map c ds)
  all_mapped P c [] h = tt
  all_mapped P c (d ∷ ds) h = (h d (inl refl), all_mapped P c ds (λ e l. h e (inr l)))

  is_index : (d : Database) → IsAmong d st.store.databases → IsIndex st.store d d.index
  is_index d there = all_at (λ (e : Database). IsIndex st.store e e.index) st.store.databases d k.indexed there

  is_kept : (t : ℕ) (d : Database) → IsAmong d st.store.databases → IsKept st t d d.index
  is_kept t d there = all_at (λ (e : Database). IsKept st t e e.index) st.store.databases d (k.kept t) there

  pub kept_up : AreKeptUp then_
  kept_up = record {
    indexed = all_mapped (λ d. IsIndex then_.store d d.index) (changed_by st.numbers (st.own txn)) st.store.databases (λ d there. index_then d d.index (is_index d there) (is_kept txn d there));
    kept = λ other. all_mapped (λ d. IsKept then_ other d d.index) (changed_by st.numbers (st.own txn)) st.store.databases (λ d there. each_then other d d.index (is_index d there) (λ t. is_kept t d there));
  }

-- ---- the commit

-- only these parts of a standing matter
abbrev with_parts : Standing → Store → (List ℕ → ℕ) → (ℕ → List (ℕ × RecordChange)) → Standing
with_parts st store numbers own = record st { store = store; numbers = numbers; own = own }

same_parts : (st new : Standing) → AreKeptUp (with_parts st new.store new.numbers new.own) → AreKeptUp new
same_parts st new h = record { indexed = h.indexed; kept = λ txn. each txn new.store.databases (h.kept txn) }
  where
    one : (txn : ℕ) (d : Database) (o : Option Index) → IsKept (with_parts st new.store new.numbers new.own) txn d o → IsKept new txn d o
    one txn d None x = tt
    one txn d (Some index) x = by (database_of index.primary new.store) x
      where
        by : (p : Option Database) → IsKeptFor (with_parts st new.store new.numbers new.own) txn d index p → IsKeptFor new txn d index p
        by None y = y
        by (Some p) y = record { keeps = y.keeps; plain = y.plain }

    each : (txn : ℕ) (ds : List Database) → AllByRecursion (λ d. IsKept (with_parts st new.store new.numbers new.own) txn d d.index) ds → AllByRecursion (λ d. IsKept new txn d d.index) ds
    each txn [] x = tt
    each txn (d ∷ ds) x = (one txn d d.index x.0, each txn ds x.1)

pub commits-keep_up : CommitsKeepUp
commits-keep_up st a k apart =
    let changes : List Change = changes_named st (st.own a.txn.0) in
    let new : Standing = ended a (committed_if_any changes st) in
    let store : new.store ≡ record { databases = map (changed_by st.numbers (st.own a.txn.0)) st.store.databases } = its_store changes st ∙ committed_store st (st.own a.txn.0) apart in
    let numbers : new.numbers ≡ st.numbers = its_numbers changes st ∙ records_numbered changes st.last_db st.numbers (all_named st (st.own a.txn.0)) in
    let own : new.own ≡ with_at a.txn.0 [] st.own = ap (with_at a.txn.0 []) (its_own changes st) in
    same_parts st new
    (subst (λ (s : Store). AreKeptUp (with_parts st s new.numbers new.own)) (sym store)
    (subst (λ (n : List ℕ → ℕ). AreKeptUp (with_parts st (record { databases = map (changed_by st.numbers (st.own a.txn.0)) st.store.databases }) n new.own)) (sym numbers)
    (subst (λ (o : ℕ → List (ℕ × RecordChange)). AreKeptUp (with_parts st (record { databases = map (changed_by st.numbers (st.own a.txn.0)) st.store.databases }) st.numbers o)) (sym own)
    (kept_up st a.txn.0 k))))
