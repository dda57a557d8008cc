-- A transaction sees each index as the pairs of what it sees of its primary.
use Rattle.std.proofs.Common.{◌≡◌, ℕ, ◌==◌, Bool, true, false, cond, List, [], ◌∷◌, ◌++◌, map, Option, None, Some, refl, ap, sym, ◌∙◌, subst}
use Rattle.std.specs.List.{AllByRecursion, flat_map}
use Rattle.store_model.specs.declared.store.Database.{Database}
use Rattle.store_model.specs.declared.index.Index.{Index}
use Rattle.store_model.specs.declared.kind.Kind.{Kind}
use Rattle.store_model.specs.declared.kind.Kind.TheVariants.{Plain, Dup}
use Rattle.store_model.specs.declared.isolation.Isolation.{Isolation}
use Rattle.store_model.specs.declared.isolation.Isolation.TheVariants.{ReadUncommitted, ReadCommitted, RepeatableRead, Serializable}
use Rattle.store_model.specs.declared.record_change.RecordChange.{RecordChange}
use Rattle.store_model.specs.Store.{HasRisingNames, database_of, all_pairs_changed}
use Rattle.store_model.specs.Indexes.{IsIndex, IsMadeFrom, index_pairs}
use Rattle.store_model.proofs.StoreLaws.{found}
use Rattle.store_model.proofs.IndexLaws.{index_rises}
use Rattle.je_order.specs.Order.{is_same_bytes}
use Rattle.je_answers.specs.declared.active.Active.{Active}
use Rattle.je_answers.specs.Standing.{Standing}
use Rattle.je_answers.specs.Views.{of_db, all_own, seen_changes, view_in}
use Rattle.standing_laws.specs.Right.{AreSound}
use Rattle.standing_laws.proofs.Among.{all_at, all_of}
use Rattle.index_laws.specs.Keeping.{KeepUp}
use Rattle.index_laws.proofs.KeepingUp.{all-keep_up}
use Rattle.indexed_standings.specs.Indexed.{IsKeptOver, IsKeptFor, IsKept, KeepsIndexes, IsSeenFor, IsSeen, SeenIndexed}
use Rattle.indexed_standings.proofs.Apart.{owns, all_apart}

-- ---- the own changes of all, in a database

of_append : (n : ℕ) (xs ys : List (ℕ × RecordChange)) → of_db n (xs ++ ys) ≡ of_db n xs ++ of_db n ys
of_append n [] ys = refl
of_append n (c ∷ xs) ys = by (c.0 == n) (of_append n xs ys)
  where
    by : (b : Bool) → of_db n (xs ++ ys) ≡ of_db n xs ++ of_db n ys → cond b (c.1 ∷ of_db n (xs ++ ys)) (of_db n (xs ++ ys)) ≡ cond b (c.1 ∷ of_db n xs) (of_db n xs) ++ of_db n ys
    by true h = ap (λ (l : List RecordChange). c.1 ∷ l) h
    by false h = h

of_all : (own : ℕ → List (ℕ × RecordChange)) (primary index : ℕ) (as_ : List Active) →
    (of_db primary (flat_map (λ a. own a.txn.0) as_) ≡ flat_map (λ o. o.0) (map (owns own primary index) as_))
    × (of_db index (flat_map (λ a. own a.txn.0) as_) ≡ flat_map (λ o. o.1) (map (owns own primary index) as_))
of_all own primary index [] = (refl, refl)
of_all own primary index (a ∷ as_) =
    let rest = of_all own primary index as_ in (
      of_append primary (own a.txn.0) (flat_map (λ x. own x.txn.0) as_) ∙ ap (λ (l : List RecordChange). of_db primary (own a.txn.0) ++ l) rest.0,
      of_append index (own a.txn.0) (flat_map (λ x. own x.txn.0) as_) ∙ ap (λ (l : List RecordChange). of_db index (own a.txn.0) ++ l) rest.1,
    )

-- ---- one index

module _ (st : Standing) (a : Active) (d : Database) (index : Index) (primary : Database) (sound : AreSound st) (kept : (txn : ℕ) → IsKeptOver st txn d index primary)
    (up : HasRisingNames Plain primary.pairs) (same : d.pairs ≡ index_pairs index.extract primary.pairs) where
  number : ℕ
  number = st.numbers d.name

  its_primary : ℕ
  its_primary = st.numbers primary.name

  each_kept : (as_ : List Active) → AllByRecursion (λ o. KeepUp index primary.pairs d.pairs o.0 o.1) (map (owns st.own (st.numbers primary.name) (st.numbers d.name)) as_)
  each_kept [] = tt
  each_kept (b ∷ as_) = ((kept b.txn.0).keeps, each_kept as_)

  by_all : all_pairs_changed Dup (of_db (st.numbers d.name) (all_own st)) d.pairs ≡ index_pairs index.extract (all_pairs_changed Plain (of_db (st.numbers primary.name) (all_own st)) primary.pairs)
  by_all =
      let all = of_all st.own (st.numbers primary.name) (st.numbers d.name) st.actives in
      ap (λ (l : List RecordChange). all_pairs_changed Dup l d.pairs) all.1
      ∙ all-keep_up index primary.pairs d.pairs (map (owns st.own (st.numbers primary.name) (st.numbers d.name)) st.actives) up
      (subst (HasRisingNames Dup) (sym same) (index_rises index.extract primary.pairs)) same (each_kept st.actives)
      (all_apart st.last_txn st.locks st.own (st.numbers primary.name) (st.numbers d.name) st.actives sound.tables sound.own_locked (λ n. (kept n).plain) sound.numbers)
      ∙ ap (λ (l : List RecordChange). index_pairs index.extract (all_pairs_changed Plain l primary.pairs)) (sym all.0)

  -- what it sees, where it sees these changes
  at_level : (level : Isolation) (txn : ℕ) →
      all_pairs_changed Dup (of_db (st.numbers d.name) (seen_changes level st txn)) d.pairs
      ≡ index_pairs index.extract (all_pairs_changed Plain (of_db (st.numbers primary.name) (seen_changes level st txn)) primary.pairs)
  at_level ReadUncommitted txn = by_all
  at_level ReadCommitted txn = (kept txn).keeps.same
  at_level RepeatableRead txn = (kept txn).keeps.same
  at_level Serializable txn = (kept txn).keeps.same

  pub sees : d.kind ≡ Dup → primary.kind ≡ Plain → view_in st a (st.numbers d.name, d) ≡ index_pairs index.extract (view_in st a (st.numbers primary.name, primary))
  sees dup plain =
      ap (λ (k : Kind). all_pairs_changed k (of_db (st.numbers d.name) (seen_changes a.level st a.txn.0)) d.pairs) dup
      ∙ at_level a.level a.txn.0
      ∙ ap (λ (k : Kind). index_pairs index.extract (all_pairs_changed k (of_db (st.numbers primary.name) (seen_changes a.level st a.txn.0)) primary.pairs)) (sym plain)

-- ---- each index

over : (st : Standing) (a : Active) (d : Database) (index : Index) (o : Option Database) → KeepsIndexes st → d.kind ≡ Dup → database_of index.primary st.store ≡ o → IsMadeFrom o index.extract d.pairs →
    ((txn : ℕ) → IsKeptFor st txn d index o) → IsSeenFor st a d index o
over st a d index None k dup is made kept = absurd made
over st a d index (Some primary) k dup is made kept =
    let rising = found (λ (e : Database). HasRisingNames e.kind e.pairs) (λ e. is_same_bytes e.name index.primary) st.store.databases primary is k.store.records in
    sees st a d index primary k.sound kept (subst (λ (q : Kind). HasRisingNames q primary.pairs) made.0 rising) made.2 dup made.0

one : (st : Standing) (a : Active) (d : Database) (o : Option Index) → KeepsIndexes st → IsIndex st.store d o → ((txn : ℕ) → IsKept st txn d o) → IsSeen st a d o
one st a d None k is kept = tt
one st a d (Some index) k is kept = over st a d index (database_of index.primary st.store) k is.0 refl is.1 kept

pub seen-indexed : SeenIndexed
seen-indexed st a k =
    all_of (λ d. IsSeen st a d d.index) st.store.databases (λ d there. one st a d d.index k
    (all_at (λ (e : Database). IsIndex st.store e e.index) st.store.databases d k.indexed there)
    (λ txn. all_at (λ (e : Database). IsKept st txn e e.index) st.store.databases d (k.kept txn) there))
