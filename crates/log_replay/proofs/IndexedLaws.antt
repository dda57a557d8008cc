-- No index is wrong exactly where each has the pairs of its primary's records.
use Rattle.std.proofs.Common.{◌≡◌, ℕ, List, [], ◌∷◌, Bool, true, false, not, ◌==◌, Option, None, Some, find, option_map, refl, sym, ap, ap₂, ◌∙◌, subst}
use Rattle.std.specs.List.{AllByRecursion}
use Rattle.std.proofs.lemmas.Bool.{and_parts, and_from}
use Rattle.je_order.specs.Order.{bytes_cmp, is_same_bytes}
use Rattle.je_order.specs.declared.name.Name.{Name}
use Rattle.je_order.proofs.Orderings.{equal_from_test, name_exact}
use Rattle.je_order.proofs.Lists.{all_weaker}
use Rattle.db_catalog.specs.declared.db_record.DbRecord.{DbRecord}
use Rattle.db_catalog.specs.declared.db_kind.DbKind.{DbKind}
use Rattle.db_catalog.specs.declared.db_kind.DbKind.TheVariants.{Plain as PlainRecord, Dup as DupRecord, SliceIndex, FieldIndex}
use Rattle.db_catalog.specs.Catalog.{db_record_in}
use Rattle.db_catalog.specs.Planning.{is_primary_record}
use Rattle.store_model.specs.declared.store.Store.{Store}
use Rattle.store_model.specs.declared.store.Database.{Database}
use Rattle.store_model.specs.declared.kind.Kind.TheVariants.{Plain, Dup}
use Rattle.store_model.specs.declared.index.Index.{Index}
use Rattle.store_model.specs.declared.extract.Extract.{Extract}
use Rattle.store_model.specs.Store.{Pair, database_of}
use Rattle.store_model.specs.Indexes.{IsIndex, IsMadeFrom, index_pairs}
use Rattle.store_model.specs.Evaluation.{plain_name}
use Rattle.log_replay.specs.Rows.{Row, Rows, row_at, row_numbered, catalog_number, catalog_index, kind_or_plain, index_or_none, is_environment, IsRising, index_in, index_over, database_in, store_of}
use Rattle.log_replay.specs.Indexed.{is_same_pair, are_same_pairs, are_pairs_of, is_filled, IndexesAreJudged}
use Rattle.log_replay.proofs.ListLaws.{all_both, all_to_map, none_found, none_found_in, found}
use Rattle.log_replay.proofs.RowLaws.{name_cmp-plain, plain_name-key}
use Rattle.log_replay.proofs.StoreLaws.{HasPrimary, primaries_in, environment_parts, catalog_plain, database_of-store_of}
use Rattle.log_replay.proofs.LoggedLaws.{found_each, same_bytes, plain_there}

-- ---- the test of pairs

bytes_exact : (a b : List ℕ) → is_same_bytes a b ≡ true → a ≡ b
bytes_exact a b same =
    ap (λ (n : Name). n.key) (name_exact (plain_name a) (plain_name b) (name_cmp-plain (plain_name a) b refl ∙ equal_from_test (bytes_cmp a b) same))

pair_exact : (p q : Pair) → is_same_pair p q ≡ true → p ≡ q
pair_exact p q same =
    let both = and_parts (is_same_bytes p.0 q.0) (is_same_bytes p.1 q.1) same in
    let make : List ℕ → List ℕ → Pair = λ a b. (a, b) in ap₂ make (bytes_exact p.0 q.0 both.0) (bytes_exact p.1 q.1 both.1)

pairs_exact : (ps qs : List Pair) → are_same_pairs ps qs ≡ true → ps ≡ qs
pairs_exact [] [] same = refl
pairs_exact [] (q ∷ qs) same = absurd cc
pairs_exact (p ∷ ps) [] same = absurd cc
pairs_exact (p ∷ ps) (q ∷ qs) same =
    let both = and_parts (is_same_pair p q) (are_same_pairs ps qs) same in
    ap₂ (λ (x : Pair) (l : List Pair). x ∷ l) (pair_exact p q both.0) (pairs_exact ps qs both.1)

pairs_same : (ps : List Pair) → are_same_pairs ps ps ≡ true
pairs_same [] = refl
pairs_same (p ∷ ps) =
    and_from (is_same_pair p p) (are_same_pairs ps ps) (and_from (is_same_bytes p.0 p.0) (is_same_bytes p.1 p.1) (same_bytes p.0) (same_bytes p.1)) (pairs_same ps)

-- ---- one index

-- a primary's database is plain, and no index
pub primary_kind : (o : Option DbRecord) → is_primary_record o ≡ true → (kind_or_plain o ≡ Plain) × (index_or_none o ≡ None)
primary_kind None h = absurd cc
primary_kind (Some r) h = by r.kind h
  where
    by : (k : DbKind) → (let o : Option DbRecord = Some (record { number = r.number; kind = k }) in is_primary_record o ≡ true) →
        (let o : Option DbRecord = Some (record { number = r.number; kind = k }) in (kind_or_plain o ≡ Plain) × (index_or_none o ≡ None))
    by PlainRecord h = (refl, refl)
    by DupRecord h = absurd cc
    by (SliceIndex primary offset len) h = absurd cc
    by (FieldIndex primary number separator) h = absurd cc

-- an index's is one of sorted duplicates
pub index_kind : (o : Option DbRecord) (made : ℕ × Extract) → index_or_none o ≡ Some made → kind_or_plain o ≡ Dup
index_kind None made h = absurd cc
index_kind (Some r) made h = by r.kind h
  where
    by : (k : DbKind) → (let o : Option DbRecord = Some (record { number = r.number; kind = k }) in index_or_none o ≡ Some made) →
        (let o : Option DbRecord = Some (record { number = r.number; kind = k }) in kind_or_plain o ≡ Dup)
    by PlainRecord h = absurd cc
    by DupRecord h = absurd cc
    by (SliceIndex primary offset len) h = refl
    by (FieldIndex primary number separator) h = refl

filled : (o : Option Database) (extract : Extract) (pairs : List Pair) → (d : Database) → o ≡ Some d → d.kind ≡ Plain → d.index ≡ None → are_pairs_of o extract pairs ≡ true → IsMadeFrom o extract pairs
filled None extract pairs d is kind index same = absurd cc
filled (Some primary) extract pairs d is kind index same =
    let eq : primary ≡ d = one_is primary d is in
    (ap (λ (x : Database). x.kind) eq ∙ kind, ap (λ (x : Database). x.index) eq ∙ index, pairs_exact pairs (index_pairs extract primary.pairs) same)
  where
    one_is : (a b : Database) → (let x : Option Database = Some a in x) ≡ Some b → a ≡ b
    one_is a b e = cc

-- an index of an environment's store
one_judged : (rows : Rows) → is_environment rows ≡ true → IsRising (rows 0) → (r : Row) → HasPrimary (rows 0) r →
    is_filled (store_of rows) (database_in rows r).index (database_in rows r).pairs ≡ true → IsIndex (store_of rows) (database_in rows r) (database_in rows r).index
one_judged rows env up r has test = by (catalog_index r.1) refl has test
  where
    by : (o : Option (ℕ × Extract)) → catalog_index r.1 ≡ o → Rattle.log_replay.specs.Rows.has_primary (rows 0) o ≡ true →
        is_filled (store_of rows) (index_in (rows 0) o) (database_in rows r).pairs ≡ true → IsIndex (store_of rows) (database_in rows r) (index_in (rows 0) o)
    by None is has test = tt
    by (Some made) is has test =
        let p = plain_there (row_numbered made.0 (rows 0)) has in
        let there_by_name : AllByRecursion (λ (x : Row). row_at (plain_name x.0.key) (rows 0) ≡ Some x) (rows 0) =
        all_both (λ (x : Row). x.0.dup ≡ []) (λ (x : Row). row_at x.0 (rows 0) ≡ Some x) (λ x. row_at (plain_name x.0.key) (rows 0) ≡ Some x)
        (λ x plain at. ap (λ (n : Name). row_at n (rows 0)) (sym (plain_name-key x.0 plain)) ∙ at) (rows 0)
        (catalog_plain (rows 0) (environment_parts rows env).catalog) (found_each (rows 0) up) in
        let one = found (λ (x : Row). row_at (plain_name x.0.key) (rows 0) ≡ Some x) (λ x. catalog_number x.1 == made.0) (rows 0) p.0 p.1 there_by_name in
        let there : database_of p.0.0.key (store_of rows) ≡ Some (database_in rows p.0) = database_of-store_of rows p.0.0.key env ∙ ap (option_map (database_in rows)) one.0 in
        let plain = primary_kind (db_record_in p.0.1) (sym (ap Rattle.log_replay.specs.Rows.is_plain_row p.1) ∙ has) in
        let found_index : index_in (rows 0) (Some made) ≡ Some (index_over made.1 p.0) = ap (option_map (index_over made.1)) p.1 in
        subst (λ (i : Option Index). IsIndex (store_of rows) (database_in rows r) i) (sym found_index) (
          index_kind (db_record_in r.1) made is,
          filled (database_of p.0.0.key (store_of rows)) made.1 (database_in rows r).pairs (database_in rows p.0) there plain.0 (ap (index_in (rows 0)) plain.1)
              (sym (ap (λ (i : Option Index). is_filled (store_of rows) i (database_in rows r).pairs) found_index) ∙ test),
        )

-- and one that has its pairs passes
passes_from : (o : Option Database) (extract : Extract) (pairs : List Pair) → IsMadeFrom o extract pairs → are_pairs_of o extract pairs ≡ true
passes_from None extract pairs is = absurd is
passes_from (Some primary) extract pairs is = ap (λ (l : List Pair). are_same_pairs l (index_pairs extract primary.pairs)) is.2 ∙ pairs_same (index_pairs extract primary.pairs)

passes : (store : Store) (d : Database) (o : Option Index) → IsIndex store d o → is_filled store o d.pairs ≡ true
passes store d None is = refl
passes store d (Some index) is = passes_from (database_of index.primary store) index.extract d.pairs is.1

-- ---- all

mapped_none : {A B : Type 0} (f : A → B) (o : Option A) → option_map f o ≡ None → o ≡ None
mapped_none f None h = refl
mapped_none f (Some x) h = absurd cc

not_false : (b : Bool) → not b ≡ false → b ≡ true
not_false true h = refl
not_false false h = absurd cc

pub indexes_are_judged : IndexesAreJudged
indexes_are_judged rows env up = (
  λ none.
      let test : Database → Bool = λ d. not (is_filled (store_of rows) d.index d.pairs) in
      let all : AllByRecursion (λ (d : Database). test d ≡ false) (store_of rows).databases =
      none_found test (store_of rows).databases (mapped_none (λ (d : Database). d.name) (find test (store_of rows).databases) none) in
      all_to_map (database_in rows) (λ d. IsIndex (store_of rows) d d.index) (rows 0)
      (all_both (HasPrimary (rows 0)) (λ (r : Row). test (database_in rows r) ≡ false) (λ r. IsIndex (store_of rows) (database_in rows r) (database_in rows r).index)
      (λ r has passed. one_judged rows env up r has (not_false (is_filled (store_of rows) (database_in rows r).index (database_in rows r).pairs) passed)) (rows 0)
      (primaries_in rows env) (Rattle.log_replay.proofs.ListLaws.all_of_map (database_in rows) (λ d. test d ≡ false) (rows 0) all)),
  λ indexed.
      let test : Database → Bool = λ d. not (is_filled (store_of rows) d.index d.pairs) in
      ap (option_map (λ (d : Database). d.name))
      (none_found_in test (store_of rows).databases
      (all_weaker (λ (d : Database). IsIndex (store_of rows) d d.index) (λ d. test d ≡ false) (λ d is. ap not (passes (store_of rows) d d.index is)) (store_of rows).databases indexed)),
)
