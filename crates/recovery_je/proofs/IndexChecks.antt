-- Which index is the first without the pairs of its primary's records.
use Rattle.std.proofs.Common.{◌≡◌, ℕ, List, [], ◌∷◌, Bool, true, false, cond, not, ◌&&◌, ◌==◌, length, Option, None, Some, find, map, option_map, refl, sym, ap, ap₂, ◌∙◌, subst}
use Rattle.std.specs.List.{AllByRecursion}
use Rattle.std.proofs.lemmas.Bool.{and_parts, eqb-true}
use Rattle.je_order.specs.Words.{is_word}
use Rattle.je_order.specs.declared.name.Name.{Name}
use Rattle.db_catalog.specs.Catalog.{db_record_in}
use Rattle.store_model.specs.declared.store.Database.{Database}
use Rattle.store_model.specs.declared.kind.Kind.{Kind}
use Rattle.store_model.specs.declared.kind.Kind.TheVariants.{Plain, Dup}
use Rattle.store_model.specs.declared.extract.Extract.{Extract}
use Rattle.store_model.specs.Store.{Pair, database_of}
use Rattle.store_model.specs.Indexes.{index_pairs}
use Rattle.store_model.specs.Evaluation.{plain_name}
use Rattle.record_tree.specs.Stored.{Stored, values_of}
use Rattle.log_replay.specs.Rows.{Row, Rows, row_at, row_numbered, catalog_number, catalog_kind, catalog_index, is_catalog_row, is_plain_row, are_right, is_environment, IsRising, index_in, index_over, database_in, store_of, pair_of, has_primary}
use Rattle.log_replay.specs.Indexed.{are_same_pairs, are_pairs_of, is_filled as has_pairs, wrong_index}
use Rattle.log_replay.proofs.IndexedLaws.{indexes_are_judged, index_kind, primary_kind}
use Rattle.log_replay.proofs.ListLaws.{all_weaker, all_both, found, find-map}
use Rattle.log_replay.proofs.RowLaws.{plain_name-key}
use Rattle.log_replay.proofs.StoreLaws.{HasPrimary, IsEnvironment, primaries_in, environment_parts, catalog_plain, database_of-store_of, is_right_under}
use Rattle.log_replay.proofs.LoggedLaws.{found_each, plain_there}
use Rattle.recovery_je.specs.Indexing.{IsIndexCheck, is_filled_by, is_filled, first_not_filled, HasPlainPrimary, IsReadable}

-- ---- what the catalog's record of an index says

-- a primary by its catalog record: the number, the kind, and the store's database of its name
record IsPrimary (rows : Rows) (number : ℕ) (p : Row) : Type 0 where
  pub at : row_numbered number (rows 0) ≡ Some p
  pub number_is : catalog_number p.1 ≡ number
  pub kind : catalog_kind p.1 ≡ Plain
  pub right : are_right Plain (rows number) ≡ true
  pub there : database_of p.0.key (store_of rows) ≡ Some (database_in rows p)

primary_of : (rows : Rows) (made : ℕ × Extract) → is_environment rows ≡ true → IsRising (rows 0) → has_primary (rows 0) (Some made) ≡ true → (p : Row) × IsPrimary rows made.0 p
primary_of rows made env up has =
    let parts : IsEnvironment rows = environment_parts rows env in
    let p = plain_there (row_numbered made.0 (rows 0)) has in
    let by_name : AllByRecursion (λ (x : Row). row_at (plain_name x.0.key) (rows 0) ≡ Some x) (rows 0) =
    all_both (λ (x : Row). x.0.dup ≡ []) (λ (x : Row). row_at x.0 (rows 0) ≡ Some x) (λ x. row_at (plain_name x.0.key) (rows 0) ≡ Some x)
    (λ x plain at. ap (λ (n : Name). row_at n (rows 0)) (sym (plain_name-key x.0 plain)) ∙ at) (rows 0) (catalog_plain (rows 0) parts.catalog) (found_each (rows 0) up) in
    let one = found (λ (x : Row). row_at (plain_name x.0.key) (rows 0) ≡ Some x) (λ x. catalog_number x.1 == made.0) (rows 0) p.0 p.1 by_name in
    let right = found (λ (x : Row). is_right_under rows x ≡ true) (λ x. catalog_number x.1 == made.0) (rows 0) p.0 p.1 parts.right in
    let number : catalog_number p.0.1 ≡ made.0 = eqb-true (catalog_number p.0.1) made.0 one.1 in
    let kind : catalog_kind p.0.1 ≡ Plain = (primary_kind (db_record_in p.0.1) (sym (ap is_plain_row p.1) ∙ has)).0 in (
      p.0,
      record {
        at = p.1;
        number_is = number;
        kind = kind;
        right = sym (ap₂ (λ (k : Kind) (n : ℕ). are_right k (rows n)) kind number) ∙ right.0;
        there = database_of-store_of rows p.0.0.key env ∙ ap (option_map (database_in rows)) one.0;
      },
    )

-- ---- one database

-- what is compared is what the store says of it
pub filled_by : (rows : Rows) (r : Row) → is_environment rows ≡ true → IsRising (rows 0) → HasPrimary (rows 0) r →
    has_pairs (store_of rows) (database_in rows r).index (database_in rows r).pairs ≡ is_filled rows r.1
filled_by rows r env up has = by (catalog_index r.1) refl has
  where
    by : (o : Option (ℕ × Extract)) → catalog_index r.1 ≡ o → has_primary (rows 0) o ≡ true →
        has_pairs (store_of rows) (index_in (rows 0) o) (database_in rows r).pairs ≡ is_filled_by rows (catalog_number r.1) o
    by None is has = refl
    by (Some made) is has =
        let p = primary_of rows made env up has in
        let of : List Pair → List Pair → Bool = λ own theirs. are_same_pairs own (index_pairs made.1 theirs) in
        let own : (database_in rows r).pairs ≡ map (pair_of Dup) (rows (catalog_number r.1)) = ap (λ (k : Kind). map (pair_of k) (rows (catalog_number r.1))) (index_kind (db_record_in r.1) made is) in
        let theirs : (database_in rows p.0).pairs ≡ map (pair_of Plain) (rows made.0) = ap₂ (λ (k : Kind) (n : ℕ). map (pair_of k) (rows n)) p.1.kind p.1.number_is in
        ap (λ (o : Option Row). has_pairs (store_of rows) (option_map (index_over made.1) o) (database_in rows r).pairs) p.1.at
        ∙ ap (λ (o : Option Database). are_pairs_of o made.1 (database_in rows r).pairs) p.1.there ∙ ap₂ of own theirs

plain_primary : (rows : Rows) (o : Option (ℕ × Extract)) → is_environment rows ≡ true → IsRising (rows 0) → has_primary (rows 0) o ≡ true → HasPlainPrimary rows o
plain_primary rows None env up has = tt
plain_primary rows (Some made) env up has = (primary_of rows made env up has).1.right

-- ---- the catalog's records

abbrev StoredRecord : Type 0
StoredRecord = Name × Stored

abbrev row_of : StoredRecord → Row
row_of r = (r.0, r.1.value)

all_of_values : (P : Row → Type 0) (records : List StoredRecord) → AllByRecursion P (values_of records) → AllByRecursion (λ (r : StoredRecord). P (row_of r)) records
all_of_values P [] all = tt
all_of_values P (r ∷ records) all = (all.0, all_of_values P records all.1)

word_of : (r : Row) → is_catalog_row r ≡ true → is_word r.0.key ≡ true
word_of r h = (and_parts (is_word r.0.key) (length r.0.dup == 0) (and_parts (is_word r.0.key && (length r.0.dup == 0)) (not (catalog_number r.1 == 0)) h).0).0

pub readable : (rows : Rows) (records : List StoredRecord) → values_of records ≡ rows 0 → is_environment rows ≡ true → IsRising (rows 0) → AllByRecursion (IsReadable rows) records
readable rows records are env up =
    let each : AllByRecursion (λ (r : Row). (is_word r.0.key ≡ true) × HasPlainPrimary rows (catalog_index r.1)) (rows 0) =
    all_both (λ (r : Row). is_catalog_row r ≡ true) (HasPrimary (rows 0)) (λ r. (is_word r.0.key ≡ true) × HasPlainPrimary rows (catalog_index r.1))
    (λ r own has. (word_of r own, plain_primary rows (catalog_index r.1) env up has)) (rows 0) (environment_parts rows env).catalog (primaries_in rows env) in
    all_weaker (λ (r : StoredRecord). (is_word r.0.key ≡ true) × HasPlainPrimary rows (catalog_index r.1.value)) (IsReadable rows)
    (λ r h. record { word = h.0; primary = h.1 }) records
    (all_of_values (λ (r : Row). (is_word r.0.key ≡ true) × HasPlainPrimary rows (catalog_index r.1)) records
    (subst (AllByRecursion (λ (r : Row). (is_word r.0.key ≡ true) × HasPlainPrimary rows (catalog_index r.1))) (sym are) each))

-- the first record that fails a test of its data, by the rows
first_failing : (p : List ℕ → Bool) (records : List StoredRecord) →
    option_map (λ (r : StoredRecord). r.0.key) (find (λ (r : StoredRecord). not (p r.1.value)) records) ≡ option_map (λ (r : Row). r.0.key) (find (λ (r : Row). not (p r.1)) (values_of records))
first_failing p [] = refl
first_failing p (r ∷ records) = by (p r.1.value) (first_failing p records)
  where
    by : (b : Bool) →
        option_map (λ (s : StoredRecord). s.0.key) (find (λ (s : StoredRecord). not (p s.1.value)) records) ≡ option_map (λ (s : Row). s.0.key) (find (λ (s : Row). not (p s.1)) (values_of records)) →
        option_map (λ (s : StoredRecord). s.0.key) (cond (not b) (Some r) (find (λ (s : StoredRecord). not (p s.1.value)) records))
        ≡ option_map (λ (s : Row). s.0.key) (cond (not b) (Some (row_of r)) (find (λ (s : Row). not (p s.1)) (values_of records)))
    by true rest = rest
    by false rest = refl

named : (rows : Rows) (o : Option Row) → option_map (λ (d : Database). d.name) (option_map (database_in rows) o) ≡ option_map (λ (r : Row). r.0.key) o
named rows None = refl
named rows (Some r) = refl

pub first_is : (rows : Rows) (records : List StoredRecord) → values_of records ≡ rows 0 → is_environment rows ≡ true → IsRising (rows 0) →
    first_not_filled rows records ≡ wrong_index (store_of rows)
first_is rows records are env up =
    let test : Database → Bool = λ d. not (has_pairs (store_of rows) d.index d.pairs) in
    first_failing (is_filled rows) records ∙ ap (λ (l : List Row). option_map (λ (r : Row). r.0.key) (find (λ (r : Row). not (is_filled rows r.1)) l)) are
    ∙ sym (named rows (find (λ (r : Row). not (is_filled rows r.1)) (rows 0)))
    ∙ sym (ap (option_map (λ (d : Database). d.name))
    (find-map (database_in rows) test (λ r. not (is_filled rows r.1)) (rows 0)
    (all_weaker (HasPrimary (rows 0)) (λ r. test (database_in rows r) ≡ not (is_filled rows r.1)) (λ r has. ap not (filled_by rows r env up has)) (rows 0) (primaries_in rows env))))

-- what the check of the records comes to
pub checked : (rows : Rows) (records : List StoredRecord) (name : Option (List ℕ)) → values_of records ≡ rows 0 → is_environment rows ≡ true → IsRising (rows 0) →
    name ≡ first_not_filled rows records → IsIndexCheck (store_of rows) name
checked rows records name are env up is =
    let first : name ≡ wrong_index (store_of rows) = is ∙ first_is rows records are env up in
    record { first = first; indexed = λ none. (indexes_are_judged rows env up).0 (sym first ∙ none) }
