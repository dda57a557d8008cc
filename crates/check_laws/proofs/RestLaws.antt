-- Where no record is wrong all records are left.
use Rattle.std.proofs.Common.{◌≡◌, ℕ, List, [], ◌∷◌, Bool, true, false, cond, not, ◌&&◌, ◌==◌, length, Option, None, Some, find, filter, map, option_map, refl, sym, ap, ap₂, ◌∙◌}
use Rattle.std.specs.List.{AllByRecursion}
use Rattle.std.proofs.lemmas.Bool.{and_parts, not-true, cond-false}
use Rattle.std.proofs.lemmas.List.{length-map}
use Rattle.je_order.specs.Words.{is_word}
use Rattle.store_model.specs.declared.store.Database.{Database}
use Rattle.store_model.specs.declared.kind.Kind.TheVariants.{Plain, Dup}
use Rattle.store_model.specs.declared.extract.Extract.{Extract}
use Rattle.store_model.specs.Indexes.{index_pairs}
use Rattle.log_replay.specs.Rows.{Row, Rows, row_numbered, catalog_number, catalog_kind, catalog_index, is_catalog_row, is_plain_row, is_right_row, is_environment, IsRising, database_in, store_of, pair_of, has_primary}
use Rattle.log_replay.specs.Indexed.{are_same_pairs, is_filled, wrong_index}
use Rattle.log_replay.proofs.ListLaws.{all_true, all_weaker, all_both, found, find-map, filter-all}
use Rattle.log_replay.proofs.StoreLaws.{HasPrimary, IsEnvironment, primaries_in, environment_parts, is_right_under}
use Rattle.check_laws.specs.declared.database_count.DatabaseCount.{DatabaseCount}
use Rattle.check_laws.specs.Parts.{first_item}
use Rattle.check_laws.specs.Rest.{catalog_left, left_by, rows_left, is_paired, is_paired_by, primary_rows, wrong_indexes}
use Rattle.check_laws.specs.Check.{count_left, count_of_database, counts_left}
use Rattle.check_laws.proofs.PartChecks.{filtered_first}
use Rattle.check_laws.proofs.IndexPairs.{numbered_each, paired_by, primary_of}

-- ---- one database

-- records of an environment are all left
pub record IsLeft (rows : Rows) (r : Row) : Type 0 where
  pub same : rows_left rows (catalog_number r.1) ≡ rows (catalog_number r.1)

not_catalog : (r : Row) → is_catalog_row r ≡ true → (catalog_number r.1 == 0) ≡ false
not_catalog r h = not-true (catalog_number r.1 == 0) (and_parts (is_word r.0.key && (length r.0.dup == 0)) (not (catalog_number r.1 == 0)) h).1

left_here : (rows : Rows) (r : Row) → catalog_left rows ≡ rows 0 → is_catalog_row r ≡ true → row_numbered (catalog_number r.1) (rows 0) ≡ Some r → is_right_under rows r ≡ true → IsLeft rows r
left_here rows r kept own at right =
    let n : ℕ = catalog_number r.1 in
    record {
      same = cond-false (n == 0) (catalog_left rows) (left_by (row_numbered n (catalog_left rows)) (rows n)) (not_catalog r own)
          ∙ ap (λ (l : List Row). left_by (row_numbered n l) (rows n)) kept ∙ ap (λ (o : Option Row). left_by o (rows n)) at
          ∙ filter-all (is_right_row (catalog_kind r.1)) (rows n) (all_true (is_right_row (catalog_kind r.1)) (rows n) right);
    }

left_each : (rows : Rows) → catalog_left rows ≡ rows 0 → is_environment rows ≡ true → AllByRecursion (IsLeft rows) (rows 0)
left_each rows kept env =
    let parts : IsEnvironment rows = environment_parts rows env in
    all_both (λ (r : Row). (is_catalog_row r ≡ true) × (row_numbered (catalog_number r.1) (rows 0) ≡ Some r)) (λ r. is_right_under rows r ≡ true) (IsLeft rows)
    (λ r two right. left_here rows r kept two.0 two.1 right) (rows 0)
    (all_both (λ (r : Row). is_catalog_row r ≡ true) (λ (r : Row). row_numbered (catalog_number r.1) (rows 0) ≡ Some r) (λ r. (is_catalog_row r ≡ true) × (row_numbered (catalog_number r.1) (rows 0) ≡ Some r))
    (λ r own at. (own, at)) (rows 0) parts.catalog (numbered_each (rows 0) parts.distinct)) parts.right

-- ---- indexes

-- an index that is left is judged as before
left_paired : (rows : Rows) (r : Row) → catalog_left rows ≡ rows 0 → is_environment rows ≡ true → IsRising (rows 0) → HasPrimary (rows 0) r → IsLeft rows r →
    is_paired (rows_left rows) r ≡ is_paired rows r
left_paired rows r kept env up has left = by (catalog_index r.1) has
  where
    by : (o : Option (ℕ × Extract)) → has_primary (rows 0) o ≡ true → is_paired_by (rows_left rows) (catalog_number r.1) o ≡ is_paired_by rows (catalog_number r.1) o
    by None has = refl
    by (Some made) has =
        let p = primary_of rows made env up has in
        let theirs = found (IsLeft rows) (λ x. catalog_number x.1 == made.0) (rows 0) p.0 p.1.at (left_each rows kept env) in
        let same : rows_left rows made.0 ≡ rows made.0 = ap (rows_left rows) (sym p.1.number_is) ∙ theirs.0.same ∙ ap rows p.1.number_is in
        let primary : primary_rows (rows_left rows) made.0 ≡ primary_rows rows made.0 =
        ap₂ (λ (l : List Row) (m : List Row). cond (is_plain_row (row_numbered made.0 l)) m []) kept same in
        ap₂ (λ (l : List Row) (m : List Row). are_same_pairs (map (pair_of Dup) l) (index_pairs made.1 (map (pair_of Plain) m))) left.same primary

-- a filter by tests that agree
filtered_alike : (p q : Row → Bool) (rows : List Row) → AllByRecursion (λ r. p r ≡ q r) rows → filter p rows ≡ filter q rows
filtered_alike p q [] all = refl
filtered_alike p q (r ∷ rows) all = ap₂ (λ (b : Bool) (l : List Row). cond b (r ∷ l) l) all.0 (filtered_alike p q rows all.1)

named : (rows : Rows) (o : Option Row) → option_map (λ (d : Database). d.name) (option_map (database_in rows) o) ≡ option_map (λ (r : Row). r.0.key) o
named rows None = refl
named rows (Some r) = refl

-- the first of the indexes that are wrong by what is left is the first by the store
pub indexes_begin : (rows : Rows) → catalog_left rows ≡ rows 0 → is_environment rows ≡ true → IsRising (rows 0) → first_item (wrong_indexes (rows_left rows)) ≡ wrong_index (store_of rows)
indexes_begin rows kept env up =
    let test : Database → Bool = λ d. not (is_filled (store_of rows) d.index d.pairs) in
    let own : Row → Bool = λ r. not (is_paired rows r) in
    let left : Row → Bool = λ r. not (is_paired (rows_left rows) r) in
    let alike : AllByRecursion (λ r. left r ≡ own r) (rows 0) =
    all_both (HasPrimary (rows 0)) (IsLeft rows) (λ r. left r ≡ own r) (λ r has there. ap not (left_paired rows r kept env up has there)) (rows 0) (primaries_in rows env) (left_each rows kept env) in
    ap (λ (l : List Row). first_item (map (λ (r : Row). r.0.key) (filter left l))) kept
    ∙ ap (λ (l : List Row). first_item (map (λ (r : Row). r.0.key) l)) (filtered_alike left own (rows 0) alike)
    ∙ filtered_first own (λ (r : Row). r.0.key) (rows 0)
    ∙ sym (named rows (find own (rows 0)))
    ∙ sym (ap (option_map (λ (d : Database). d.name))
    (find-map (database_in rows) test own (rows 0)
    (all_weaker (HasPrimary (rows 0)) (λ r. test (database_in rows r) ≡ own r) (λ r has. ap not (paired_by rows r env up has)) (rows 0) (primaries_in rows env))))

-- ---- counts

counted : (rows : Rows) (l : List Row) → AllByRecursion (IsLeft rows) l → map (count_left (rows_left rows)) l ≡ map count_of_database (map (database_in rows) l)
counted rows [] all = refl
counted rows (r ∷ l) all =
    let of : ℕ → DatabaseCount = λ n. record { name = r.0.key; records = n } in
    let one : count_left (rows_left rows) r ≡ count_of_database (database_in rows r) =
    ap of (ap (λ (l : List Row). length l) all.0.same ∙ sym (length-map (rows (catalog_number r.1)) (pair_of (catalog_kind r.1)))) in
    ap₂ (λ (c : DatabaseCount) (cs : List DatabaseCount). c ∷ cs) one (counted rows l all.1)

-- the counts of what is left are those of the store
pub counts_are : (rows : Rows) → catalog_left rows ≡ rows 0 → is_environment rows ≡ true → counts_left (rows_left rows) ≡ map count_of_database (store_of rows).databases
counts_are rows kept env =
    ap (λ (l : List Row). map (count_left (rows_left rows)) l) kept ∙ counted rows (rows 0) (left_each rows kept env)
