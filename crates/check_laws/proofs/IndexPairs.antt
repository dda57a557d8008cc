-- Which index is the first without the pairs of its primary's records.
use Rattle.std.proofs.Common.{◌≡◌, ℕ, List, [], ◌∷◌, Bool, true, false, not, ◌==◌, Option, None, Some, map, option_map, refl, sym, ap, ap₂, ◌∙◌}
use Rattle.std.specs.List.{AllByRecursion, list_any}
use Rattle.std.proofs.lemmas.Bool.{and_parts, cond-true, cond-false, eqb-true, eq-eqb, eqb-false, ne_eqb}
use Rattle.je_order.specs.declared.name.Name.{Name}
use Rattle.db_catalog.specs.Catalog.{db_record_in}
use Rattle.store_model.specs.declared.store.Database.{Database}
use Rattle.store_model.specs.declared.kind.Kind.{Kind}
use Rattle.store_model.specs.declared.kind.Kind.TheVariants.{Plain, Dup}
use Rattle.store_model.specs.declared.extract.Extract.{Extract}
use Rattle.store_model.specs.Store.{Pair, database_of}
use Rattle.store_model.specs.Indexes.{index_pairs}
use Rattle.store_model.specs.Evaluation.{plain_name}
use Rattle.log_replay.specs.Rows.{Row, Rows, row_at, row_numbered, catalog_number, catalog_kind, catalog_index, is_plain_row, are_distinct, is_environment, IsRising, index_in, index_over, database_in, store_of, pair_of, has_primary}
use Rattle.log_replay.specs.Indexed.{are_same_pairs, are_pairs_of, is_filled}
use Rattle.log_replay.proofs.IndexedLaws.{index_kind, primary_kind}
use Rattle.log_replay.proofs.ListLaws.{all_both, found}
use Rattle.log_replay.proofs.RowLaws.{plain_name-key}
use Rattle.log_replay.proofs.StoreLaws.{HasPrimary, IsEnvironment, environment_parts, catalog_plain, database_of-store_of, is_right_under}
use Rattle.log_replay.proofs.LoggedLaws.{found_each, plain_there}
use Rattle.check_laws.specs.Rest.{is_paired, is_paired_by, primary_rows}

-- a primary by its catalog record: the number, the kind, and the store's database of its name
pub record IsPrimaryRow (rows : Rows) (number : ℕ) (p : Row) : Type 0 where
  pub at : row_numbered number (rows 0) ≡ Some p
  pub number_is : catalog_number p.1 ≡ number
  pub kind : catalog_kind p.1 ≡ Plain
  pub plain : is_plain_row (row_numbered number (rows 0)) ≡ true
  pub right : is_right_under rows p ≡ true
  pub there : database_of p.0.key (store_of rows) ≡ Some (database_in rows p)

pub primary_of : (rows : Rows) (made : ℕ × Extract) → is_environment rows ≡ true → IsRising (rows 0) → has_primary (rows 0) (Some made) ≡ true → (p : Row) × IsPrimaryRow rows made.0 p
primary_of rows made env up has =
    let parts : IsEnvironment rows = environment_parts rows env in
    let p = plain_there (row_numbered made.0 (rows 0)) has in
    let by_name : AllByRecursion (λ (x : Row). row_at (plain_name x.0.key) (rows 0) ≡ Some x) (rows 0) =
    all_both (λ (x : Row). x.0.dup ≡ []) (λ (x : Row). row_at x.0 (rows 0) ≡ Some x) (λ x. row_at (plain_name x.0.key) (rows 0) ≡ Some x)
    (λ x plain at. ap (λ (n : Name). row_at n (rows 0)) (sym (plain_name-key x.0 plain)) ∙ at) (rows 0) (catalog_plain (rows 0) parts.catalog) (found_each (rows 0) up) in
    let one = found (λ (x : Row). row_at (plain_name x.0.key) (rows 0) ≡ Some x) (λ x. catalog_number x.1 == made.0) (rows 0) p.0 p.1 by_name in
    let right = found (λ (x : Row). is_right_under rows x ≡ true) (λ x. catalog_number x.1 == made.0) (rows 0) p.0 p.1 parts.right in
    let number : catalog_number p.0.1 ≡ made.0 = eqb-true (catalog_number p.0.1) made.0 one.1 in
    let kind : catalog_kind p.0.1 ≡ Plain = (primary_kind (db_record_in p.0.1) (sym (ap is_plain_row p.1) ∙ has)).0 in (
      p.0,
      record {
        at = p.1;
        number_is = number;
        kind = kind;
        plain = has;
        right = right.0;
        there = database_of-store_of rows p.0.0.key env ∙ ap (option_map (database_in rows)) one.0;
      },
    )

-- what is compared is what the store says of it
pub paired_by : (rows : Rows) (r : Row) → is_environment rows ≡ true → IsRising (rows 0) → HasPrimary (rows 0) r →
    is_filled (store_of rows) (database_in rows r).index (database_in rows r).pairs ≡ is_paired rows r
paired_by rows r env up has = by (catalog_index r.1) refl has
  where
    by : (o : Option (ℕ × Extract)) → catalog_index r.1 ≡ o → has_primary (rows 0) o ≡ true →
        is_filled (store_of rows) (index_in (rows 0) o) (database_in rows r).pairs ≡ is_paired_by rows (catalog_number r.1) o
    by None is has = refl
    by (Some made) is has =
        let p = primary_of rows made env up has in
        let of : List Pair → List Pair → Bool = λ own theirs. are_same_pairs own (index_pairs made.1 theirs) in
        let own : (database_in rows r).pairs ≡ map (pair_of Dup) (rows (catalog_number r.1)) = ap (λ (k : Kind). map (pair_of k) (rows (catalog_number r.1))) (index_kind (db_record_in r.1) made is) in
        let theirs : (database_in rows p.0).pairs ≡ map (pair_of Plain) (primary_rows rows made.0) =
        ap₂ (λ (k : Kind) (n : ℕ). map (pair_of k) (rows n)) p.1.kind p.1.number_is
        ∙ ap (map (pair_of Plain)) (sym (cond-true (is_plain_row (row_numbered made.0 (rows 0))) (rows made.0) [] p.1.plain)) in
        ap (λ (o : Option Row). is_filled (store_of rows) (option_map (index_over made.1) o) (database_in rows r).pairs) p.1.at
        ∙ ap (λ (o : Option Database). are_pairs_of o made.1 (database_in rows r).pairs) p.1.there ∙ ap₂ of own theirs

-- ---- numbers

other_number : (n : ℕ) (rows : List Row) → not (list_any (λ m. m == n) (map (λ (r : Row). catalog_number r.1) rows)) ≡ true → AllByRecursion (λ (r : Row). (n == catalog_number r.1) ≡ false) rows
other_number n [] h = tt
other_number n (r ∷ rows) h = by (catalog_number r.1 == n) refl h (other_number n rows)
  where
    turned : (catalog_number r.1 == n) ≡ false → (n == catalog_number r.1) ≡ false
    turned e = ne_eqb n (catalog_number r.1) (λ same. eqb-false (catalog_number r.1) n e (sym same))

    by : (b : Bool) → (catalog_number r.1 == n) ≡ b → not (list_any (λ m. m == n) (catalog_number r.1 ∷ map (λ (x : Row). catalog_number x.1) rows)) ≡ true →
        (not (list_any (λ m. m == n) (map (λ (x : Row). catalog_number x.1) rows)) ≡ true → AllByRecursion (λ (x : Row). (n == catalog_number x.1) ≡ false) rows) →
        AllByRecursion (λ (x : Row). (n == catalog_number x.1) ≡ false) (r ∷ rows)
    by true e h behind = let wrong = rw e at h in absurd (cc wrong)
    by false e h behind = let rest = rw e at h in (turned e, behind rest)

-- each record of a catalog is that of its number
pub numbered_each : (rows : List Row) → are_distinct (map (λ (r : Row). catalog_number r.1) rows) ≡ true → AllByRecursion (λ (r : Row). row_numbered (catalog_number r.1) rows ≡ Some r) rows
numbered_each [] h = tt
numbered_each (r ∷ rows) h =
    let two = and_parts (not (list_any (λ m. m == catalog_number r.1) (map (λ (x : Row). catalog_number x.1) rows))) (are_distinct (map (λ (x : Row). catalog_number x.1) rows)) h in (
      cond-true (catalog_number r.1 == catalog_number r.1) (Some r) (row_numbered (catalog_number r.1) rows) (eq-eqb (catalog_number r.1) (catalog_number r.1) refl),
      all_both (λ (x : Row). (catalog_number r.1 == catalog_number x.1) ≡ false) (λ (x : Row). row_numbered (catalog_number x.1) rows ≡ Some x) (λ x. row_numbered (catalog_number x.1) (r ∷ rows) ≡ Some x)
          (λ x other at. cond-false (catalog_number r.1 == catalog_number x.1) (Some r) (row_numbered (catalog_number x.1) rows) other ∙ at) rows (other_number (catalog_number r.1) rows two.0) (numbered_each rows two.1),
    )
