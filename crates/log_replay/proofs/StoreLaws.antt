-- The store that records make, and what a change of its records or of the catalog's leaves of it.
use Rattle.std.proofs.Common.{◌≡◌, ◌≢◌, ℕ, ◌<◌, ◌≤◌, List, [], ◌∷◌, ◌++◌, Bool, true, false, cond, not, ◌&&◌, ◌==◌, nat_le, Option, None, Some, map, filter, length, option_map, refl, ap, ap₂, sym, ◌∙◌, subst, ⊎_elim, ◌⊎◌, inl, inr, arith, length-append, Ordering, is_eq, is_lt, is_gt}
use Rattle.std.specs.List.{AllByRecursion, list_all, list_any}
use mathlib.Core.Path.{fun_ext}
use Rattle.std.proofs.lemmas.Bool.{and_parts, and_from, cases_Bool, cond_both, cond-true, cond-false, true≢false, eqb-true, eqb-false, eq-eqb, ne_eqb, not-true, not_from_false, le-leb, leb-true}
use Rattle.std.proofs.lemmas.Option.{same_Some}
use Rattle.std.proofs.lemmas.List.{map-append, length-map, nil_from_length}
use Rattle.je_order.specs.Order.{bytes_cmp, name_cmp, is_same_bytes}
use Rattle.je_order.specs.Words.{is_word}
use Rattle.je_order.specs.declared.name.Name.{Name}
use Rattle.store_model.specs.declared.store.Store.{Store}
use Rattle.store_model.specs.declared.store.Database.{Database}
use Rattle.store_model.specs.declared.extract.Extract.{Extract}
use Rattle.store_model.specs.declared.kind.Kind.{Kind}
use Rattle.store_model.specs.declared.store.TheConstants.{MOST_DATABASES}
use Rattle.store_model.specs.Store.{Pair, database_of, with_pairs, in_database, databases_with, databases_without}
use Rattle.store_model.specs.Evaluation.{plain_name}
use Rattle.log_replay.specs.Rows.{Row, Rows, RowChange, row_changed, rows_with, row_at, number_or_0, kind_or_plain, catalog_number, catalog_kind, is_catalog_row, are_distinct, are_right, rows_of_row, numbers_of, is_environment, IsRising, pair_of, index_or_none, catalog_index, has_primary, index_in, database_by, store_by, database_in, store_of}
use Rattle.log_replay.specs.Logging.{record_in, record_named, number_named, kind_named, index_named}
use Rattle.log_replay.proofs.ListLaws.{all_true, all_from_true, all_both, all_parts, all_of_map, all_to_map, map_same, map-map, find-map, filter-map, found, any_found, list_any-map}
use Rattle.je_order.proofs.Lists.{none_each, each_none, all_weaker, all_append, all_kept}
use Rattle.log_replay.proofs.RowLaws.{name_cmp-plain, rising-changed, rising_tail, split_where_none, others_after, replaced}
use Rattle.je_order.proofs.Orderings.{name_exact, equal_from_test}

-- an empty dup, by the test of its length
no_dup : (dup : List ℕ) → (length dup == 0) ≡ true → dup ≡ []
no_dup dup h = nil_from_length dup (eqb-true (length dup) 0 h)

-- ---- the parts of an environment

-- the number in a catalog record
abbrev pub number_of_row : Row → ℕ
number_of_row row = catalog_number row.1

-- whether the records under a catalog record's number are right
abbrev pub is_right_under : Rows → Row → Bool
is_right_under rows row = are_right (catalog_kind row.1) (rows_of_row rows row)

-- what `is_environment` says, part by part; the primaries of indexes stand alone
pub record IsEnvironment (rows : Rows) : Type 0 where
  pub catalog : AllByRecursion (λ r. is_catalog_row r ≡ true) (rows 0)
  pub distinct : are_distinct (numbers_of rows) ≡ true
  pub right : AllByRecursion (λ r. is_right_under rows r ≡ true) (rows 0)
  pub few : length (rows 0) ≤ MOST_DATABASES

abbrev pub HasPrimary : List Row → Row → Type 0
HasPrimary catalog row = has_primary catalog (catalog_index row.1) ≡ true

abbrev pub HavePrimaries : Rows → Type 0
HavePrimaries rows = AllByRecursion (HasPrimary (rows 0)) (rows 0)

-- from the test
all_parts_of : (rows : Rows) → is_environment rows ≡ true → IsEnvironment rows × HavePrimaries rows
all_parts_of rows h =
    let catalog = list_all is_catalog_row (rows 0) in
    let distinct = are_distinct (numbers_of rows) in
    let right = list_all (is_right_under rows) (rows 0) in
    let few = nat_le (length (rows 0)) MOST_DATABASES in
    let own : Row → Bool = λ r. has_primary (rows 0) (catalog_index r.1) in
    let z = and_parts (catalog && distinct && right && few) (list_all own (rows 0)) h in
    let a = and_parts (catalog && distinct && right) few z.0 in
    let b = and_parts (catalog && distinct) right a.0 in
    let c = and_parts catalog distinct b.0 in (
      record {
        catalog = all_true is_catalog_row (rows 0) c.0;
        distinct = c.1;
        right = all_true (is_right_under rows) (rows 0) b.1;
        few = leb-true (length (rows 0)) MOST_DATABASES a.1;
      },
      all_true own (rows 0) z.1,
    )

pub environment_parts : (rows : Rows) → is_environment rows ≡ true → IsEnvironment rows
environment_parts rows h = (all_parts_of rows h).0

pub primaries_in : (rows : Rows) → is_environment rows ≡ true → HavePrimaries rows
primaries_in rows h = (all_parts_of rows h).1

-- and back to it
pub environment_from : (rows : Rows) → IsEnvironment rows → HavePrimaries rows → is_environment rows ≡ true
environment_from rows h primaries =
    let catalog = list_all is_catalog_row (rows 0) in
    let distinct = are_distinct (numbers_of rows) in
    let right = list_all (is_right_under rows) (rows 0) in
    let few = nat_le (length (rows 0)) MOST_DATABASES in
    let own : Row → Bool = λ r. has_primary (rows 0) (catalog_index r.1) in
    and_from (catalog && distinct && right && few) (list_all own (rows 0))
    (and_from (catalog && distinct && right) few
    (and_from (catalog && distinct) right
    (and_from catalog distinct (all_from_true is_catalog_row (rows 0) h.catalog) h.distinct)
    (all_from_true (is_right_under rows) (rows 0) h.right))
    (le-leb (length (rows 0)) MOST_DATABASES h.few))
    (all_from_true own (rows 0) primaries)

-- what `is_catalog_row` says of a record
catalog_parts : (row : Row) → is_catalog_row row ≡ true → (row.0.dup ≡ []) × (catalog_number row.1 ≢ 0)
catalog_parts row h =
    let word = is_word row.0.key in
    let dup = length row.0.dup == 0 in
    let number = not (catalog_number row.1 == 0) in
    let a = and_parts (word && dup) number h in
    let b = and_parts word dup a.0 in
    (no_dup row.0.dup b.1, λ e. true≢false (sym (eq-eqb (catalog_number row.1) 0 e) ∙ not-true (catalog_number row.1 == 0) a.1))

-- catalog records have empty dups
pub catalog_plain : (rows : List Row) → AllByRecursion (λ r. is_catalog_row r ≡ true) rows → AllByRecursion (λ r. r.0.dup ≡ []) rows
catalog_plain rows h = all_weaker (λ (r : Row). is_catalog_row r ≡ true) (λ r. r.0.dup ≡ []) (λ r e. (catalog_parts r e).0) rows h

-- catalog records have numbers that are not the catalog's own
pub catalog_numbers : (rows : List Row) → AllByRecursion (λ r. is_catalog_row r ≡ true) rows → AllByRecursion (λ r. catalog_number r.1 ≢ 0) rows
catalog_numbers rows h = all_weaker (λ (r : Row). is_catalog_row r ≡ true) (λ r. catalog_number r.1 ≢ 0) (λ r e. (catalog_parts r e).1) rows h

-- ---- the same records make the same store

-- equal records of each database make one store
pub store_of-same : (a b : Rows) → ((db : ℕ) → a db ≡ b db) → store_of a ≡ store_of b
store_of-same a b h = ap store_of (fun_ext h)

-- and are those of an environment alike
pub is_environment-same : (a b : Rows) → ((db : ℕ) → a db ≡ b db) → is_environment a ≡ is_environment b
is_environment-same a b h = ap is_environment (fun_ext h)

-- a catalog record names the same database where the records under its number are the same
pub same_database : (c : List Row) (a b : Rows) (r : Row) → a (catalog_number r.1) ≡ b (catalog_number r.1) → database_by c a r ≡ database_by c b r
same_database c a b r h =
    let with_records : List Row → Database = λ l. record { name = r.0.key; kind = catalog_kind r.1; index = index_in c (catalog_index r.1); pairs = map (pair_of (catalog_kind r.1)) l } in ap with_records h

-- ---- databases by their names

-- a name finds in the store what it finds in the catalog
pub database_of-store_of : (rows : Rows) (name : List ℕ) → is_environment rows ≡ true →
    database_of name (store_of rows) ≡ option_map (database_in rows) (row_at (plain_name name) (rows 0))
database_of-store_of rows name h =
    find-map (database_in rows) (λ d. is_same_bytes d.name name) (λ r. is_eq (name_cmp r.0 (plain_name name))) (rows 0)
    (all_weaker (λ (r : Row). r.0.dup ≡ []) (λ r. is_same_bytes r.0.key name ≡ is_eq (name_cmp r.0 (plain_name name)))
    (λ r e. ap is_eq (sym (name_cmp-plain r.0 name e))) (rows 0) (catalog_plain (rows 0) (environment_parts rows h).catalog))

-- what a catalog's record of a name says of it
abbrev number_by : Option Row → ℕ
number_by o = number_or_0 (record_in (option_map (λ (r : Row). r.1) o))

abbrev kind_by : Option Row → Kind
kind_by o = kind_or_plain (record_in (option_map (λ (r : Row). r.1) o))

abbrev made_by_row : Option Row → Option (ℕ × Extract)
made_by_row o = index_or_none (record_in (option_map (λ (r : Row). r.1) o))

-- a name that has a number has a record of that number and kind
pub row_named : (rows : Rows) (name : List ℕ) → number_named rows name ≢ 0 →
    (row : Row) × (row_at (plain_name name) (rows 0) ≡ Some row) × (catalog_number row.1 ≡ number_named rows name) × (catalog_kind row.1 ≡ kind_named rows name)
    × (catalog_index row.1 ≡ index_or_none (record_named rows name))
row_named rows name has = by_row (row_at (plain_name name) (rows 0)) refl
  where
    by_row : (o : Option Row) → row_at (plain_name name) (rows 0) ≡ o →
        (row : Row) × (row_at (plain_name name) (rows 0) ≡ Some row) × (catalog_number row.1 ≡ number_named rows name) × (catalog_kind row.1 ≡ kind_named rows name)
        × (catalog_index row.1 ≡ index_or_none (record_named rows name))
    by_row None e = absurd (has (ap number_by e))
    by_row (Some row) e = (row, e, sym (ap number_by e), sym (ap kind_by e), sym (ap made_by_row e))

-- a name without a number has none
pub no_row_named : (rows : Rows) (name : List ℕ) → IsEnvironment rows → number_named rows name ≡ 0 → row_at (plain_name name) (rows 0) ≡ None
no_row_named rows name env none = by_row (row_at (plain_name name) (rows 0)) refl
  where
    by_row : (o : Option Row) → row_at (plain_name name) (rows 0) ≡ o → o ≡ None
    by_row None e = refl
    by_row (Some row) e =
        absurd ((found (λ (r : Row). catalog_number r.1 ≢ 0) (λ r. is_eq (name_cmp r.0 (plain_name name))) (rows 0) row e (catalog_numbers (rows 0) env.catalog)).0 (sym (ap number_by e) ∙ none))

-- the record of a name has this name
pub key_of_row : (rows : List Row) (name : List ℕ) (row : Row) → AllByRecursion (λ r. is_catalog_row r ≡ true) rows → row_at (plain_name name) rows ≡ Some row → row.0.key ≡ name
key_of_row rows name row catalog there =
    let passes = (found (λ (r : Row). is_catalog_row r ≡ true) (λ r. is_eq (name_cmp r.0 (plain_name name))) rows row there catalog).1 in
    ap (λ (n : Name). n.key) (name_exact row.0 (plain_name name) (equal_from_test (name_cmp row.0 (plain_name name)) passes))

-- a name that has a number is that of a database
pub database_of-numbered : (rows : Rows) (name : List ℕ) → is_environment rows ≡ true → number_named rows name ≢ 0 →
    database_of name (store_of rows) ≡ Some (record {
      name = name;
      kind = kind_named rows name;
      index = index_named rows name;
      pairs = map (pair_of (kind_named rows name)) (rows (number_named rows name));
    })
database_of-numbered rows name h has =
    let row = row_named rows name has in
    let key : row.0.0.key ≡ name = key_of_row (rows 0) name row.0 (environment_parts rows h).catalog row.1 in
    let make : List ℕ → Kind → Option (ℕ × Extract) → ℕ → Option Database = λ n k m d. Some (record { name = n; kind = k; index = index_in (rows 0) m; pairs = map (pair_of k) (rows d) }) in
    database_of-store_of rows name h ∙ ap (option_map (database_in rows)) row.1
    ∙ ap (λ (n : List ℕ). make n (catalog_kind row.0.1) (catalog_index row.0.1) (catalog_number row.0.1)) key
    ∙ ap₂ (λ (k : Kind) (d : ℕ). make name k (catalog_index row.0.1) d) row.3 row.2
    ∙ ap (λ (m : Option (ℕ × Extract)). make name (kind_named rows name) m (number_named rows name)) row.4

-- a name without a number is no database's
pub database_of-absent : (rows : Rows) (name : List ℕ) → is_environment rows ≡ true → number_named rows name ≡ 0 → database_of name (store_of rows) ≡ None
database_of-absent rows name h none =
    database_of-store_of rows name h ∙ ap (option_map (database_in rows)) (no_row_named rows name (environment_parts rows h) none)

-- the catalog has as many records as the store has databases
pub length-databases : (rows : Rows) → length (store_of rows).databases ≡ length (rows 0)
length-databases rows = length-map (rows 0) (database_in rows)

-- the records of a database are right for its kind
pub named-right : (rows : Rows) (name : List ℕ) (row : Row) → IsEnvironment rows → row_at (plain_name name) (rows 0) ≡ Some row → is_right_under rows row ≡ true
named-right rows name row env there = (found (λ (r : Row). is_right_under rows r ≡ true) (λ r. is_eq (name_cmp r.0 (plain_name name))) (rows 0) row there env.right).0

-- and its number is not the catalog's
pub named-above : (rows : Rows) (name : List ℕ) (row : Row) → IsEnvironment rows → row_at (plain_name name) (rows 0) ≡ Some row → catalog_number row.1 ≢ 0
named-above rows name row env there =
    (found (λ (r : Row). catalog_number r.1 ≢ 0) (λ r. is_eq (name_cmp r.0 (plain_name name))) (rows 0) row there (catalog_numbers (rows 0) env.catalog)).0

-- the number is among the catalog's
pub named-among : (rows : Rows) (name : List ℕ) (row : Row) → row_at (plain_name name) (rows 0) ≡ Some row → list_any (λ m. m == catalog_number row.1) (numbers_of rows) ≡ true
named-among rows name row there =
    list_any-map number_of_row (λ m. m == catalog_number row.1) (rows 0)
    ∙ any_found (λ (r : Row). is_eq (name_cmp r.0 (plain_name name))) (λ r. catalog_number r.1 == catalog_number row.1) (rows 0) row there
    (eq-eqb (catalog_number row.1) (catalog_number row.1) refl)

-- ---- one record of the catalog and the others

-- a catalog record is the one of the name, or it has another name and another number
abbrev pub IsOneOrOther : List ℕ → Row → Row → Type 0
IsOneOrOther name row r =
    ((r ≡ row) × (is_same_bytes r.0.key name ≡ true) × (is_eq (name_cmp r.0 (plain_name name)) ≡ true))
    ⊎ ((catalog_number r.1 ≢ catalog_number row.1) × (is_same_bytes r.0.key name ≡ false) × (is_eq (name_cmp r.0 (plain_name name)) ≡ false))

pub one_or_other : (name : List ℕ) (row : Row) (rows : List Row) →
    AllByRecursion (λ r. is_catalog_row r ≡ true) rows → are_distinct (map number_of_row rows) ≡ true → IsRising rows → row_at (plain_name name) rows ≡ Some row →
    AllByRecursion (IsOneOrOther name row) rows
one_or_other name row [] right apart up h = tt
one_or_other name row (r ∷ rows) right apart up h =
    let p : Row → Bool = λ y. is_eq (name_cmp y.0 (plain_name name)) in
    let parts = and_parts (not (list_any (λ m. m == catalog_number r.1) (map number_of_row rows))) (are_distinct (map number_of_row rows)) apart in
    let others : AllByRecursion (λ (y : Row). (catalog_number y.1 == catalog_number r.1) ≡ false) rows =
    all_of_map number_of_row (λ m. (m == catalog_number r.1) ≡ false) rows
    (none_each (λ m. m == catalog_number r.1) (map number_of_row rows) (not-true (list_any (λ m. m == catalog_number r.1) (map number_of_row rows)) parts.0)) in
    let by_key : (y : Row) → is_catalog_row y ≡ true → is_same_bytes y.0.key name ≡ p y =
    λ y e. ap is_eq (sym (name_cmp-plain y.0 name (catalog_parts y e).0)) in
    ⊎_elim
    (λ (e : p r ≡ true).
    let same : r ≡ row = same_Some r row (sym (cond-true (p r) (Some r) (row_at (plain_name name) rows) e) ∙ h) in
    let number : catalog_number r.1 ≡ catalog_number row.1 = ap number_of_row same in (
      inl (same, by_key r right.0 ∙ e, e),
      all_both (λ (y : Row). is_catalog_row y ≡ true) (λ y. ((catalog_number y.1 == catalog_number r.1) ≡ false) × (p y ≡ false))
          (IsOneOrOther name row)
          (λ y ok both. inr (λ f. eqb-false (catalog_number y.1) (catalog_number r.1) both.0 (f ∙ sym number), by_key y ok ∙ both.1, both.1))
          rows right.1
          (all_both (λ (y : Row). (catalog_number y.1 == catalog_number r.1) ≡ false) (λ y. p y ≡ false) (λ y. ((catalog_number y.1 == catalog_number r.1) ≡ false) × (p y ≡ false))
          (λ y a b. (a, b)) rows others (others_after r rows (plain_name name) up e)),
    ))
    (λ (e : p r ≡ false).
    let later : row_at (plain_name name) rows ≡ Some row = sym (cond-false (p r) (Some r) (row_at (plain_name name) rows) e) ∙ h in
    let differ = (found (λ (y : Row). (catalog_number y.1 == catalog_number r.1) ≡ false) p rows row later others).0 in (
      inr (λ f. eqb-false (catalog_number row.1) (catalog_number r.1) differ (sym f), by_key r right.0 ∙ e, e),
      one_or_other name row rows right.1 parts.1 (rising_tail r rows up) later,
    ))
    (cases_Bool (p r))

-- a database's catalog record is
abbrev pub IsCase : List ℕ → Row → Row → Type 0
IsCase name row r = (catalog_number r.1 ≢ 0) × IsOneOrOther name row r

pub catalog_cases : (rows : Rows) (name : List ℕ) (row : Row) → IsEnvironment rows → IsRising (rows 0) → row_at (plain_name name) (rows 0) ≡ Some row →
    AllByRecursion (IsCase name row) (rows 0)
catalog_cases rows name row env up there =
    all_both (λ (r : Row). catalog_number r.1 ≢ 0) (IsOneOrOther name row) (IsCase name row) (λ r a b. (a, b)) (rows 0)
    (catalog_numbers (rows 0) env.catalog) (one_or_other name row (rows 0) env.catalog env.distinct up there)

-- one database of a list changes, with its catalog record
in_place : (c : List Row) (a b : Rows) (name : List ℕ) (row : Row) (g : Row → Row) (change : Database → Database) (rows : List Row) → AllByRecursion (IsCase name row) rows →
    (is_eq (name_cmp row.0 (plain_name name)) ≡ true → database_by c b (g row) ≡ change (database_by c a row)) →
    ((r : Row) → is_eq (name_cmp r.0 (plain_name name)) ≡ false → catalog_number r.1 ≢ 0 → catalog_number r.1 ≢ catalog_number row.1 → database_by c b (g r) ≡ database_by c a r) →
    map (λ (r : Row). database_by c b (g r)) rows ≡ in_database name change (map (database_by c a) rows)
in_place c a b name row g change [] each here there = refl
in_place c a b name row g change (r ∷ rows) each here there =
    let before : Database = database_by c a r in
    let first : database_by c b (g r) ≡ cond (is_same_bytes r.0.key name) (change before) before =
    ⊎_elim
    (λ (one : (r ≡ row) × (is_same_bytes r.0.key name ≡ true) × (is_eq (name_cmp r.0 (plain_name name)) ≡ true)).
    ap (λ (x : Row). database_by c b (g x)) one.0 ∙ here (ap (λ (x : Row). is_eq (name_cmp x.0 (plain_name name))) (sym one.0) ∙ one.2)
    ∙ sym (ap (λ (x : Row). change (database_by c a x)) one.0)
    ∙ sym (cond-true (is_same_bytes r.0.key name) (change before) before one.1))
    (λ (other : (catalog_number r.1 ≢ catalog_number row.1) × (is_same_bytes r.0.key name ≡ false) × (is_eq (name_cmp r.0 (plain_name name)) ≡ false)).
    there r other.2 each.0.0 other.0 ∙ sym (cond-false (is_same_bytes r.0.key name) (change before) before other.1))
    each.0.1 in
    ap₂ (λ (d : Database) (l : List Database). d ∷ l) first (in_place c a b name row g change rows each.1 here there)

-- ---- a change of one database's records

-- a change leaves the records of the other databases
pub row_changed-there : (c : RowChange) (rows : Rows) (db : ℕ) → db ≢ c.db → row_changed c rows db ≡ rows db
row_changed-there c rows db h = cond-false (db == c.db) (rows_with c.name c.value (rows db)) (rows db) (ne_eqb db c.db h)

-- and makes its own
pub row_changed-here : (c : RowChange) (rows : Rows) → row_changed c rows c.db ≡ rows_with c.name c.value (rows c.db)
row_changed-here c rows = cond-true (c.db == c.db) (rows_with c.name c.value (rows c.db)) (rows c.db) (eq-eqb c.db c.db refl)

-- a change leaves each database's names rising
pub rising-row_changed : (c : RowChange) (rows : Rows) (db : ℕ) → IsRising (rows db) → IsRising (row_changed c rows db)
rising-row_changed c rows db up =
    cond_both (db == c.db) (rows_with c.name c.value (rows db)) (rows db) (λ l. IsRising l) (λ e. rising-changed (rows db) c.name c.value up) (λ e. up)

-- a change of the records of a database that the catalog has
pub record_changed : (rows : Rows) (name : List ℕ) (row : Row) (c : RowChange) (f : Kind → List Pair → List Pair) →
    IsEnvironment rows → IsRising (rows 0) → row_at (plain_name name) (rows 0) ≡ Some row → catalog_number row.1 ≡ c.db →
    are_right (catalog_kind row.1) (rows_with c.name c.value (rows c.db)) ≡ true →
    map (pair_of (catalog_kind row.1)) (rows_with c.name c.value (rows c.db)) ≡ f (catalog_kind row.1) (map (pair_of (catalog_kind row.1)) (rows c.db)) →
    IsEnvironment (row_changed c rows) × (store_of (row_changed c rows) ≡ record { databases = in_database name (λ d. with_pairs d (f d.kind d.pairs)) (store_of rows).databases })
record_changed rows name row c f env up there at right pairs =
    let kind = catalog_kind row.1 in
    let after : Rows = row_changed c rows in
    let above : c.db ≢ 0 = λ e. named-above rows name row env there (at ∙ e) in
    let same : rows 0 ≡ after 0 = sym (row_changed-there c rows 0 (λ e. above (sym e))) in
    let cases = catalog_cases rows name row env up there in
    let at_row : after (catalog_number row.1) ≡ rows_with c.name c.value (rows c.db) = ap after at ∙ row_changed-here c rows in
    let elsewhere : (r : Row) → catalog_number r.1 ≢ catalog_number row.1 → after (catalog_number r.1) ≡ rows (catalog_number r.1) =
    λ r h. row_changed-there c rows (catalog_number r.1) (λ e. h (e ∙ sym at)) in
    let right_row : is_right_under after row ≡ true = ap (are_right kind) at_row ∙ right in
    let with_records : List Pair → Database = λ l. record { name = row.0.key; kind = kind; index = index_in (rows 0) (catalog_index row.1); pairs = l } in
    let make : List Database → Store = λ l. record { databases = l } in (
      record {
        catalog = subst (λ l. AllByRecursion (λ (r : Row). is_catalog_row r ≡ true) l) same env.catalog;
        distinct = subst (λ (l : List Row). are_distinct (map number_of_row l) ≡ true) same env.distinct;
        right = subst (λ l. AllByRecursion (λ (r : Row). is_right_under after r ≡ true) l) same
            (all_both (IsCase name row) (λ (r : Row). is_right_under rows r ≡ true) (λ r. is_right_under after r ≡ true)
            (λ r one ok. ⊎_elim
            (λ (e : (r ≡ row) × (is_same_bytes r.0.key name ≡ true) × (is_eq (name_cmp r.0 (plain_name name)) ≡ true)). ap (is_right_under after) e.0 ∙ right_row)
            (λ (e : (catalog_number r.1 ≢ catalog_number row.1) × (is_same_bytes r.0.key name ≡ false) × (is_eq (name_cmp r.0 (plain_name name)) ≡ false)).
            ap (are_right (catalog_kind r.1)) (elsewhere r e.0) ∙ ok)
            one.1) (rows 0) cases env.right);
        few = subst (λ (l : List Row). length l ≤ MOST_DATABASES) same env.few;
      },
      ap make (ap (λ (l : List Row). map (database_by l after) l) (sym same)
          ∙ in_place (rows 0) rows after name row (λ r. r) (λ d. with_pairs d (f d.kind d.pairs)) (rows 0) cases
          (λ e. ap with_records (ap (map (pair_of kind)) at_row ∙ pairs ∙ ap (λ n. f kind (map (pair_of kind) (rows n))) (sym at)))
          (λ r e above_ h. same_database (rows 0) after rows r (elsewhere r h))),
    )

-- ---- a database more

-- one number more, in the middle
distinct_with : (lower higher : List Row) (row : Row) → are_distinct (map number_of_row (lower ++ higher)) ≡ true →
    AllByRecursion (λ r. catalog_number r.1 ≢ catalog_number row.1) (lower ++ higher) → are_distinct (map number_of_row (lower ++ row ∷ higher)) ≡ true
distinct_with [] higher row apart differ =
    and_from (not (list_any (λ m. m == catalog_number row.1) (map number_of_row higher))) (are_distinct (map number_of_row higher))
    (not_from_false (list_any (λ m. m == catalog_number row.1) (map number_of_row higher))
    (each_none (λ m. m == catalog_number row.1) (map number_of_row higher)
    (all_to_map number_of_row (λ m. (m == catalog_number row.1) ≡ false) higher
    (all_weaker (λ (r : Row). catalog_number r.1 ≢ catalog_number row.1) (λ r. (catalog_number r.1 == catalog_number row.1) ≡ false) (λ r h. ne_eqb (catalog_number r.1) (catalog_number row.1) h) higher differ))))
    apart
distinct_with (r ∷ lower) higher row apart differ =
    let test : ℕ → Bool = λ m. m == catalog_number r.1 in
    let parts = and_parts (not (list_any test (map number_of_row (lower ++ higher)))) (are_distinct (map number_of_row (lower ++ higher))) apart in
    let others : AllByRecursion (λ (y : Row). test (catalog_number y.1) ≡ false) (lower ++ higher) =
    all_of_map number_of_row (λ m. test m ≡ false) (lower ++ higher)
    (none_each test (map number_of_row (lower ++ higher)) (not-true (list_any test (map number_of_row (lower ++ higher))) parts.0)) in
    let P : Row → Type 0 = λ y. test (catalog_number y.1) ≡ false in
    let halves = all_parts P lower higher others in
    and_from (not (list_any test (map number_of_row (lower ++ row ∷ higher)))) (are_distinct (map number_of_row (lower ++ row ∷ higher)))
    (not_from_false (list_any test (map number_of_row (lower ++ row ∷ higher)))
    (each_none test (map number_of_row (lower ++ row ∷ higher))
    (all_to_map number_of_row (λ m. test m ≡ false) (lower ++ row ∷ higher)
    (all_append P lower (row ∷ higher) halves.0 (ne_eqb (catalog_number row.1) (catalog_number r.1) (λ e. differ.0 (sym e)), halves.1)))))
    (distinct_with lower higher row parts.1 differ.1)

-- a change of the catalog's records
abbrev pub catalog_change : ℕ → List ℕ → Option (List ℕ) → RowChange
catalog_change txn name value = record { txn = txn; db = 0; name = plain_name name; value = value }

-- the records of the other databases are left by it
pub elsewhere : (txn : ℕ) (name : List ℕ) (value : Option (List ℕ)) (rows : Rows) (catalog : List Row) → AllByRecursion (λ r. catalog_number r.1 ≢ 0) catalog →
    AllByRecursion (λ r. row_changed (catalog_change txn name value) rows (catalog_number r.1) ≡ rows (catalog_number r.1)) catalog
elsewhere txn name value rows catalog above =
    all_weaker (λ (r : Row). catalog_number r.1 ≢ 0) (λ r. row_changed (catalog_change txn name value) rows (catalog_number r.1) ≡ rows (catalog_number r.1))
    (λ r h. row_changed-there (catalog_change txn name value) rows (catalog_number r.1) h) catalog above

-- a test of databases' names is one of the catalog's records
as_databases : (c : List Row) (rows : Rows) (name : List ℕ) (test : Ordering → Bool) → AllByRecursion (λ r. r.0.dup ≡ []) (rows 0) →
    filter (λ (d : Database). test (bytes_cmp d.name name)) (map (database_by c rows) (rows 0)) ≡ map (database_by c rows) (filter (λ (r : Row). test (name_cmp r.0 (plain_name name))) (rows 0))
as_databases c rows name test empty =
    filter-map (database_by c rows) (λ d. test (bytes_cmp d.name name)) (λ r. test (name_cmp r.0 (plain_name name))) (rows 0)
    (all_weaker (λ (r : Row). r.0.dup ≡ []) (λ r. test (bytes_cmp r.0.key name) ≡ test (name_cmp r.0 (plain_name name)))
    (λ r e. ap test (sym (name_cmp-plain r.0 name e))) (rows 0) empty)

-- a catalog record with a new name and a number that no other has, under which records are right for its kind, makes a database of them
pub row_put : (base : List Row) (rows : Rows) (txn : ℕ) (name bytes : List ℕ) → IsEnvironment rows → IsRising (rows 0) → is_word name ≡ true → row_at (plain_name name) (rows 0) ≡ None →
    length (rows 0) < MOST_DATABASES → catalog_number bytes ≢ 0 → AllByRecursion (λ r. catalog_number r.1 ≢ catalog_number bytes) (rows 0) →
    are_right (catalog_kind bytes) (rows (catalog_number bytes)) ≡ true →
    IsEnvironment (row_changed (catalog_change txn name (Some bytes)) rows)
    × (store_by base (row_changed (catalog_change txn name (Some bytes)) rows)
    ≡ record {
      databases = databases_with
          (record { name = name; kind = catalog_kind bytes; index = index_in base (catalog_index bytes); pairs = map (pair_of (catalog_kind bytes)) (rows (catalog_number bytes)) })
          (store_by base rows).databases;
    })
row_put base rows txn name bytes env up word absent room above differ right_new =
    let at : Name = plain_name name in
    let c : RowChange = catalog_change txn name (Some bytes) in
    let after : Rows = row_changed c rows in
    let new : Row = (at, bytes) in
    let low : Row → Bool = λ r. is_lt (name_cmp r.0 at) in
    let high : Row → Bool = λ r. is_gt (name_cmp r.0 at) in
    let lower : List Row = filter low (rows 0) in
    let higher : List Row = filter high (rows 0) in
    let split : lower ++ higher ≡ rows 0 = split_where_none (rows 0) at up absent in
    let new_same : after (catalog_number bytes) ≡ rows (catalog_number bytes) = row_changed-there c rows (catalog_number bytes) above in
    let Right : Row → Type 0 = λ r. is_catalog_row r ≡ true in
    let new_is : Right new =
    and_from (is_word name && true) (not (catalog_number bytes == 0)) (and_from (is_word name) true word refl)
    (not_from_false (catalog_number bytes == 0) (ne_eqb (catalog_number bytes) 0 above)) in
    let kept : AllByRecursion (λ (r : Row). after (catalog_number r.1) ≡ rows (catalog_number r.1)) (rows 0) =
    elsewhere txn name (Some bytes) rows (rows 0) (catalog_numbers (rows 0) env.catalog) in
    let Under : Row → Type 0 = λ r. is_right_under after r ≡ true in
    let under : AllByRecursion Under (rows 0) =
    all_both (λ (r : Row). after (catalog_number r.1) ≡ rows (catalog_number r.1)) (λ (r : Row). is_right_under rows r ≡ true) Under
    (λ r k h. ap (are_right (catalog_kind r.1)) k ∙ h) (rows 0) kept env.right in
    let Same : Row → Type 0 = λ r. database_by base after r ≡ database_by base rows r in
    let same : AllByRecursion Same (rows 0) =
    all_weaker (λ (r : Row). after (catalog_number r.1) ≡ rows (catalog_number r.1)) Same (λ r k. same_database base after rows r k) (rows 0) kept in
    let empty_dups = catalog_plain (rows 0) env.catalog in
    let make : List Database → Store = λ l. record { databases = l } in (
      record {
        catalog = all_append Right lower (new ∷ higher) (all_kept Right low (rows 0) env.catalog) (new_is, all_kept Right high (rows 0) env.catalog);
        distinct = distinct_with lower higher new (subst (λ (l : List Row). are_distinct (map number_of_row l) ≡ true) (sym split) env.distinct)
            (subst (λ l. AllByRecursion (λ (r : Row). catalog_number r.1 ≢ catalog_number bytes) l) (sym split) differ);
        right = all_append Under lower (new ∷ higher) (all_kept Under low (rows 0) under)
            (ap (are_right (catalog_kind bytes)) new_same ∙ right_new, all_kept Under high (rows 0) under);
        few = omega (arith, length-append lower (new ∷ higher), length-append lower higher, ap length split);
      },
      ap make
          (map-append (database_by base after) lower (new ∷ higher)
          ∙ ap₂ (λ (a b : List Database). a ++ database_by base after new ∷ b)
          (map_same (database_by base after) (database_by base rows) lower (all_kept Same low (rows 0) same) ∙ sym (as_databases base rows name is_lt empty_dups))
          (map_same (database_by base after) (database_by base rows) higher (all_kept Same high (rows 0) same) ∙ sym (as_databases base rows name is_gt empty_dups))
          ∙ ap (λ (d : Database). filter (λ (x : Database). is_lt (bytes_cmp x.name name)) (map (database_by base rows) (rows 0)) ++ d ∷ filter (λ (x : Database). is_gt (bytes_cmp x.name name)) (map (database_by base rows) (rows 0)))
          (same_database base after rows new new_same)),
    )

-- ---- a database less

-- some of several distinct numbers
distinct-filter : (p : Row → Bool) (rows : List Row) → are_distinct (map number_of_row rows) ≡ true → are_distinct (map number_of_row (filter p rows)) ≡ true
distinct-filter p [] h = refl
distinct-filter p (r ∷ rows) h =
    let test : ℕ → Bool = λ m. m == catalog_number r.1 in
    let parts = and_parts (not (list_any test (map number_of_row rows))) (are_distinct (map number_of_row rows)) h in
    let others : AllByRecursion (λ (y : Row). test (catalog_number y.1) ≡ false) (filter p rows) =
    all_kept (λ (y : Row). test (catalog_number y.1) ≡ false) p rows
    (all_of_map number_of_row (λ m. test m ≡ false) rows (none_each test (map number_of_row rows) (not-true (list_any test (map number_of_row rows)) parts.0))) in
    let rest = distinct-filter p rows parts.1 in
    cond_both (p r) (r ∷ filter p rows) (filter p rows) (λ (l : List Row). are_distinct (map number_of_row l) ≡ true)
    (λ e. and_from (not (list_any test (map number_of_row (filter p rows)))) (are_distinct (map number_of_row (filter p rows)))
    (not_from_false (list_any test (map number_of_row (filter p rows)))
    (each_none test (map number_of_row (filter p rows)) (all_to_map number_of_row (λ m. test m ≡ false) (filter p rows) others))) rest)
    (λ e. rest)

length-filter : (p : Row → Bool) (rows : List Row) → length (filter p rows) ≤ length rows
length-filter p [] = omega arith
length-filter p (r ∷ rows) =
    let rest = length-filter p rows in
    cond_both (p r) (r ∷ filter p rows) (filter p rows) (λ (l : List Row). length l ≤ length (r ∷ rows)) (λ e. omega arith) (λ e. omega arith)

-- a catalog record that is taken out is a database less
pub row_deleted : (base : List Row) (rows : Rows) (txn : ℕ) (name : List ℕ) → IsEnvironment rows →
    IsEnvironment (row_changed (catalog_change txn name None) rows)
    × (store_by base (row_changed (catalog_change txn name None) rows) ≡ record { databases = databases_without name (store_by base rows).databases })
row_deleted base rows txn name env =
    let after : Rows = row_changed (catalog_change txn name None) rows in
    let other : Row → Bool = λ r. not (is_eq (name_cmp r.0 (plain_name name))) in
    let kept : AllByRecursion (λ (r : Row). after (catalog_number r.1) ≡ rows (catalog_number r.1)) (rows 0) =
    elsewhere txn name None rows (rows 0) (catalog_numbers (rows 0) env.catalog) in
    let Under : Row → Type 0 = λ r. is_right_under after r ≡ true in
    let Same : Row → Type 0 = λ r. database_by base after r ≡ database_by base rows r in
    let same : AllByRecursion Same (rows 0) =
    all_weaker (λ (r : Row). after (catalog_number r.1) ≡ rows (catalog_number r.1)) Same (λ r k. same_database base after rows r k) (rows 0) kept in
    let make : List Database → Store = λ l. record { databases = l } in (
      record {
        catalog = all_kept (λ r. is_catalog_row r ≡ true) other (rows 0) env.catalog;
        distinct = distinct-filter other (rows 0) env.distinct;
        right = all_kept Under other (rows 0)
            (all_both (λ (r : Row). after (catalog_number r.1) ≡ rows (catalog_number r.1)) (λ (r : Row). is_right_under rows r ≡ true) Under
            (λ r k h. ap (are_right (catalog_kind r.1)) k ∙ h) (rows 0) kept env.right);
        few = let fewer = length-filter other (rows 0) in let few = env.few in omega (arith, fewer, few);
      },
      ap make
          (map_same (database_by base after) (database_by base rows) (filter other (rows 0)) (all_kept Same other (rows 0) same)
          ∙ sym (as_databases base rows name (λ o. not (is_eq o)) (catalog_plain (rows 0) env.catalog))),
    )

-- ---- a database under another number

-- a catalog record that is replaced by one of the same kind, whose number has no records, is an emptied database
pub row_emptied : (base : List Row) (rows : Rows) (txn : ℕ) (name bytes : List ℕ) (row : Row) → IsEnvironment rows → IsRising (rows 0) → row_at (plain_name name) (rows 0) ≡ Some row →
    catalog_kind bytes ≡ catalog_kind row.1 → catalog_index bytes ≡ catalog_index row.1 → catalog_number bytes ≢ 0 → rows (catalog_number bytes) ≡ [] →
    store_by base (row_changed (catalog_change txn name (Some bytes)) rows) ≡ record { databases = in_database name (λ d. with_pairs d []) (store_by base rows).databases }
row_emptied base rows txn name bytes row env up there kind made above none =
    let c : RowChange = catalog_change txn name (Some bytes) in
    let after : Rows = row_changed c rows in
    let g : Row → Row = λ y. cond (is_eq (name_cmp y.0 (plain_name name))) (plain_name name, bytes) y in
    let cases = catalog_cases rows name row env up there in
    let key : row.0.key ≡ name = key_of_row (rows 0) name row env.catalog there in
    let empty : after (catalog_number bytes) ≡ [] = row_changed-there c rows (catalog_number bytes) above ∙ none in
    let with_kind : List ℕ → Kind → Option (ℕ × Extract) → List Row → Database = λ n k m l. record { name = n; kind = k; index = index_in base m; pairs = map (pair_of k) l } in
    let new_database : database_by base after (plain_name name, bytes) ≡ with_pairs (database_by base rows row) [] =
    ap (with_kind name (catalog_kind bytes) (catalog_index bytes)) empty ∙ ap₂ (λ (n : List ℕ) (k : Kind). with_kind n k (catalog_index bytes) []) (sym key) kind
    ∙ ap (λ (m : Option (ℕ × Extract)). with_kind row.0.key (catalog_kind row.1) m []) made in
    let make : List Database → Store = λ l. record { databases = l } in
    ap make
    (ap (map (database_by base after)) (replaced (rows 0) (plain_name name) bytes row up there)
    ∙ map-map (database_by base after) g (rows 0)
    ∙ in_place base rows after name row g (λ d. with_pairs d []) (rows 0) cases
    (λ e. ap (database_by base after) (cond-true (is_eq (name_cmp row.0 (plain_name name))) (plain_name name, bytes) row e) ∙ new_database)
    (λ r e other h. ap (database_by base after) (cond-false (is_eq (name_cmp r.0 (plain_name name))) (plain_name name, bytes) r e)
    ∙ same_database base after rows r (row_changed-there c rows (catalog_number r.1) other)))
