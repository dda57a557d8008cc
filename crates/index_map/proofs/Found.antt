-- The indexes that a catalog makes are those of the store, by its databases' numbers.
use Rattle.std.proofs.Common.{◌≡◌, ℕ, ◌==◌, ◌||◌, Bool, is_eq, is_some, true, false, cond, not, List, [], ◌∷◌, Option, None, Some, map, filter, option_map, unwrap_or, nat_lt, refl, sym, ap, ap₂, ◌∙◌, subst}
use Rattle.std.specs.List.{AllByRecursion, list_any}
use Rattle.std.specs.Option.{option_map_or}
use Rattle.std.proofs.lemmas.Bool.{cond-true, cond-false, eqb-true, eqb-false, eq-eqb, ne_eqb, and_parts}
use Rattle.std.proofs.lemmas.Option.{none-some, same_Some}
use Rattle.je_order.specs.Order.{is_same_bytes, name_cmp}
use Rattle.db_catalog.specs.Catalog.{db_record_in}
use Rattle.store_model.specs.declared.store.Database.{Database}
use Rattle.store_model.specs.declared.index.Index.{Index}
use Rattle.store_model.specs.declared.kind.Kind.{Kind}
use Rattle.store_model.specs.declared.kind.Kind.TheVariants.{Plain}
use Rattle.store_model.specs.declared.extract.Extract.{Extract}
use Rattle.store_model.specs.Store.{database_of}
use Rattle.store_model.specs.Indexes.{Numbered, with_among, by_number, is_index_of, indexes_of, primary_of, records_name}
use Rattle.store_model.specs.Evaluation.{plain_name}
use Rattle.store_model.proofs.IndexLaws.{bytes_are}
use Rattle.log_replay.specs.Rows.{Row, Rows, row_at, row_numbered, catalog_number, catalog_kind, catalog_index, number_or_0, is_plain_row, has_primary, are_distinct, is_environment, IsRising, index_in, index_over, database_in, store_of}
use Rattle.log_replay.specs.Logging.{record_in, number_named}
use Rattle.log_replay.proofs.ListLaws.{all_both, found}
use Rattle.log_replay.proofs.RowLaws.{plain_name-key}
use Rattle.log_replay.proofs.StoreLaws.{HasPrimary, primaries_in, environment_parts, catalog_plain, catalog_cases, database_of-store_of}
use Rattle.log_replay.proofs.IndexedLaws.{index_kind, primary_kind}
use Rattle.log_replay.proofs.IndexRows.{numbered_named}
use Rattle.log_replay.proofs.LoggedLaws.{found_each, plain_there, same_bytes}
use Rattle.index_map.specs.declared.found_index.FoundIndex.{FoundIndex}
use Rattle.index_map.specs.Made.{made_in, index_by, with_made, extract_of, with_index, AreIndexesOf}
use Rattle.index_map.specs.Laws.{db_at, index_at, over_of, indexes_at, known, records_number, IndexesAreFound}
use Rattle.index_map.proofs.SortedLaws.{one_list, added, same_made}

-- ---- catalog records of an environment

-- one has the number of its name, and its name finds it
record IsNamed (rows : Rows) (r : Row) : Type 0 where
  pub number : number_named rows r.0.key ≡ catalog_number r.1
  pub there : row_at (plain_name r.0.key) (rows 0) ≡ Some r

all_named : (rows : Rows) → is_environment rows ≡ true → IsRising (rows 0) → AllByRecursion (IsNamed rows) (rows 0)
all_named rows env up =
    all_both (λ (r : Row). r.0.dup ≡ []) (λ (r : Row). row_at r.0 (rows 0) ≡ Some r) (IsNamed rows)
    (λ r plain at. named r (ap (λ n. row_at n (rows 0)) (sym (plain_name-key r.0 plain)) ∙ at)) (rows 0)
    (catalog_plain (rows 0) (environment_parts rows env).catalog) (found_each (rows 0) up)
  where
    named : (r : Row) → row_at (plain_name r.0.key) (rows 0) ≡ Some r → IsNamed rows r
    named r at = record { number = ap (λ (o : Option Row). number_or_0 (record_in (option_map (λ (x : Row). x.1) o))) at; there = at }

-- one that a number finds has it, and is found by its name
found_row : (rows : Rows) (n : ℕ) (r : Row) → is_environment rows ≡ true → IsRising (rows 0) → row_numbered n (rows 0) ≡ Some r → IsNamed rows r × (catalog_number r.1 ≡ n)
found_row rows n r env up at =
    let one = found (IsNamed rows) (λ x. catalog_number x.1 == n) (rows 0) r at (all_named rows env up) in (one.0, eqb-true (catalog_number r.1) n one.1)

-- ---- primaries

-- what is known of a database of this kind, that is this index
abbrev known_by : ℕ → Kind → Option Index → Numbered
known_by number kind index = known (number, record { name = []; kind = kind; index = index; pairs = [] })

-- the primary of what an index is made of
record IsPrimary (rows : Rows) (made : ℕ × Extract) (p : Row) : Type 0 where
  pub at : row_numbered made.0 (rows 0) ≡ Some p
  pub named : IsNamed rows p
  pub number : catalog_number p.1 ≡ made.0
  pub there : database_of p.0.key (store_of rows) ≡ Some (database_in rows p)
  pub known_is : known (made.0, database_in rows p) ≡ db_at made.0 Plain

primary_at : (rows : Rows) (made : ℕ × Extract) → is_environment rows ≡ true → IsRising (rows 0) → has_primary (rows 0) (Some made) ≡ true → (p : Row) × IsPrimary rows made p
primary_at rows made env up has =
    let p = plain_there (row_numbered made.0 (rows 0)) has in
    let one = found_row rows made.0 p.0 env up p.1 in
    let plain = primary_kind (db_record_in p.0.1) (sym (ap is_plain_row p.1) ∙ has) in (
      p.0,
      record {
        at = p.1;
        named = one.0;
        number = one.1;
        there = database_of-store_of rows p.0.0.key env ∙ ap (option_map (database_in rows)) one.0.there;
        known_is = ap₂ (known_by made.0) plain.0 (ap (index_in (rows 0)) plain.1);
      },
    )

-- ---- the list of the indexes of a primary, as catalog records come

abbrev put_index : ℕ → Option Extract → List FoundIndex → List FoundIndex
put_index number None indexes = indexes
put_index number (Some extract) indexes = with_index (record { number = number; extract = extract }) indexes

abbrev built : ℕ → List Row → List FoundIndex
built k [] = []
built k (r ∷ rows) = put_index (catalog_number r.1) (extract_of k (catalog_index r.1)) (built k rows)

none_numbered : (n : ℕ) (rows : List Row) → list_any (λ m. m == n) (map (λ (r : Row). catalog_number r.1) rows) ≡ false → row_numbered n rows ≡ None
none_numbered n [] h = refl
none_numbered n (r ∷ rows) h = by (catalog_number r.1 == n) h (none_numbered n rows)
  where
    by : (b : Bool) → (b || list_any (λ m. m == n) (map (λ (x : Row). catalog_number x.1) rows)) ≡ false →
        (list_any (λ m. m == n) (map (λ (x : Row). catalog_number x.1) rows) ≡ false → row_numbered n rows ≡ None) → cond b (Some r) (row_numbered n rows) ≡ None
    by true k rest = absurd cc
    by false k rest = rest k

first_made : (n : ℕ) (r : Row) (rows : List Row) → made_in (r ∷ rows) n ≡ with_made (catalog_number r.1) (catalog_index r.1) (made_in rows) n
first_made n r rows = by (catalog_number r.1 == n)
  where
    by : (b : Bool) → index_by (cond b (Some r) (row_numbered n rows)) ≡ cond b (catalog_index r.1) (made_in rows n)
    by true = refl
    by false = refl

built_is : (k : ℕ) (rows : List Row) → are_distinct (map (λ (r : Row). catalog_number r.1) rows) ≡ true → AreIndexesOf (made_in rows) k (built k rows)
built_is k [] distinct = record { found = λ n. refl; rising = tt }
built_is k (r ∷ rows) distinct =
    same_made (with_made (catalog_number r.1) (catalog_index r.1) (made_in rows)) (made_in (r ∷ rows)) k (built k (r ∷ rows)) (λ n. first_made n r rows)
    (by (catalog_index r.1) (built_is k rows parts.1))
  where
    parts : (not (list_any (λ m. m == catalog_number r.1) (map (λ (x : Row). catalog_number x.1) rows)) ≡ true) × (are_distinct (map (λ (x : Row). catalog_number x.1) rows) ≡ true)
    parts = and_parts (not (list_any (λ m. m == catalog_number r.1) (map (λ (x : Row). catalog_number x.1) rows))) (are_distinct (map (λ (x : Row). catalog_number x.1) rows)) distinct

    new : made_in rows (catalog_number r.1) ≡ None
    new = ap index_by (none_numbered (catalog_number r.1) rows (not_true (list_any (λ m. m == catalog_number r.1) (map (λ (x : Row). catalog_number x.1) rows)) parts.0))
      where
        not_true : (b : Bool) → not b ≡ true → b ≡ false
        not_true true h = absurd cc
        not_true false h = refl

    unmade : (n : ℕ) → with_made (catalog_number r.1) None (made_in rows) n ≡ made_in rows n
    unmade n = by_test (catalog_number r.1 == n) refl
      where
        by_test : (b : Bool) → (catalog_number r.1 == n) ≡ b → cond b None (made_in rows n) ≡ made_in rows n
        by_test true e = sym (ap (made_in rows) (sym (eqb-true (catalog_number r.1) n e)) ∙ new)
        by_test false e = refl

    turned : (m : ℕ) (b : Bool) → (m == k) ≡ b → (k == m) ≡ b
    turned m true e = eq-eqb k m (sym (eqb-true m k e))
    turned m false e = ne_eqb k m (λ h. eqb-false m k e (sym h))

    put : (m : ℕ × Extract) (l : List FoundIndex) (b : Bool) → (m.0 == k) ≡ b →
        cond (k == m.0) (with_index (record { number = catalog_number r.1; extract = m.1 }) l) l ≡ put_index (catalog_number r.1) (cond b (Some m.1) None) l
    put m l true e = cond-true (k == m.0) (with_index (record { number = catalog_number r.1; extract = m.1 }) l) l (turned m.0 true e)
    put m l false e = cond-false (k == m.0) (with_index (record { number = catalog_number r.1; extract = m.1 }) l) l (turned m.0 false e)

    by : (o : Option (ℕ × Extract)) → AreIndexesOf (made_in rows) k (built k rows) →
        AreIndexesOf (with_made (catalog_number r.1) o (made_in rows)) k (put_index (catalog_number r.1) (extract_of k o) (built k rows))
    by None rest = same_made (made_in rows) (with_made (catalog_number r.1) None (made_in rows)) k (built k rows) unmade rest
    by (Some m) rest =
        subst (AreIndexesOf (with_made (catalog_number r.1) (Some (m.0, m.1)) (made_in rows)) k) (put m (built k rows) (m.0 == k) refl)
        (added (made_in rows) k m.0 (record { number = catalog_number r.1; extract = m.1 }) (built k rows) new rest)

-- ---- and as the store has them

known_with : (d : Numbered) (l : List Numbered) → map known (with_among d l) ≡ with_among (known d) (map known l)
known_with d [] = refl
known_with d (e ∷ l) = by (nat_lt d.0 e.0) (known_with d l)
  where
    by : (b : Bool) → map known (with_among d l) ≡ with_among (known d) (map known l) →
        map known (cond b (d ∷ e ∷ l) (e ∷ with_among d l)) ≡ cond b (known d ∷ known e ∷ map known l) (known e ∷ with_among (known d) (map known l))
    by true rest = refl
    by false rest = ap (λ (x : List Numbered). known e ∷ x) rest

index_with : (i : FoundIndex) (l : List FoundIndex) → with_among (index_at i) (indexes_at l) ≡ indexes_at (with_index i l)
index_with i [] = refl
index_with i (j ∷ l) = by (nat_lt i.number j.number) (index_with i l)
  where
    by : (b : Bool) → with_among (index_at i) (indexes_at l) ≡ indexes_at (with_index i l) →
        cond b (index_at i ∷ index_at j ∷ indexes_at l) (index_at j ∷ with_among (index_at i) (indexes_at l)) ≡ indexes_at (cond b (i ∷ j ∷ l) (j ∷ with_index i l))
    by true rest = refl
    by false rest = ap (λ (x : List Numbered). index_at j ∷ x) rest

-- a catalog record by its index of the primary of a number
record IsIndexRow (rows : Rows) (name : List ℕ) (k : ℕ) (r : Row) (extract : Option Extract) : Type 0 where
  pub test : is_index_of name (database_in rows r) ≡ is_some extract
  pub known_is : (e : Extract) → extract ≡ Some e → known (number_named rows r.0.key, database_in rows r) ≡ index_at (record { number = catalog_number r.1; extract = e })

listed : (rows : Rows) (name : List ℕ) (k : ℕ) (rs : List Row) → AllByRecursion (λ r. IsIndexRow rows name k r (extract_of k (catalog_index r.1))) rs →
    map known (by_number (number_named rows) (filter (is_index_of name) (map (database_in rows) rs))) ≡ indexes_at (built k rs)
listed rows name k [] all = refl
listed rows name k (r ∷ rs) all = by (extract_of k (catalog_index r.1)) all.0 (listed rows name k rs all.1)
  where
    d : Database
    d = database_in rows r

    others : List Database
    others = filter (is_index_of name) (map (database_in rows) rs)

    by : (o : Option Extract) → IsIndexRow rows name k r o → map known (by_number (number_named rows) others) ≡ indexes_at (built k rs) →
        map known (by_number (number_named rows) (cond (is_index_of name d) (d ∷ others) others)) ≡ indexes_at (put_index (catalog_number r.1) o (built k rs))
    by None is rest = ap (λ (l : List Database). map known (by_number (number_named rows) l)) (cond-false (is_index_of name d) (d ∷ others) others is.test) ∙ rest
    by (Some e) is rest =
        let i : FoundIndex = record { number = catalog_number r.1; extract = e } in
        ap (λ (l : List Database). map known (by_number (number_named rows) l)) (cond-true (is_index_of name d) (d ∷ others) others is.test)
        ∙ known_with (number_named rows d.name, d) (by_number (number_named rows) others)
        ∙ ap₂ with_among (is.known_is e refl) rest ∙ index_with i (built k rs)

-- each record of an environment is so, where the primary is there
index_row : (rows : Rows) (q : Row) (k : ℕ) (r : Row) → is_environment rows ≡ true → IsRising (rows 0) → IsNamed rows q → catalog_number q.1 ≡ k → row_numbered k (rows 0) ≡ Some q →
    IsNamed rows r → HasPrimary (rows 0) r → IsIndexRow rows q.0.key k r (extract_of k (catalog_index r.1))
index_row rows q k r env up q_named q_number q_at named has = by (catalog_index r.1) refl has
  where
    own : (o : Option (ℕ × Extract)) → Numbered
    own o = known_by (catalog_number r.1) (catalog_kind r.1) (index_in (rows 0) o)

    by : (o : Option (ℕ × Extract)) → catalog_index r.1 ≡ o → has_primary (rows 0) o ≡ true → IsIndexRow rows q.0.key k r (extract_of k o)
    by None is has = record {
      test = ap (λ (o : Option (ℕ × Extract)). option_map_or (λ (i : Index). is_same_bytes i.primary q.0.key) (index_in (rows 0) o) false) is;
      known_is = λ e h. absurd (none-some e h);
    }
    by (Some m) is has = record {
      test =
          ap (λ (o : Option (ℕ × Extract)). option_map_or (λ (i : Index). is_same_bytes i.primary q.0.key) (index_in (rows 0) o) false) is
          ∙ ap (λ (o : Option Row). option_map_or (λ (i : Index). is_same_bytes i.primary q.0.key) (option_map (index_over m.1) o) false) p.1.at
          ∙ same (m.0 == k) refl;
      known_is = λ e h.
          ap (λ (n : ℕ). known_by n (catalog_kind r.1) (index_in (rows 0) (catalog_index r.1))) named.number
          ∙ ap own is
          ∙ ap₂ (λ (kind : Kind) (o : Option Row). known_by (catalog_number r.1) kind (option_map (index_over m.1) o)) (index_kind (db_record_in r.1) m is) p.1.at
          ∙ ap (λ (x : Extract). index_at (record { number = catalog_number r.1; extract = x })) (extract_is (m.0 == k) e h);
    }
      where
        p : (p : Row) × IsPrimary rows m p
        p = primary_at rows m env up has

        extract_is : (b : Bool) (e : Extract) → cond b (Some m.1) None ≡ Some e → m.1 ≡ e
        extract_is true e h = same_Some m.1 e h
        extract_is false e h = absurd (none-some e h)

        is_same : (b : Bool) → is_same_bytes p.0.0.key q.0.key ≡ b → (m.0 == k) ≡ false → b ≡ false
        is_same false h e = refl
        is_same true h e =
            absurd (eqb-false m.0 k e (sym p.1.number ∙ sym p.1.named.number ∙ ap (number_named rows) (bytes_are p.0.0.key q.0.key h) ∙ q_named.number ∙ q_number))

        same : (b : Bool) → (m.0 == k) ≡ b → is_same_bytes p.0.0.key q.0.key ≡ is_some (cond b (Some m.1) None)
        same true e =
            let one : p.0 ≡ q = same_Some p.0 q (sym p.1.at ∙ ap (λ (n : ℕ). row_numbered n (rows 0)) (eqb-true m.0 k e) ∙ q_at) in
            ap (λ (x : Row). is_same_bytes x.0.key q.0.key) one ∙ same_bytes q.0.key
        same false e = is_same (is_same_bytes p.0.0.key q.0.key) refl e

-- the indexes of the database of a record
all_listed : (rows : Rows) (q : Row) (k : ℕ) (indexes : List FoundIndex) → is_environment rows ≡ true → IsRising (rows 0) → IsNamed rows q → catalog_number q.1 ≡ k →
    row_numbered k (rows 0) ≡ Some q → AreIndexesOf (made_in (rows 0)) k indexes → indexes_at indexes ≡ map known (indexes_of (number_named rows) (store_of rows) q.0.key)
all_listed rows q k indexes env up named number at are =
    ap indexes_at (one_list (made_in (rows 0)) k indexes (built k (rows 0)) are (built_is k (rows 0) (environment_parts rows env).distinct))
    ∙ sym (listed rows q.0.key k (rows 0)
    (all_both (IsNamed rows) (HasPrimary (rows 0)) (λ r. IsIndexRow rows q.0.key k r (extract_of k (catalog_index r.1)))
    (λ r own has. index_row rows q k r env up named number at own has) (rows 0) (all_named rows env up) (primaries_in rows env)))

-- ---- both

-- the database of a name by its record
record IsRecordOf (rows : Rows) (name : List ℕ) (d : Database) (r : Row) : Type 0 where
  pub is : d ≡ database_in rows r
  pub named : IsNamed rows r
  pub number : number_named rows name ≡ catalog_number r.1
  pub at : row_numbered (catalog_number r.1) (rows 0) ≡ Some r
  pub has : HasPrimary (rows 0) r

record_of : (rows : Rows) (name : List ℕ) (d : Database) → is_environment rows ≡ true → IsRising (rows 0) → database_of name (store_of rows) ≡ Some d → (r : Row) × IsRecordOf rows name d r
record_of rows name d env up there = by (row_at (plain_name name) (rows 0)) refl (sym (database_of-store_of rows name env) ∙ there)
  where
    by : (o : Option Row) → row_at (plain_name name) (rows 0) ≡ o → option_map (database_in rows) o ≡ Some d → (r : Row) × IsRecordOf rows name d r
    by None e h = absurd (none-some d h)
    by (Some r) e h =
        let one = found (λ (x : Row). IsNamed rows x × HasPrimary (rows 0) x) (λ x. is_eq (name_cmp x.0 (plain_name name))) (rows 0) r e
        (all_both (IsNamed rows) (HasPrimary (rows 0)) (λ x. IsNamed rows x × HasPrimary (rows 0) x) (λ x a b. (a, b)) (rows 0) (all_named rows env up) (primaries_in rows env)) in (
          r,
          record {
            is = sym (same_Some (database_in rows r) d h);
            named = one.0.0;
            number = ap (λ (o : Option Row). number_or_0 (record_in (option_map (λ (x : Row). x.1) o))) e;
            at = numbered_named name r (rows 0) (catalog_cases rows name r (environment_parts rows env) up e) e;
            has = one.0.1;
          },
        )

pub indexes_are_found : IndexesAreFound
indexes_are_found rows name d indexes env up there are = (
  ap (λ (o : Option (ℕ × Extract)). over_of (option_map (λ (m : ℕ × Extract). m.0) o)) made_is ∙ over (catalog_index r.1) refl is.has ∙ ap (λ (x : Database). option_map known (primary_of (number_named rows) (store_of rows) x.index)) (sym is.is),
  listed_by (catalog_index r.1) refl is.has (subst (λ (n : ℕ). AreIndexesOf (made_in (rows 0)) n indexes) number_is are)
      ∙ ap (λ (x : Database). map known (indexes_of (number_named rows) (store_of rows) (records_name x))) (sym is.is),
)
  where
    r : Row
    r = (record_of rows name d env up there).0

    is : IsRecordOf rows name d r
    is = (record_of rows name d env up there).1

    made_is : made_in (rows 0) (number_named rows name) ≡ catalog_index r.1
    made_is = ap (made_in (rows 0)) is.number ∙ ap index_by is.at

    number_is : records_number (made_in (rows 0)) (number_named rows name) ≡ unwrap_or (option_map (λ (m : ℕ × Extract). m.0) (catalog_index r.1)) (catalog_number r.1)
    number_is = ap₂ (λ (o : Option (ℕ × Extract)) (n : ℕ). unwrap_or (option_map (λ (m : ℕ × Extract). m.0) o) n) made_is is.number

    over : (o : Option (ℕ × Extract)) → catalog_index r.1 ≡ o → has_primary (rows 0) o ≡ true →
        over_of (option_map (λ (m : ℕ × Extract). m.0) (catalog_index r.1)) ≡ option_map known (primary_of (number_named rows) (store_of rows) (index_in (rows 0) (catalog_index r.1)))
    over o e has = ap (λ (x : Option (ℕ × Extract)). over_of (option_map (λ (m : ℕ × Extract). m.0) x)) e ∙ by o has
        ∙ ap (λ (x : Option (ℕ × Extract)). option_map known (primary_of (number_named rows) (store_of rows) (index_in (rows 0) x))) (sym e)
      where
        by : (o : Option (ℕ × Extract)) → has_primary (rows 0) o ≡ true →
            over_of (option_map (λ (m : ℕ × Extract). m.0) o) ≡ option_map known (primary_of (number_named rows) (store_of rows) (index_in (rows 0) o))
        by None has = refl
        by (Some m) has =
            let p = primary_at rows m env up has in
            let some : Numbered → Option Numbered = λ x. Some x in
            sym (ap (λ (o : Option Row). option_map known (primary_of (number_named rows) (store_of rows) (option_map (index_over m.1) o))) p.1.at
            ∙ ap (λ (o : Option Database). option_map known (option_map (λ (x : Database). (number_named rows p.0.0.key, x)) o)) p.1.there
            ∙ ap (λ (n : ℕ). some (known (n, database_in rows p.0))) (p.1.named.number ∙ p.1.number)
            ∙ ap some p.1.known_is)

    listed_by : (o : Option (ℕ × Extract)) → catalog_index r.1 ≡ o → has_primary (rows 0) o ≡ true →
        AreIndexesOf (made_in (rows 0)) (unwrap_or (option_map (λ (m : ℕ × Extract). m.0) (catalog_index r.1)) (catalog_number r.1)) indexes →
        indexes_at indexes ≡ map known (indexes_of (number_named rows) (store_of rows) (records_name (database_in rows r)))
    listed_by o e has of = by o e has (subst (λ (x : Option (ℕ × Extract)). AreIndexesOf (made_in (rows 0)) (unwrap_or (option_map (λ (m : ℕ × Extract). m.0) x) (catalog_number r.1)) indexes) e of)
      where
        by : (o : Option (ℕ × Extract)) → catalog_index r.1 ≡ o → has_primary (rows 0) o ≡ true →
            AreIndexesOf (made_in (rows 0)) (unwrap_or (option_map (λ (m : ℕ × Extract). m.0) o) (catalog_number r.1)) indexes →
            indexes_at indexes ≡ map known (indexes_of (number_named rows) (store_of rows) (records_name (database_in rows r)))
        by None e has of =
            all_listed rows r (catalog_number r.1) indexes env up is.named refl is.at of
            ∙ ap (λ (x : Option (ℕ × Extract)). map known (indexes_of (number_named rows) (store_of rows) (option_map_or (λ (i : Index). i.primary) (index_in (rows 0) x) r.0.key))) (sym e)
        by (Some m) e has of =
            let p = primary_at rows m env up has in
            all_listed rows p.0 m.0 indexes env up p.1.named p.1.number p.1.at of
            ∙ ap (λ (x : Option Row). map known (indexes_of (number_named rows) (store_of rows) (option_map_or (λ (i : Index). i.primary) (option_map (index_over m.1) x) r.0.key))) (sym p.1.at)
            ∙ ap (λ (x : Option (ℕ × Extract)). map known (indexes_of (number_named rows) (store_of rows) (option_map_or (λ (i : Index). i.primary) (index_in (rows 0) x) r.0.key))) (sym e)
