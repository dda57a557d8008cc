-- What a transaction's changes of records leave: the records of an environment, their store and the databases' numbers.
use Rattle.std.proofs.Common.{◌≡◌, ◌≢◌, ℕ, ◌+◌, ◌<◌, ◌≤◌, ◌^◌, List, [], ◌∷◌, Bool, true, false, cond, Option, None, Some, map, length, refl, ap, ap₂, sym, ◌∙◌, subst, arith, ⊎_elim, filter, not, is_eq, ◌&&◌, ◌==◌, ◌⊎◌, inl, inr, option_map, is_lt, is_gt, Ordering, Equal, Less, Greater}
use Rattle.std.specs.Ordering.{ordering_reverse}
use Rattle.std.specs.List.{AllByRecursion}
use mathlib.Core.Path.{fun_ext}
use Rattle.std.proofs.lemmas.Bool.{cases_eq, cond-true, cond-false, and_parts, not-true, eqb-true, eqb-false}
use Rattle.je_order.specs.Order.{name_cmp, is_same_bytes}
use Rattle.je_order.specs.Words.{is_word}
use Rattle.je_order.specs.declared.name.Name.{Name}
use Rattle.db_catalog.specs.declared.db_record.DbRecord.{DbRecord}
use Rattle.db_catalog.specs.declared.db_kind.DbKind.{DbKind}
use Rattle.db_catalog.specs.declared.db_kind.DbKind.TheVariants.{Plain as PlainRecord, Dup as DupRecord, SliceIndex, FieldIndex}
use Rattle.db_catalog.specs.Catalog.{record_bytes, db_record_in, IsKind, IsRecord}
use Rattle.db_catalog.specs.Planning.{kind_in_catalog, index_in_catalog, database_in_catalog, kind_of_catalog, index_of_catalog, is_primary_record, number_in_record, HasIndexKind, moved, renewed, renumbered, indexed, found_in, IsRecordOf}
use Rattle.db_catalog.proofs.CatalogLaws.{db_record_in-again}
use Rattle.store_model.specs.declared.store.Store.{Store}
use Rattle.store_model.specs.declared.store.Database.{Database}
use Rattle.store_model.specs.declared.store.TheConstants.{MOST_DATABASES}
use Rattle.store_model.specs.declared.kind.Kind.{Kind}
use Rattle.store_model.specs.declared.kind.Kind.TheVariants.{Plain, Dup}
use Rattle.store_model.specs.declared.change.Change.{Change}
use Rattle.store_model.specs.declared.change.Change.TheVariants.{Set, Unset, Make, MakeIndex, Remove, Rename, Empty}
use Rattle.store_model.specs.declared.index.Index.{Index}
use Rattle.store_model.specs.declared.extract.Extract.{Extract}
use Rattle.store_model.specs.declared.extract.Extract.TheVariants.{ByteSlice, Field}
use Rattle.store_model.specs.Store.{database_of, Pair, proper, changed, pairs_with, pairs_without, databases_with, databases_without, databases_renamed, with_primary, index_renamed}
use Rattle.store_model.specs.Evaluation.{plain_name}
use Rattle.log_replay.specs.Rows.{Row, Rows, RowChange, row_changed, rows_changed, rows_with, row_at, number_or_0, kind_or_plain, index_or_none, catalog_number, catalog_kind, catalog_index, row_numbered, is_plain_row, has_primary, is_made_of, is_catalog_row, is_right_row, are_right, is_environment, IsRising, pair_of, index_over, index_in, database_by, store_by, store_of}
use Rattle.log_replay.specs.Logging.{record_in, record_named, number_named, catalog_row_change, row_changes}
use Rattle.log_replay.specs.Laws.{FoundByNumber, CatalogsAreOfStores}
use Rattle.log_replay.specs.Kept.{Fits, MayBeLogged, with_number, numbered}
use Rattle.log_replay.proofs.ListLaws.{found, none_found, none_found_in, map_same, map-map, all_both}
use Rattle.log_replay.proofs.IndexRows.{numbered_with, numbered_new, numbered_without, numbered_named, no_primary, same_index, same_primary}
use Rattle.je_order.proofs.Lists.{all_weaker, all_append, all_kept, filter_all_pass, none_each}
use Rattle.log_replay.proofs.RowLaws.{name_total, name_cmp-plain, pairs_with-rows, pairs_without-rows, plain_name-key, right-changed, rising_head, rising_tail, set_over_unset, length-unset, rising-changed}
use Rattle.log_replay.proofs.StoreLaws.{IsEnvironment, HasPrimary, HavePrimaries, primaries_in, environment_parts, IsCase, catalog_cases, catalog_change, environment_from, row_named, no_row_named, named-right, database_of-numbered, database_of-absent, key_of_row, row_changed-there, record_changed, catalog_plain, row_put, row_deleted, row_emptied}
use Rattle.log_replay.proofs.NameLaws.{number-changed, number-same}

-- ---- catalog records

-- the record of a number and a kind
abbrev pub record_for : ℕ → Kind → DbRecord
record_for number kind = record { number = number; kind = kind_in_catalog kind }

pub record_fits : (number : ℕ) (kind : Kind) → number < 2 ^ 32 → IsRecord (record_for number kind)
record_fits number Plain fits = (fits, tt)
record_fits number Dup fits = (fits, tt)

-- what the bytes of a record say
pub record_number : (r : DbRecord) → IsRecord r → catalog_number (record_bytes r) ≡ r.number
record_number r fits = ap number_or_0 (db_record_in-again r fits)

pub record_kind : (r : DbRecord) → IsRecord r → catalog_kind (record_bytes r) ≡ kind_of_catalog r.kind
record_kind r fits = ap kind_or_plain (db_record_in-again r fits)

pub record_index : (r : DbRecord) → IsRecord r → catalog_index (record_bytes r) ≡ index_of_catalog r.kind
record_index r fits = ap index_or_none (db_record_in-again r fits)

-- those of a database that is no index
kind-again : (number : ℕ) (kind : Kind) → kind_of_catalog (record_for number kind).kind ≡ kind
kind-again number Plain = refl
kind-again number Dup = refl

index-again : (number : ℕ) (kind : Kind) → index_of_catalog (record_for number kind).kind ≡ None
index-again number Plain = refl
index-again number Dup = refl

-- and of an index
index_kind-again : (primary : ℕ) (extract : Extract) → kind_of_catalog (index_in_catalog primary extract) ≡ Dup
index_kind-again primary (ByteSlice offset len) = refl
index_kind-again primary (Field number separator) = refl

index_made-again : (primary : ℕ) (extract : Extract) → index_of_catalog (index_in_catalog primary extract) ≡ Some (primary, extract)
index_made-again primary (ByteSlice offset len) = refl
index_made-again primary (Field number separator) = refl

-- a number stands in a record
pub record_there : (o : Option DbRecord) → number_or_0 o ≢ 0 → (r : DbRecord) × (o ≡ Some r)
record_there None has = absurd (has refl)
record_there (Some r) has = (r, refl)

pub fits-there : (o : Option DbRecord) (r : DbRecord) → o ≡ Some r → Fits o → IsRecord r
fits-there o r is fits = subst Fits is fits

found-again : (o : Option DbRecord) → number_or_0 o ≢ 0 → found_in o ≡ Some (record { number = number_or_0 o; kind = kind_or_plain o })
found-again None has = absurd (has refl)
found-again (Some r) has = refl

pub found_by_number : FoundByNumber
found_by_number rows name has = found-again (record_named rows name) has

-- ---- the changes of records of a change

-- that delete and that put
abbrev pub deleted : ℕ → List ℕ → RowChange
deleted txn db = catalog_change txn db None

abbrev pub put_ : ℕ → List ℕ → DbRecord → RowChange
put_ txn db r = catalog_change txn db (Some (record_bytes r))

-- a rename takes the record out and puts it under the new name
pub rename-is : (txn last_db : ℕ) (db to : List ℕ) (rows : Rows) (r : DbRecord) → record_named rows db ≡ Some r →
    row_changes txn last_db (Rename db to) rows ≡ deleted txn db ∷ put_ txn to r ∷ []
rename-is txn last_db db to rows r is = ap (λ (o : Option DbRecord). map (catalog_row_change txn) (moved db to o)) is

-- an emptied database's record gets the next number
pub empty-is : (txn last_db : ℕ) (db : List ℕ) (rows : Rows) (r : DbRecord) → record_named rows db ≡ Some r →
    row_changes txn last_db (Empty db) rows ≡ put_ txn db (renumbered (last_db + 1) r) ∷ []
empty-is txn last_db db rows r is = ap (λ (o : Option DbRecord). map (catalog_row_change txn) (renewed db (last_db + 1) o)) is

-- an index's record has the number of its primary
pub index-is : (txn last_db : ℕ) (db : List ℕ) (index : Index) (rows : Rows) (r : DbRecord) → record_named rows index.primary ≡ Some r →
    row_changes txn last_db (MakeIndex db index) rows ≡ put_ txn db (record { number = last_db + 1; kind = index_in_catalog r.number index.extract }) ∷ []
index-is txn last_db db index rows r is = ap (λ (o : Option DbRecord). map (catalog_row_change txn) (indexed db (last_db + 1) index.extract o)) is

-- ---- records and numbers that are right together

-- records are those of an environment, no later number than this was allocated
pub record IsSound (rows : Rows) (last_db : ℕ) : Type 0 where
  pub environment : IsEnvironment rows
  pub primaries : HavePrimaries rows
  pub rising : (db : ℕ) → IsRising (rows db)
  pub unused : (db : ℕ) → last_db < db → rows db ≡ []
  pub numbers : AllByRecursion (λ (r : Row). catalog_number r.1 ≤ last_db) (rows 0)

-- what one change of the store leaves
pub record IsStep (change : Change) (last_db : ℕ) (old new : Rows) : Type 0 where
  pub environment : IsEnvironment new
  pub primaries : HavePrimaries new
  pub store : store_of new ≡ changed change (store_of old)
  pub numbers : (name : List ℕ) → number_named new name ≡ numbered change last_db (number_named old) name

-- a database's number was allocated
pub number-within : (rows : Rows) (last_db : ℕ) (name : List ℕ) → IsSound rows last_db → number_named rows name ≢ 0 → number_named rows name ≤ last_db
number-within rows last_db name sound has =
    let row = row_named rows name has in
    subst (λ n. n ≤ last_db) row.2 (found (λ (r : Row). catalog_number r.1 ≤ last_db) (λ r. is_eq (name_cmp r.0 (plain_name name))) (rows 0) row.0 row.1 sound.numbers).0

-- ---- each kind of change

-- data is set
set-step : (txn last_db : ℕ) (db : List ℕ) (at : Name) (value : List ℕ) (rows : Rows) → IsSound rows last_db → MayBeLogged rows last_db (Set db at value) →
    IsStep (Set db at value) last_db rows (rows_changed (row_changes txn last_db (Set db at value) rows) rows)
set-step txn last_db db at value rows sound may =
    let c : RowChange = record { txn = txn; db = number_named rows db; name = at; value = Some value } in
    let row = row_named rows db may.0 in
    let kind : Kind = catalog_kind row.0.1 in
    let own : is_right_row kind (at, value) ≡ true = ap (λ (k : Kind). is_right_row k (at, value)) row.3 ∙ may.1 in
    let right : are_right kind (rows c.db) ≡ true = ap (λ (n : ℕ). are_right kind (rows n)) (sym row.2) ∙ named-right rows db row.0 sound.environment row.1 in
    let both = record_changed rows db row.0 c (λ (k : Kind) (ps : List Pair). pairs_with k at value ps) sound.environment (sound.rising 0) row.1 row.2
    (right-changed kind (rows c.db) at (Some value) right own) (pairs_with-rows kind (rows c.db) at value right own) in
    let same : row_changed c rows 0 ≡ rows 0 = row_changed-there c rows 0 (λ e. may.0 (sym e)) in
    record {
      environment = both.0;
      primaries = subst (λ (l : List Row). AllByRecursion (HasPrimary l) l) (sym same) sound.primaries;
      store = both.1;
      numbers = λ name. number-same c rows name same;
    }

-- a record is taken out
unset-step : (txn last_db : ℕ) (db : List ℕ) (at : Name) (rows : Rows) → IsSound rows last_db → MayBeLogged rows last_db (Unset db at) →
    IsStep (Unset db at) last_db rows (rows_changed (row_changes txn last_db (Unset db at) rows) rows)
unset-step txn last_db db at rows sound may =
    let c : RowChange = record { txn = txn; db = number_named rows db; name = at; value = None } in
    let row = row_named rows db may.0 in
    let kind : Kind = catalog_kind row.0.1 in
    let own : proper kind at ≡ at = ap (λ (k : Kind). proper k at) row.3 ∙ may.1 in
    let right : are_right kind (rows c.db) ≡ true = ap (λ (n : ℕ). are_right kind (rows n)) (sym row.2) ∙ named-right rows db row.0 sound.environment row.1 in
    let both = record_changed rows db row.0 c (λ (k : Kind) (ps : List Pair). pairs_without k at ps) sound.environment (sound.rising 0) row.1 row.2
    (right-changed kind (rows c.db) at None right tt) (pairs_without-rows kind (rows c.db) at right own) in
    let same : row_changed c rows 0 ≡ rows 0 = row_changed-there c rows 0 (λ e. may.0 (sym e)) in
    record {
      environment = both.0;
      primaries = subst (λ (l : List Row). AllByRecursion (HasPrimary l) l) (sym same) sound.primaries;
      store = both.1;
      numbers = λ name. number-same c rows name same;
    }

-- the numbers of the catalog are not a later one
pub others-below : (rows : Rows) (last_db number : ℕ) → last_db < number → IsSound rows last_db → AllByRecursion (λ (r : Row). catalog_number r.1 ≢ number) (rows 0)
others-below rows last_db number later sound =
    all_weaker (λ (r : Row). catalog_number r.1 ≤ last_db) (λ r. catalog_number r.1 ≢ number) (λ r h e. absurd (omega arith)) (rows 0) sound.numbers

-- a number changes in a put
put-number : (txn : ℕ) (name : List ℕ) (r : DbRecord) (rows : Rows) (other : List ℕ) → IsRecord r →
    number_named (row_changed (put_ txn name r) rows) other ≡ with_number name r.number (number_named rows) other
put-number txn name r rows other fits =
    number-changed txn name (Some (record_bytes r)) rows other
    ∙ ap (λ (n : ℕ). with_number name n (number_named rows) other) (record_number r fits)

-- the database of a record, with the records there
abbrev database_for : List Row → Rows → List ℕ → DbRecord → Database
database_for base rows name r = record {
  name = name;
  kind = kind_of_catalog r.kind;
  index = index_in base (index_of_catalog r.kind);
  pairs = map (pair_of (kind_of_catalog r.kind)) (rows r.number);
}

-- a new database that is put: of a number that no other has, and of the records there
put-database : (base : List Row) (rows : Rows) (txn : ℕ) (name : List ℕ) (r : DbRecord) → IsRecord r → IsEnvironment rows → IsRising (rows 0) → is_word name ≡ true →
    row_at (plain_name name) (rows 0) ≡ None → length (rows 0) < MOST_DATABASES → r.number ≢ 0 → AllByRecursion (λ (x : Row). catalog_number x.1 ≢ r.number) (rows 0) →
    are_right (kind_of_catalog r.kind) (rows r.number) ≡ true →
    IsEnvironment (row_changed (put_ txn name r) rows)
    × (store_by base (row_changed (put_ txn name r) rows) ≡ record { databases = databases_with (database_for base rows name r) (store_by base rows).databases })
put-database base rows txn name r fits env up word absent room above differ right =
    let bytes : List ℕ = record_bytes r in
    let n_is : catalog_number bytes ≡ r.number = record_number r fits in
    let k_is : catalog_kind bytes ≡ kind_of_catalog r.kind = record_kind r fits in
    let make : Kind → Option (ℕ × Extract) → ℕ → Store = λ k m n. record {
      databases = databases_with (record { name = name; kind = k; index = index_in base m; pairs = map (pair_of k) (rows n) }) (store_by base rows).databases;
    } in
    let both = row_put base rows txn name bytes env up word absent room (λ e. above (sym n_is ∙ e))
    (all_weaker (λ (x : Row). catalog_number x.1 ≢ r.number) (λ x. catalog_number x.1 ≢ catalog_number bytes) (λ x h e. h (e ∙ n_is)) (rows 0) differ)
    (ap₂ (λ (k : Kind) (n : ℕ). are_right k (rows n)) k_is n_is ∙ right) in (
      both.0,
      both.1 ∙ ap₂ (λ (k : Kind) (n : ℕ). make k (catalog_index bytes) n) k_is n_is
          ∙ ap (λ (m : Option (ℕ × Extract)). make (kind_of_catalog r.kind) m r.number) (record_index r fits),
    )

-- what holds of all records and of one more
with_all : (P : Row → Type 0) (at : Name) (bytes : List ℕ) (catalog : List Row) → AllByRecursion P catalog → P (at, bytes) → AllByRecursion P (rows_with at (Some bytes) catalog)
with_all P at bytes catalog all one =
    all_append P (filter (λ (r : Row). is_lt (name_cmp r.0 at)) catalog) ((at, bytes) ∷ filter (λ (r : Row). is_gt (name_cmp r.0 at)) catalog)
    (all_kept P (λ r. is_lt (name_cmp r.0 at)) catalog all) (one, all_kept P (λ r. is_gt (name_cmp r.0 at)) catalog all)

pub primary_record : (o : Option DbRecord) → is_primary_record o ≡ true → (r : DbRecord) × (o ≡ Some r)
primary_record None h = absurd cc
primary_record (Some r) h = (r, refl)

-- the catalog's record of a name
pub row_of_record : (rows : Rows) (name : List ℕ) (r : DbRecord) → record_named rows name ≡ Some r →
    (row : Row) × (row_at (plain_name name) (rows 0) ≡ Some row) × (db_record_in row.1 ≡ Some r)
row_of_record rows name r is = by_row (row_at (plain_name name) (rows 0)) refl
  where
    of_row : Option Row → Option DbRecord
    of_row o = record_in (option_map (λ (x : Row). x.1) o)

    none_is : (x : DbRecord) → (let o : Option DbRecord = None in o) ≡ Some x → ⊥
    none_is x e = cc

    by_row : (o : Option Row) → row_at (plain_name name) (rows 0) ≡ o → (row : Row) × (row_at (plain_name name) (rows 0) ≡ Some row) × (db_record_in row.1 ≡ Some r)
    by_row None e = absurd (none_is r (sym (ap of_row e) ∙ is))
    by_row (Some row) e = (row, e, sym (ap of_row e) ∙ is)

own_reverse : (o : Ordering) → o ≡ ordering_reverse o → o ≡ Equal
own_reverse Less e = absurd cc
own_reverse Equal e = refl
own_reverse Greater e = absurd cc

itself : (name : Name) → name_cmp name name ≡ Equal
itself name = own_reverse (name_cmp name name) (name_total.antisymm name name)

pub same_bytes : (bytes : List ℕ) → is_same_bytes bytes bytes ≡ true
same_bytes bytes = ap is_eq (sym (name_cmp-plain (plain_name bytes) bytes refl) ∙ itself (plain_name bytes))

-- each record is found by its name
pub found_each : (catalog : List Row) → IsRising catalog → AllByRecursion (λ r. row_at r.0 catalog ≡ Some r) catalog
found_each [] up = tt
found_each (r ∷ catalog) up = (
  cond-true (is_eq (name_cmp r.0 r.0)) (Some r) (row_at r.0 catalog) (ap is_eq (itself r.0)),
  all_both (λ (y : Row). name_cmp r.0 y.0 ≡ Less) (λ (y : Row). row_at y.0 catalog ≡ Some y) (λ y. row_at y.0 (r ∷ catalog) ≡ Some y)
      (λ y before there. cond-false (is_eq (name_cmp r.0 y.0)) (Some r) (row_at y.0 catalog) (ap is_eq before) ∙ there) catalog (rising_head r catalog up)
      (found_each catalog (rising_tail r catalog up)),
)

-- a record of the catalog has its number by its name
number_by_row : (rows : Rows) → is_environment rows ≡ true → IsRising (rows 0) → (number : ℕ) (row : Row) → row_numbered number (rows 0) ≡ Some row →
    number_in_record (record_named rows row.0.key) ≡ number
number_by_row rows env up number row there =
    let there_by_name : AllByRecursion (λ (r : Row). row_at (plain_name r.0.key) (rows 0) ≡ Some r) (rows 0) =
    all_both (λ (r : Row). r.0.dup ≡ []) (λ (r : Row). row_at r.0 (rows 0) ≡ Some r) (λ r. row_at (plain_name r.0.key) (rows 0) ≡ Some r)
    (λ r plain is. ap (λ (n : Name). row_at n (rows 0)) (sym (plain_name-key r.0 plain)) ∙ is) (rows 0)
    (catalog_plain (rows 0) (environment_parts rows env).catalog) (found_each (rows 0) up) in
    let one = found (λ (r : Row). row_at (plain_name r.0.key) (rows 0) ≡ Some r) (λ r. catalog_number r.1 == number) (rows 0) row there there_by_name in
    ap number_by one.0 ∙ same_number (db_record_in row.1) ∙ eqb-true (catalog_number row.1) number one.1
  where
    number_by : Option Row → ℕ
    number_by o = number_in_record (record_in (option_map (λ (r : Row). r.1) o))

    same_number : (o : Option DbRecord) → number_in_record o ≡ number_or_0 o
    same_number None = refl
    same_number (Some r) = refl

-- ---- indexes in another catalog

-- the indexes of records are the same by two catalogs
abbrev HasSameIndex : List Row → List Row → Row → Type 0
HasSameIndex c d r = index_in c (catalog_index r.1) ≡ index_in d (catalog_index r.1)

rebased : (c d : List Row) (rows : Rows) (catalog : List Row) → AllByRecursion (HasSameIndex c d) catalog → map (database_by c rows) catalog ≡ map (database_by d rows) catalog
rebased c d rows catalog same = map_same (database_by c rows) (database_by d rows) catalog (all_weaker (HasSameIndex c d) (λ r. database_by c rows r ≡ database_by d rows r) each catalog same)
  where
    each : (r : Row) → HasSameIndex c d r → database_by c rows r ≡ database_by d rows r
    each r is =
        let make : Option Index → Database = λ i. record { name = r.0.key; kind = catalog_kind r.1; index = i; pairs = map (pair_of (catalog_kind r.1)) (rows (catalog_number r.1)) } in
        ap make is

-- a catalog in which each primary has the record that it had
abbrev KeepsPrimary : List Row → List Row → Row → Type 0
KeepsPrimary c d r = (made : ℕ × Extract) → catalog_index r.1 ≡ Some made → row_numbered made.0 c ≡ row_numbered made.0 d

keeps_index : (c d : List Row) (r : Row) → KeepsPrimary c d r → HasSameIndex c d r
keeps_index c d r keeps = same_index c d (catalog_index r.1) keeps

keeps_primary : (c d : List Row) (r : Row) → KeepsPrimary c d r → HasPrimary d r → HasPrimary c r
keeps_primary c d r keeps has = same_primary c d (catalog_index r.1) keeps ∙ has

-- a database is made by a record, whose own primary is there
put-step : (change : Change) (txn last_db : ℕ) (db : List ℕ) (r : DbRecord) (rows : Rows) → IsSound rows last_db → r.number ≡ last_db + 1 → IsRecord r →
    number_named rows db ≡ 0 → is_word db ≡ true → length (rows 0) < MOST_DATABASES → has_primary (rows 0) (index_of_catalog r.kind) ≡ true →
    (let new : Database = record { name = db; kind = kind_of_catalog r.kind; index = index_in (rows 0) (index_of_catalog r.kind); pairs = [] } in
    let make : List Database → Store = λ l. record { databases = l } in changed change (store_of rows) ≡ make (databases_with new (store_of rows).databases)) →
    ((name : List ℕ) → numbered change last_db (number_named rows) name ≡ with_number db (last_db + 1) (number_named rows) name) →
    IsStep change last_db rows (rows_changed (put_ txn db r ∷ []) rows)
put-step change txn last_db db r rows sound number_is fits free word room primary stored numbers =
    let later : last_db < r.number = omega (arith, number_is) in
    let none : rows r.number ≡ [] = sound.unused r.number later in
    let absent = no_row_named rows db sound.environment free in
    let others = others-below rows last_db r.number later sound in
    let bytes : List ℕ = record_bytes r in
    let after : Rows = row_changed (put_ txn db r) rows in
    let both = put-database (rows 0) rows txn db r fits sound.environment (sound.rising 0) word absent room
    (λ e. absurd (omega (arith, number_is, e))) others (ap (are_right (kind_of_catalog r.kind)) none) in
    let keeps : (x : Row) → HasPrimary (rows 0) x → KeepsPrimary (after 0) (rows 0) x =
    λ x has made is. numbered_with made.0 (plain_name db) bytes (rows 0) (sound.rising 0) absent
    (λ e. no_primary made.0 r.number (rows 0) others (sym (ap (has_primary (rows 0)) is) ∙ has) (sym (record_number r fits) ∙ e)) in
    let new_has : HasPrimary (rows 0) (plain_name db, bytes) = ap (has_primary (rows 0)) (record_index r fits) ∙ primary in
    let all : AllByRecursion (HasPrimary (rows 0)) (after 0) = with_all (HasPrimary (rows 0)) (plain_name db) bytes (rows 0) sound.primaries new_has in
    let make : List Row → Store = λ l. record {
      databases = databases_with
          (record { name = db; kind = kind_of_catalog r.kind; index = index_in (rows 0) (index_of_catalog r.kind); pairs = map (pair_of (kind_of_catalog r.kind)) l })
          (store_of rows).databases;
    } in
    let whole : List Database → Store = λ l. record { databases = l } in
    record {
      environment = both.0;
      primaries = all_weaker (HasPrimary (rows 0)) (HasPrimary (after 0)) (λ x has. keeps_primary (after 0) (rows 0) x (keeps x has) has) (after 0) all;
      store = ap whole (rebased (after 0) (rows 0) after (after 0) (all_weaker (HasPrimary (rows 0)) (HasSameIndex (after 0) (rows 0)) (λ x has. keeps_index (after 0) (rows 0) x (keeps x has)) (after 0) all))
          ∙ both.1 ∙ ap make none ∙ sym stored;
      numbers = λ name. put-number txn db r rows name fits ∙ ap (λ (n : ℕ). with_number db n (number_named rows) name) number_is ∙ sym (numbers name);
    }

-- a database is made
make-step : (txn last_db : ℕ) (db : List ℕ) (kind : Kind) (rows : Rows) → IsSound rows last_db → MayBeLogged rows last_db (Make db kind) →
    IsStep (Make db kind) last_db rows (rows_changed (row_changes txn last_db (Make db kind) rows) rows)
make-step txn last_db db kind rows sound may =
    let new : Kind → Option (ℕ × Extract) → Store = λ k m. record {
      databases = databases_with (record { name = db; kind = k; index = index_in (rows 0) m; pairs = [] }) (store_of rows).databases;
    } in
    put-step (Make db kind) txn last_db db (record_for (last_db + 1) kind) rows sound refl (record_fits (last_db + 1) kind may.3) may.0 may.1 may.2
    (ap (has_primary (rows 0)) (index-again (last_db + 1) kind)) (sym (ap₂ new (kind-again (last_db + 1) kind) (index-again (last_db + 1) kind))) (λ name. refl)

-- an index is made
index-step : (txn last_db : ℕ) (db : List ℕ) (index : Index) (rows : Rows) → IsSound rows last_db → MayBeLogged rows last_db (MakeIndex db index) →
    IsStep (MakeIndex db index) last_db rows (rows_changed (row_changes txn last_db (MakeIndex db index) rows) rows)
index-step txn last_db db index rows sound may =
    let p = primary_record (record_named rows index.primary) may.4 in
    let number : ℕ = number_named rows index.primary in
    let r : DbRecord = record { number = last_db + 1; kind = index_in_catalog p.0.number index.extract } in
    let number_is : number ≡ p.0.number = ap number_or_0 p.1 in
    let fits : IsRecord r = (may.3, subst (λ (n : ℕ). IsKind (index_in_catalog n index.extract)) number_is may.5) in
    let row = row_of_record rows index.primary p.0 p.1 in
    let cases = catalog_cases rows index.primary row.0 sound.environment (sound.rising 0) row.1 in
    let own : catalog_number row.0.1 ≡ p.0.number = ap number_or_0 row.2 in
    let there : row_numbered p.0.number (rows 0) ≡ Some row.0 =
    ap (λ (n : ℕ). row_numbered n (rows 0)) (sym own) ∙ numbered_named index.primary row.0 (rows 0) cases row.1 in
    let key : row.0.0.key ≡ index.primary = key_of_row (rows 0) index.primary row.0 sound.environment.catalog row.1 in
    let over_ : List ℕ → Option Index = λ n. Some (record { primary = n; extract = index.extract }) in
    let made : index_in (rows 0) (index_of_catalog r.kind) ≡ Some index =
    ap (index_in (rows 0)) (index_made-again p.0.number index.extract) ∙ ap (option_map (index_over index.extract)) there ∙ ap over_ key in
    let plain : is_plain_row (Some row.0) ≡ true = ap is_primary_record (row.2 ∙ sym p.1) ∙ may.4 in
    let new : Kind → Option Index → Store = λ k i. record { databases = databases_with (record { name = db; kind = k; index = i; pairs = [] }) (store_of rows).databases } in
    subst (λ (l : List RowChange). IsStep (MakeIndex db index) last_db rows (rows_changed l rows)) (sym (index-is txn last_db db index rows p.0 p.1))
    (put-step (MakeIndex db index) txn last_db db r rows sound refl fits may.0 may.1 may.2
    (ap (has_primary (rows 0)) (index_made-again p.0.number index.extract) ∙ ap is_plain_row there ∙ plain)
    (sym (ap₂ new (index_kind-again p.0.number index.extract) made)) (λ name. refl))

-- a database is removed, which has no index
remove-step : (txn last_db : ℕ) (db : List ℕ) (rows : Rows) → IsSound rows last_db → MayBeLogged rows last_db (Remove db) →
    IsStep (Remove db) last_db rows (rows_changed (row_changes txn last_db (Remove db) rows) rows)
remove-step txn last_db db rows sound may =
    let row = row_named rows db may.0 in
    let cases = catalog_cases rows db row.0 sound.environment (sound.rising 0) row.1 in
    let after : Rows = row_changed (deleted txn db) rows in
    let both = row_deleted (rows 0) rows txn db sound.environment in
    let keeps : AllByRecursion (KeepsPrimary (after 0) (rows 0)) (rows 0) =
    all_weaker (λ (x : Row). is_made_of (number_named rows db) (catalog_index x.1) ≡ false) (KeepsPrimary (after 0) (rows 0))
    (λ x apart made is. numbered_without made.0 db row.0 (rows 0) cases
    (λ e. eqb-false made.0 (number_named rows db) (sym (ap (is_made_of (number_named rows db)) is) ∙ apart) (sym e ∙ row.2)))
    (rows 0) (none_each (λ x. is_made_of (number_named rows db) (catalog_index x.1)) (rows 0) may.1) in
    let other : Row → Bool = λ x. not (is_eq (name_cmp x.0 (plain_name db))) in
    let whole : List Database → Store = λ l. record { databases = l } in
    record {
      environment = both.0;
      primaries = all_kept (HasPrimary (after 0)) other (rows 0)
          (all_both (KeepsPrimary (after 0) (rows 0)) (HasPrimary (rows 0)) (HasPrimary (after 0)) (λ x k h. keeps_primary (after 0) (rows 0) x k h) (rows 0) keeps sound.primaries);
      store = ap whole (rebased (after 0) (rows 0) after (after 0)
          (all_kept (HasSameIndex (after 0) (rows 0)) other (rows 0) (all_weaker (KeepsPrimary (after 0) (rows 0)) (HasSameIndex (after 0) (rows 0)) (λ x k. keeps_index (after 0) (rows 0) x k) (rows 0) keeps)))
          ∙ both.1;
      numbers = λ name. number-changed txn db None rows name;
    }

-- what is left of the catalog without a name: none has the name's number, and a name that was not there is not
abbrev without : List ℕ → List Row → List Row
without name catalog = filter (λ (r : Row). not (is_eq (name_cmp r.0 (plain_name name)))) catalog

left-differ : (name : List ℕ) (row : Row) (catalog : List Row) → AllByRecursion (IsCase name row) catalog →
    AllByRecursion (λ (r : Row). catalog_number r.1 ≢ catalog_number row.1) (without name catalog)
left-differ name row [] h = tt
left-differ name row (r ∷ catalog) h =
    let rest = left-differ name row catalog h.1 in
    ⊎_elim
    (λ (one : (r ≡ row) × (is_same_bytes r.0.key name ≡ true) × (is_eq (name_cmp r.0 (plain_name name)) ≡ true)).
    subst (λ (l : List Row). AllByRecursion (λ (y : Row). catalog_number y.1 ≢ catalog_number row.1) l)
    (sym (cond-false (not (is_eq (name_cmp r.0 (plain_name name)))) (r ∷ without name catalog) (without name catalog) (ap not one.2))) rest)
    (λ (other : (catalog_number r.1 ≢ catalog_number row.1) × (is_same_bytes r.0.key name ≡ false) × (is_eq (name_cmp r.0 (plain_name name)) ≡ false)).
    subst (λ (l : List Row). AllByRecursion (λ (y : Row). catalog_number y.1 ≢ catalog_number row.1) l)
    (sym (cond-true (not (is_eq (name_cmp r.0 (plain_name name)))) (r ∷ without name catalog) (without name catalog) (ap not other.2))) (other.0, rest))
    h.0.1

pub left-absent : (name to : List ℕ) (catalog : List Row) → row_at (plain_name to) catalog ≡ None → row_at (plain_name to) (without name catalog) ≡ None
left-absent name to catalog none =
    none_found_in (λ (r : Row). is_eq (name_cmp r.0 (plain_name to))) (without name catalog)
    (all_kept (λ (r : Row). is_eq (name_cmp r.0 (plain_name to)) ≡ false) (λ r. not (is_eq (name_cmp r.0 (plain_name name)))) catalog
    (none_found (λ (r : Row). is_eq (name_cmp r.0 (plain_name to))) catalog none))

-- the record of a name that goes comes under a name, with a record that is made of the same
all_moved : (P : Option (ℕ × Extract) → Type 0) (db to : List ℕ) (bytes : List ℕ) (row : Row) (catalog : List Row) → row_at (plain_name db) catalog ≡ Some row →
    catalog_index bytes ≡ catalog_index row.1 → AllByRecursion (λ (x : Row). P (catalog_index x.1)) catalog →
    AllByRecursion (λ (x : Row). P (catalog_index x.1)) (rows_with (plain_name to) (Some bytes) (without db catalog))
all_moved P db to bytes row catalog there same all =
    with_all (λ (x : Row). P (catalog_index x.1)) (plain_name to) bytes (without db catalog)
    (all_kept (λ (x : Row). P (catalog_index x.1)) (λ x. not (is_eq (name_cmp x.0 (plain_name db)))) catalog all)
    (subst P (sym same) (found (λ (x : Row). P (catalog_index x.1)) (λ x. is_eq (name_cmp x.0 (plain_name db))) catalog row there all).0)

-- a primary's record, where a database has another name
record IsMovedPrimary (db to : List ℕ) (c base : List Row) (made : ℕ × Extract) : Type 0 where
  was : Row
  now : Row
  had : row_numbered made.0 base ≡ Some was
  has : row_numbered made.0 c ≡ Some now
  key : now.0.key ≡ cond (is_same_bytes was.0.key db) to was.0.key
  plain : is_plain_row (Some now) ≡ true

moved_index : (db to : List ℕ) (c base : List Row) (o : Option (ℕ × Extract)) → ((made : ℕ × Extract) → o ≡ Some made → IsMovedPrimary db to c base made) →
    index_in c o ≡ option_map (index_renamed db to) (index_in base o)
moved_index db to c base None each = refl
moved_index db to c base (Some made) each =
    let m = each made refl in
    let over_ : List ℕ → Option Index = λ n. Some (record { primary = n; extract = made.1 }) in
    ap (option_map (index_over made.1)) m.has ∙ ap over_ m.key ∙ sym (ap (λ (o : Option Row). option_map (index_renamed db to) (option_map (index_over made.1) o)) m.had)

moved_has : (db to : List ℕ) (c base : List Row) (o : Option (ℕ × Extract)) → ((made : ℕ × Extract) → o ≡ Some made → IsMovedPrimary db to c base made) → has_primary c o ≡ true
moved_has db to c base None each = refl
moved_has db to c base (Some made) each = let m = each made refl in ap is_plain_row m.has ∙ m.plain

pub plain_there : (o : Option Row) → is_plain_row o ≡ true → (row : Row) × (o ≡ Some row)
plain_there None h = absurd cc
plain_there (Some row) h = (row, refl)

-- the primaries of indexes in the catalog in which a database has another name
moved_primary : (db to : List ℕ) (r : DbRecord) (row : Row) (rows : Rows) → IsRecord r → IsEnvironment rows → IsRising (rows 0) → row_at (plain_name db) (rows 0) ≡ Some row →
    db_record_in row.1 ≡ Some r → row_at (plain_name to) (without db (rows 0)) ≡ None → (made : ℕ × Extract) → has_primary (rows 0) (Some made) ≡ true →
    IsMovedPrimary db to (rows_with (plain_name to) (Some (record_bytes r)) (without db (rows 0))) (rows 0) made
moved_primary db to r row rows fits env up there is absent made has = by_number (cases_eq made.0 r.number)
  where
    base : List Row
    base = rows 0

    bytes : List ℕ
    bytes = record_bytes r

    own : catalog_number row.1 ≡ r.number
    own = ap number_or_0 is

    cases : AllByRecursion (IsCase db row) base
    cases = catalog_cases rows db row env up there

    by_number : (made.0 ≡ r.number) ⊎ (made.0 ≢ r.number) → IsMovedPrimary db to (rows_with (plain_name to) (Some bytes) (without db base)) base made
    by_number (inl e) =
        let had : row_numbered made.0 base ≡ Some row = ap (λ (n : ℕ). row_numbered n base) (e ∙ sym own) ∙ numbered_named db row base cases there in
        let key : row.0.key ≡ db = key_of_row base db row env.catalog there in
        let same : is_same_bytes row.0.key db ≡ true = ap (λ (n : List ℕ). is_same_bytes n db) key ∙ same_bytes db in
        record {
          was = row;
          now = (plain_name to, bytes);
          had = had;
          has = numbered_new made.0 (plain_name to) bytes (without db base) (record_number r fits ∙ sym e)
              (all_weaker (λ (x : Row). catalog_number x.1 ≢ catalog_number row.1) (λ x. catalog_number x.1 ≢ made.0) (λ x h f. h (f ∙ e ∙ sym own)) (without db base) (left-differ db row base cases));
          key = sym (cond-true (is_same_bytes row.0.key db) to row.0.key same);
          plain = ap is_primary_record (db_record_in-again r fits ∙ sym is) ∙ sym (ap is_plain_row had) ∙ has;
        }
    by_number (inr other) =
        let p = plain_there (row_numbered made.0 base) has in
        let one = found (IsCase db row) (λ (x : Row). catalog_number x.1 == made.0) base p.0 p.1 cases in
        let apart : is_same_bytes p.0.0.key db ≡ false =
        ⊎_elim
        (λ (mine : (p.0 ≡ row) × (is_same_bytes p.0.0.key db ≡ true) × (is_eq (name_cmp p.0.0 (plain_name db)) ≡ true)).
        absurd (other (sym (eqb-true (catalog_number p.0.1) made.0 one.1) ∙ ap (λ (x : Row). catalog_number x.1) mine.0 ∙ own)))
        (λ (two : (catalog_number p.0.1 ≢ catalog_number row.1) × (is_same_bytes p.0.0.key db ≡ false) × (is_eq (name_cmp p.0.0 (plain_name db)) ≡ false)). two.1)
        one.0.1 in
        record {
          was = p.0;
          now = p.0;
          had = p.1;
          has = numbered_with made.0 (plain_name to) bytes (without db base) (rising-changed base (plain_name db) None up) absent (λ e. other (sym e ∙ record_number r fits))
              ∙ numbered_without made.0 db row base cases (λ e. other (sym e ∙ own)) ∙ p.1;
          key = sym (cond-false (is_same_bytes p.0.0.key db) to p.0.0.key apart);
          plain = sym (ap is_plain_row p.1) ∙ has;
        }

-- a database is renamed
rename-step : (txn last_db : ℕ) (db to : List ℕ) (rows : Rows) (r : DbRecord) → IsSound rows last_db → MayBeLogged rows last_db (Rename db to) → record_named rows db ≡ Some r →
    IsStep (Rename db to) last_db rows (rows_changed (deleted txn db ∷ put_ txn to r ∷ []) rows)
rename-step txn last_db db to rows r sound may is =
    let n_is : number_named rows db ≡ r.number = ap number_or_0 is in
    let above : r.number ≢ 0 = λ e. may.0 (n_is ∙ e) in
    let fits : IsRecord r = fits-there (record_named rows db) r is may.3 in
    let row = row_of_record rows db r is in
    let own : catalog_number row.0.1 ≡ r.number = ap number_or_0 row.2 in
    let env : IsEnvironment rows = sound.environment in
    let base : List Row = rows 0 in
    let gone : Rows = row_changed (deleted txn db) rows in
    let after : Rows = row_changed (put_ txn to r) gone in
    let less = row_deleted base rows txn db env in
    let same : gone r.number ≡ rows r.number = row_changed-there (deleted txn db) rows r.number above in
    let right : are_right (kind_of_catalog r.kind) (gone r.number) ≡ true =
    ap (are_right (kind_of_catalog r.kind)) same ∙ ap₂ (λ (k : Kind) (n : ℕ). are_right k (rows n)) (sym (ap kind_or_plain row.2)) (sym own) ∙ named-right rows db row.0 env row.1 in
    let differ : AllByRecursion (λ (x : Row). catalog_number x.1 ≢ r.number) (gone 0) =
    all_weaker (λ (x : Row). catalog_number x.1 ≢ catalog_number row.0.1) (λ x. catalog_number x.1 ≢ r.number) (λ x h e. h (e ∙ sym own)) (gone 0)
    (left-differ db row.0 base (catalog_cases rows db row.0 env (sound.rising 0) row.1)) in
    let shorter : length (gone 0) + 1 ≡ length base = length-unset base (plain_name db) row.0 (sound.rising 0) row.1 in
    let few = env.few in
    let absent = left-absent db to base (no_row_named rows to env may.1) in
    let more = put-database base gone txn to r fits less.0 (rising-changed base (plain_name db) None (sound.rising 0)) may.2 absent (omega (arith, shorter, few)) above differ right in
    let moves : (o : Option (ℕ × Extract)) → has_primary base o ≡ true → (made : ℕ × Extract) → o ≡ Some made → IsMovedPrimary db to (after 0) base made =
    λ o has made at. moved_primary db to r row.0 rows fits env (sound.rising 0) row.1 row.2 absent made (sym (ap (has_primary base) at) ∙ has) in
    let all : AllByRecursion (HasPrimary base) (after 0) =
    all_moved (λ o. has_primary base o ≡ true) db to (record_bytes r) row.0 base row.1 (record_index r fits ∙ sym (ap index_or_none row.2)) sound.primaries in
    let of_record : Option DbRecord → Database = λ o. record {
      name = db;
      kind = kind_or_plain o;
      index = index_in base (index_or_none o);
      pairs = map (pair_of (kind_or_plain o)) (rows (number_or_0 o));
    } in
    let d : Database = of_record (Some r) in
    let new : List Row → Database = λ l. record { name = to; kind = d.kind; index = d.index; pairs = map (pair_of (kind_of_catalog r.kind)) l } in
    let make : List Row → Store → Store = λ l s. record { databases = databases_with (new l) s.databases } in
    let whole : List Database → Store = λ l. record { databases = l } in
    let moved_ : Store = make (rows r.number) (whole (databases_without db (store_of rows).databases)) in
    let stored : store_by base after ≡ moved_ = more.1 ∙ ap₂ make same less.1 in
    let renamed : Option Database → Store = λ o. record { databases = databases_renamed o to (store_of rows).databases } in
    let found_is : database_of db (store_of rows) ≡ Some d =
    database_of-numbered rows db (environment_from rows env sound.primaries) may.0 ∙ ap (λ (o : Option DbRecord). let e : Option Database = Some (of_record o) in e) is in
    record {
      environment = more.0;
      primaries = all_weaker (HasPrimary base) (HasPrimary (after 0)) (λ x has. moved_has db to (after 0) base (catalog_index x.1) (moves (catalog_index x.1) has)) (after 0) all;
      store = ap whole (map_same (database_by (after 0) after) (λ x. with_primary db to (database_by base after x)) (after 0)
          (all_weaker (HasPrimary base) (λ x. database_by (after 0) after x ≡ with_primary db to (database_by base after x))
          (λ x has.
          let by : Option Index → Database = λ i. record { name = x.0.key; kind = catalog_kind x.1; index = i; pairs = map (pair_of (catalog_kind x.1)) (after (catalog_number x.1)) } in
          ap by (moved_index db to (after 0) base (catalog_index x.1) (moves (catalog_index x.1) has)))
          (after 0) all)
          ∙ sym (map-map (with_primary db to) (database_by base after) (after 0)))
          ∙ ap (λ (s : Store). whole (map (with_primary db to) s.databases)) stored
          ∙ sym (ap renamed found_is);
      numbers = λ name.
          put-number txn to r gone name fits
          ∙ ap (λ (f : List ℕ → ℕ). with_number to r.number f name) (fun_ext (λ (other : List ℕ). number-changed txn db None rows other))
          ∙ ap (λ (n : ℕ). with_number to n (with_number db 0 (number_named rows)) name) (sym n_is);
    }

-- what was taken out and is set is set
pub over : (at : Name) (value : List ℕ) (rows : Rows) (db : ℕ) →
    cond (db == 0) (rows_with at (Some value) (cond (db == 0) (rows_with at None (rows db)) (rows db))) (cond (db == 0) (rows_with at None (rows db)) (rows db))
    ≡ cond (db == 0) (rows_with at (Some value) (rows db)) (rows db)
over at value rows db = by_test (db == 0)
  where
    by_test : (b : Bool) → cond b (rows_with at (Some value) (cond b (rows_with at None (rows db)) (rows db))) (cond b (rows_with at None (rows db)) (rows db))
        ≡ cond b (rows_with at (Some value) (rows db)) (rows db)
    by_test true = set_over_unset (rows db) at value
    by_test false = refl

-- the name of a database is one
word_of : (rows : Rows) (name : List ℕ) (row : Row) → IsEnvironment rows → row_at (plain_name name) (rows 0) ≡ Some row → is_word name ≡ true
word_of rows name row env there =
    let right = (found (λ (r : Row). is_catalog_row r ≡ true) (λ r. is_eq (name_cmp r.0 (plain_name name))) (rows 0) row there env.catalog).0 in
    let word : is_word row.0.key ≡ true =
    (and_parts (is_word row.0.key) (length row.0.dup == 0) (and_parts (is_word row.0.key && (length row.0.dup == 0)) (not (catalog_number row.1 == 0)) right).0).0 in
    ap is_word (sym (key_of_row (rows 0) name row env.catalog there)) ∙ word

-- a database is emptied, which has no index
empty-step : (txn last_db : ℕ) (db : List ℕ) (rows : Rows) (r : DbRecord) → IsSound rows last_db → MayBeLogged rows last_db (Empty db) → record_named rows db ≡ Some r →
    IsStep (Empty db) last_db rows (rows_changed (put_ txn db (renumbered (last_db + 1) r) ∷ []) rows)
empty-step txn last_db db rows r sound may is =
    let number : ℕ = last_db + 1 in
    let new : DbRecord = renumbered number r in
    let bytes : List ℕ = record_bytes new in
    let fits : IsRecord new = (may.1, (fits-there (record_named rows db) r is may.2).1) in
    let n_is : catalog_number bytes ≡ number = record_number new fits in
    let later : last_db < number = omega arith in
    let above : number ≢ 0 = λ e. absurd (omega arith) in
    let row = row_of_record rows db r is in
    let own : catalog_number row.0.1 ≡ number_named rows db = ap number_or_0 (row.2 ∙ sym is) in
    let env : IsEnvironment rows = sound.environment in
    let base : List Row = rows 0 in
    let cases = catalog_cases rows db row.0 env (sound.rising 0) row.1 in
    let gone : Rows = row_changed (deleted txn db) rows in
    let put : RowChange = put_ txn db new in
    let after : Rows = row_changed put gone in
    let less = row_deleted base rows txn db env in
    let none : rows number ≡ [] = sound.unused number later in
    let none_then : gone number ≡ [] = row_changed-there (deleted txn db) rows number above ∙ none in
    let others = others-below rows last_db number later sound in
    let differ : AllByRecursion (λ (x : Row). catalog_number x.1 ≢ number) (gone 0) =
    all_kept (λ (x : Row). catalog_number x.1 ≢ number) (λ x. not (is_eq (name_cmp x.0 (plain_name db)))) base others in
    let shorter : length (gone 0) + 1 ≡ length base = length-unset base (plain_name db) row.0 (sound.rising 0) row.1 in
    let few = env.few in
    let absent : row_at (plain_name db) (gone 0) ≡ None = none_found_in (λ (x : Row). is_eq (name_cmp x.0 (plain_name db))) (gone 0) (taken_out base) in
    let more = put-database base gone txn db new fits less.0 (rising-changed base (plain_name db) None (sound.rising 0)) (word_of rows db row.0 env row.1)
    absent (omega (arith, shorter, few)) above differ (ap (are_right (kind_of_catalog r.kind)) none_then) in
    let same : after ≡ row_changed put rows = fun_ext (over (plain_name db) bytes rows) in
    let made_same : catalog_index bytes ≡ catalog_index row.0.1 = record_index new fits ∙ sym (ap index_or_none row.2) in
    let IsKept : Option (ℕ × Extract) → Type 0 = λ o. (has_primary base o ≡ true) × (is_made_of (number_named rows db) o ≡ false) in
    let all : AllByRecursion (λ (x : Row). IsKept (catalog_index x.1)) (after 0) =
    all_moved IsKept db db bytes row.0 base row.1 made_same
    (all_both (HasPrimary base) (λ (x : Row). is_made_of (number_named rows db) (catalog_index x.1) ≡ false) (λ x. IsKept (catalog_index x.1)) (λ x a b. (a, b)) base sound.primaries
    (none_each (λ (x : Row). is_made_of (number_named rows db) (catalog_index x.1)) base may.3)) in
    let keeps : (x : Row) → IsKept (catalog_index x.1) → KeepsPrimary (after 0) base x =
    λ x kept made at.
    numbered_with made.0 (plain_name db) bytes (gone 0) (rising-changed base (plain_name db) None (sound.rising 0)) absent
    (λ e. no_primary made.0 number base others (sym (ap (has_primary base) at) ∙ kept.0) (sym n_is ∙ e))
    ∙ numbered_without made.0 db row.0 base cases
    (λ e. eqb-false made.0 (number_named rows db) (sym (ap (is_made_of (number_named rows db)) at) ∙ kept.1) (sym e ∙ own)) in
    let whole : List Database → Store = λ l. record { databases = l } in
    subst (IsStep (Empty db) last_db rows) same (record {
      environment = more.0;
      primaries = all_weaker (λ (x : Row). IsKept (catalog_index x.1)) (HasPrimary (after 0)) (λ x kept. keeps_primary (after 0) base x (keeps x kept) kept.0) (after 0) all;
      store = ap whole (rebased (after 0) base after (after 0)
          (all_weaker (λ (x : Row). IsKept (catalog_index x.1)) (HasSameIndex (after 0) base) (λ x kept. keeps_index (after 0) base x (keeps x kept)) (after 0) all))
          ∙ ap (store_by base) same
          ∙ row_emptied base rows txn db bytes row.0 env (sound.rising 0) row.1 (record_kind new fits ∙ sym (ap kind_or_plain row.2)) made_same (λ e. above (sym n_is ∙ e)) (ap rows n_is ∙ none);
      numbers = λ name. ap (λ (rs : Rows). number_named rs name) same ∙ put-number txn db new rows name fits;
    })
  where
    taken_out : (l : List Row) → AllByRecursion (λ (x : Row). is_eq (name_cmp x.0 (plain_name db)) ≡ false) (filter (λ (x : Row). not (is_eq (name_cmp x.0 (plain_name db)))) l)
    taken_out l =
        all_weaker (λ (x : Row). not (is_eq (name_cmp x.0 (plain_name db))) ≡ true) (λ x. is_eq (name_cmp x.0 (plain_name db)) ≡ false) (λ x h. not-true (is_eq (name_cmp x.0 (plain_name db))) h)
        (filter (λ (x : Row). not (is_eq (name_cmp x.0 (plain_name db)))) l) (filter_all_pass (λ (x : Row). not (is_eq (name_cmp x.0 (plain_name db)))) l)

-- what one change of the store leaves
pub step : (txn last_db : ℕ) (change : Change) (rows : Rows) → IsSound rows last_db → MayBeLogged rows last_db change →
    IsStep change last_db rows (rows_changed (row_changes txn last_db change rows) rows)
step txn last_db (Set db at value) rows sound may = set-step txn last_db db at value rows sound may
step txn last_db (Unset db at) rows sound may = unset-step txn last_db db at rows sound may
step txn last_db (Make db kind) rows sound may = make-step txn last_db db kind rows sound may
step txn last_db (MakeIndex db index) rows sound may = index-step txn last_db db index rows sound may
step txn last_db (Remove db) rows sound may = remove-step txn last_db db rows sound may
step txn last_db (Rename db to) rows sound may =
    let r = record_there (record_named rows db) may.0 in
    subst (λ (l : List RowChange). IsStep (Rename db to) last_db rows (rows_changed l rows)) (sym (rename-is txn last_db db to rows r.0 r.1)) (rename-step txn last_db db to rows r.0 sound may r.1)
step txn last_db (Empty db) rows sound may =
    let r = record_there (record_named rows db) may.0 in
    subst (λ (l : List RowChange). IsStep (Empty db) last_db rows (rows_changed l rows)) (sym (empty-is txn last_db db rows r.0 r.1)) (empty-step txn last_db db rows r.0 sound may r.1)

-- ---- the catalog of the store

-- the record of a name is that of its database
pub catalogs_are_of_stores : CatalogsAreOfStores
catalogs_are_of_stores rows env up name = by_number (cases_eq (number_named rows name) 0)
  where
    of_name : List ℕ → Option DbRecord
    of_name = record_named rows

    as_in_catalog : (r : DbRecord) → has_primary (rows 0) (index_of_catalog r.kind) ≡ true →
        HasIndexKind (kind_of_catalog r.kind) (index_in (rows 0) (index_of_catalog r.kind))
        × (r.kind ≡ database_in_catalog of_name (kind_of_catalog r.kind) (index_in (rows 0) (index_of_catalog r.kind)))
    as_in_catalog r has = by r.kind has
      where
        to_index : (primary : ℕ) (extract : Extract) → is_plain_row (row_numbered primary (rows 0)) ≡ true →
            HasIndexKind Dup (option_map (index_over extract) (row_numbered primary (rows 0)))
            × (index_in_catalog primary extract ≡ database_in_catalog of_name Dup (option_map (index_over extract) (row_numbered primary (rows 0))))
        to_index primary extract plain =
            let p = plain_there (row_numbered primary (rows 0)) plain in
            let own : number_in_record (of_name p.0.0.key) ≡ primary = number_by_row rows env up primary p.0 p.1 in (
              subst (λ (o : Option Row). HasIndexKind Dup (option_map (index_over extract) o)) (sym p.1) refl,
              sym (ap (λ (o : Option Row). database_in_catalog of_name Dup (option_map (index_over extract) o)) p.1 ∙ ap (λ (n : ℕ). index_in_catalog n extract) own),
            )

        by : (k : DbKind) → has_primary (rows 0) (index_of_catalog k) ≡ true →
            HasIndexKind (kind_of_catalog k) (index_in (rows 0) (index_of_catalog k))
            × (k ≡ database_in_catalog of_name (kind_of_catalog k) (index_in (rows 0) (index_of_catalog k)))
        by PlainRecord has = (tt, refl)
        by DupRecord has = (tt, refl)
        by (SliceIndex primary offset len) has = to_index primary (ByteSlice offset len) has
        by (FieldIndex primary number separator) has = to_index primary (Field number separator) has

    by_number : (number_named rows name ≡ 0) ⊎ (number_named rows name ≢ 0) → IsRecordOf of_name (database_of name (store_of rows)) (of_name name)
    by_number (inl none) =
        subst (λ (d : Option Database). IsRecordOf of_name d (of_name name)) (sym (database_of-absent rows name env none))
        (ap (λ (o : Option Row). record_in (option_map (λ (r : Row). r.1) o)) (no_row_named rows name (environment_parts rows env) none))
    by_number (inr has) =
        let r = record_there (of_name name) has in
        let row = row_of_record rows name r.0 r.1 in
        let own : has_primary (rows 0) (index_of_catalog r.0.kind) ≡ true =
        ap (has_primary (rows 0)) (sym (ap index_or_none row.2))
        ∙ (found (HasPrimary (rows 0)) (λ (x : Row). is_eq (name_cmp x.0 (plain_name name))) (rows 0) row.0 row.1 (primaries_in rows env)).0 in
        let is = as_in_catalog r.0 own in
        let make : DbKind → Option DbRecord = λ k. Some (record { number = r.0.number; kind = k }) in
        let of_record : Option DbRecord → Option Database = λ o. Some (record {
          name = name;
          kind = kind_or_plain o;
          index = index_in (rows 0) (index_or_none o);
          pairs = map (pair_of (kind_or_plain o)) (rows (number_or_0 o));
        }) in
        subst (λ (d : Option Database). IsRecordOf of_name d (of_name name)) (sym (database_of-numbered rows name env has ∙ ap of_record r.1))
        (r.0.number, is.0, r.1 ∙ ap make is.1)
