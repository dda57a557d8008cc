-- Own changes that may be committed behind other changes.
use Rattle.std.proofs.Common.{◌≡◌, ℕ, ◌+◌, true, false, List, [], ◌∷◌, Option, None, Some, map, is_eq, refl, sym, ap, subst, ◌∙◌, ⊎_elim}
use Rattle.std.specs.Prelude.{◌≢◌}
use Rattle.std.specs.List.{AllByRecursion}
use Rattle.std.proofs.lemmas.Bool.{cases_Bool, cond-false}
use Rattle.je_order.specs.Order.{name_cmp}
use Rattle.je_order.specs.declared.name.Name.{Name}
use Rattle.je_order.proofs.Orderings.{equal_from_test, name_exact}
use Rattle.db_catalog.specs.declared.catalog_change.CatalogChange.{CatalogChange}
use Rattle.db_catalog.specs.declared.catalog_change.CatalogChange.TheVariants.{Put as PutRecord, Delete as DeleteRecord}
use Rattle.db_catalog.specs.declared.db_record.DbRecord.{DbRecord}
use Rattle.store_model.specs.declared.index.Index.{Index}
use Rattle.db_catalog.specs.Planning.{logged_as, moved, renewed, indexed}
use Rattle.store_model.specs.declared.change.Change.{Change}
use Rattle.store_model.specs.declared.change.Change.TheVariants.{Set as SetIn, Unset as UnsetIn, Make, MakeIndex, Remove, Rename, Empty}
use Rattle.store_model.specs.declared.kind.Kind.{Kind}
use Rattle.store_model.specs.declared.record_change.RecordChange.{RecordChange}
use Rattle.store_model.specs.declared.record_change.RecordChange.TheVariants.{Set, Unset}
use Rattle.store_model.specs.Evaluation.{plain_name}
use Rattle.store_model.specs.Store.{change_in, proper}
use Rattle.log_replay.specs.Rows.{Row, Rows, data_at, is_right_row, kind_or_plain, number_or_0, row_changed, rows_changed, rows_with}
use Rattle.log_replay.specs.Kept.{MayBeLogged}
use Rattle.log_replay.specs.Logging.{catalog_row_change, kind_named, number_named, record_in, record_named, row_changes}
use Rattle.log_replay.proofs.LoadedRows.{found as sought}
use Rattle.log_replay.proofs.MapRows.{lookup_is_data}
use Rattle.log_replay.proofs.NameLaws.{found-with}
use Rattle.log_replay.proofs.StoreLaws.{row_changed-there}
use Rattle.txn_log.specs.Own.{OwnChange}
use Rattle.txn_log.specs.Committing.{IsElsewhere, MayBeCommitted, MayStay, MayStayElsewhere}
use Rattle.txn_log.proofs.CommittingLaws.{own_above}

-- where the catalog has the same record of the database's name
may_alike : (rows later : Rows) (c : OwnChange) (may : MayBeCommitted rows c) → data_at (plain_name may.0) (later 0) ≡ data_at (plain_name may.0) (rows 0) → MayBeCommitted later c
may_alike rows later c may same = (may.0, number ∙ may.1, by_change c.1 may.2)
  where
    number : number_named later may.0 ≡ number_named rows may.0
    number = ap (λ (o : Option (List ℕ)). number_or_0 (record_in o)) same

    kind : kind_named later may.0 ≡ kind_named rows may.0
    kind = ap (λ (o : Option (List ℕ)). kind_or_plain (record_in o)) same

    by_change : (r : RecordChange) → MayBeLogged rows 0 (change_in may.0 r) → MayBeLogged later 0 (change_in may.0 r)
    by_change (Set at value) m = (λ e. m.0 (sym number ∙ e), ap (λ (k : Kind). is_right_row k (at, value)) kind ∙ m.1)
    by_change (Unset at) m = (λ e. m.0 (sym number ∙ e), ap (λ (k : Kind). proper k at) kind ∙ m.1)

pub may_stay : MayStay
may_stay rows later c same may = may_alike rows later c may (ap (data_at (plain_name may.0)) same)

-- ---- changes of the catalog

-- the name of a change of the catalog's records
abbrev name_in : CatalogChange → List ℕ
name_in (PutRecord db r) = db
name_in (DeleteRecord db) = db

abbrev IsApart : List ℕ → List ℕ → Type 0
IsApart name db = is_eq (name_cmp (plain_name name) (plain_name db)) ≡ false

set_elsewhere : (name db : List ℕ) (value : Option (List ℕ)) (l : List Row) → IsApart name db → data_at (plain_name name) (rows_with (plain_name db) value l) ≡ data_at (plain_name name) l
set_elsewhere name db value l apart =
    sym (lookup_is_data (plain_name name) (rows_with (plain_name db) value l))
    ∙ found-with (plain_name db) value (plain_name name) l
    ∙ cond-false (is_eq (name_cmp (plain_name name) (plain_name db))) value (sought l (plain_name name)) apart
    ∙ lookup_is_data (plain_name name) l

-- of names elsewhere they change nothing
changed_elsewhere : (name : List ℕ) (changes : List CatalogChange) (rows : Rows) → AllByRecursion (λ c. IsApart name (name_in c)) changes →
    data_at (plain_name name) (rows_changed (map (catalog_row_change 0) changes) rows 0) ≡ data_at (plain_name name) (rows 0)
changed_elsewhere name [] rows all = refl
changed_elsewhere name (PutRecord db r ∷ changes) rows all =
    changed_elsewhere name changes (row_changed (catalog_row_change 0 (PutRecord db r)) rows) all.1 ∙ set_elsewhere name db (catalog_row_change 0 (PutRecord db r)).value (rows 0) all.0
changed_elsewhere name (DeleteRecord db ∷ changes) rows all =
    changed_elsewhere name changes (row_changed (catalog_row_change 0 (DeleteRecord db)) rows) all.1 ∙ set_elsewhere name db None (rows 0) all.0

-- names with other numbers are apart
apart_of : (rows : Rows) (name db : List ℕ) → number_named rows db ≢ number_named rows name → IsApart name db
apart_of rows name db other = ⊎_elim
    (λ (same : is_eq (name_cmp (plain_name name) (plain_name db)) ≡ true).
    let is : plain_name name ≡ plain_name db = name_exact (plain_name name) (plain_name db) (equal_from_test (name_cmp (plain_name name) (plain_name db)) same) in
    absurd (other (ap (λ (n : Name). number_named rows n.key) (sym is))))
    (λ (apart : is_eq (name_cmp (plain_name name) (plain_name db)) ≡ false). apart)
    (cases_Bool (is_eq (name_cmp (plain_name name) (plain_name db))))

moved_apart : (name db to : List ℕ) (o : Option DbRecord) → IsApart name db → IsApart name to → AllByRecursion (λ c. IsApart name (name_in c)) (moved db to o)
moved_apart name db to None one two = tt
moved_apart name db to (Some r) one two = (one, (two, tt))

renewed_apart : (name db : List ℕ) (number : ℕ) (o : Option DbRecord) → IsApart name db → AllByRecursion (λ c. IsApart name (name_in c)) (renewed db number o)
renewed_apart name db number None one = tt
renewed_apart name db number (Some r) one = (one, tt)

indexed_apart : (name db : List ℕ) (number : ℕ) (index : Index) (o : Option DbRecord) → IsApart name db → AllByRecursion (λ c. IsApart name (name_in c)) (indexed db number index.extract o)
indexed_apart name db number index None one = tt
indexed_apart name db number index (Some r) one = (one, tt)

-- a change of another database leaves the record of a name
record_stays : (rows : Rows) (last_db : ℕ) (change : Change) (name : List ℕ) → number_named rows name ≢ 0 → MayBeLogged rows last_db change → IsElsewhere rows change (number_named rows name) →
    data_at (plain_name name) (rows_changed (row_changes 0 last_db change rows) rows 0) ≡ data_at (plain_name name) (rows 0)
record_stays rows last_db (SetIn db at value) name has may other =
    ap (data_at (plain_name name)) (row_changed-there (record { txn = 0; db = number_named rows db; name = at; value = Some value }) rows 0 (λ e. may.0 (sym e)))
record_stays rows last_db (UnsetIn db at) name has may other =
    ap (data_at (plain_name name)) (row_changed-there (record { txn = 0; db = number_named rows db; name = at; value = None }) rows 0 (λ e. may.0 (sym e)))
record_stays rows last_db (Make db kind) name has may other =
    changed_elsewhere name (logged_as (record_named rows) (last_db + 1) (Make db kind)) rows (apart_of rows name db (λ e. has (sym e ∙ may.0)), tt)
record_stays rows last_db (MakeIndex db index) name has may other =
    changed_elsewhere name (logged_as (record_named rows) (last_db + 1) (MakeIndex db index)) rows
    (indexed_apart name db (last_db + 1) index (record_named rows index.primary) (apart_of rows name db (λ e. has (sym e ∙ may.0))))
record_stays rows last_db (Remove db) name has may other =
    changed_elsewhere name (logged_as (record_named rows) (last_db + 1) (Remove db)) rows (apart_of rows name db other, tt)
record_stays rows last_db (Rename db to) name has may other =
    changed_elsewhere name (logged_as (record_named rows) (last_db + 1) (Rename db to)) rows
    (moved_apart name db to (record_named rows db) (apart_of rows name db other) (apart_of rows name to (λ e. has (sym e ∙ may.1))))
record_stays rows last_db (Empty db) name has may other =
    changed_elsewhere name (logged_as (record_named rows) (last_db + 1) (Empty db)) rows (renewed_apart name db (last_db + 1) (record_named rows db) (apart_of rows name db other))

pub may_stay_elsewhere : MayStayElsewhere
may_stay_elsewhere rows later last_db change c may_log catalog other may =
    may_alike rows later c may
    (ap (data_at (plain_name may.0)) catalog
    ∙ record_stays rows last_db change may.0 (λ e. own_above rows c may (sym may.1 ∙ e)) may_log (subst (IsElsewhere rows change) (sym may.1) other))
