-- Changes of the records of one database, as a transaction logs them.
use Rattle.std.proofs.Common.{◌≡◌, ◌≢◌, ℕ, List, [], ◌∷◌, IsTrue, Option, Some, None, map, option_map, refl, ap, ap₂, sym, ◌∙◌, subst, is_eq, Less}
use Rattle.std.proofs.lemmas.Bool.{cond-true, cond-false}
use Rattle.je_order.specs.Order.{name_cmp}
use Rattle.cursor_je.proofs.EdgeLaws.{name_same}
use Rattle.log_replay.proofs.ListLaws.{all_both}
use Rattle.log_replay.proofs.RowLaws.{rising_head, rising_tail}
use Rattle.std.specs.List.{AllByRecursion}
use Rattle.je_order.specs.declared.name.Name.{Name}
use Rattle.store_model.specs.declared.kind.Kind.{Kind}
use Rattle.store_model.specs.declared.change.Change.TheVariants.{Set as SetIn, Unset as UnsetIn}
use Rattle.store_model.specs.declared.record_change.RecordChange.{RecordChange}
use Rattle.store_model.specs.declared.record_change.RecordChange.TheVariants.{Set, Unset}
use Rattle.store_model.specs.Store.{change_in, proper}
use Rattle.store_model.specs.Evaluation.{plain_name}
use Rattle.log_replay.specs.Rows.{Row, Rows, RowChange, row_changed, row_at, data_at, is_right_row, IsRising, kind_or_plain}
use Rattle.log_replay.specs.Logging.{record_in, number_named, kind_named, last_db_after, all_row_changes}
use Rattle.log_replay.specs.Kept.{AllMayBeLogged}
use Rattle.log_replay.proofs.NameLaws.{number-same}
use Rattle.log_replay.proofs.StoreLaws.{row_changed-there}
use Rattle.txn_core.specs.Planning.{row_by}
use Rattle.txn_core.specs.Plans.{record_planned}

-- a change of a database's records leaves the catalog
pub catalog_left : (txn : ℕ) (db : List ℕ) (at : Name) (value : Option (List ℕ)) (rows : Rows) → number_named rows db ≢ 0 →
    row_changed (record { txn = txn; db = number_named rows db; name = at; value = value }) rows 0 ≡ rows 0
catalog_left txn db at value rows has = row_changed-there (record { txn = txn; db = number_named rows db; name = at; value = value }) rows 0 (λ e. has (sym e))

pub kind_left : (c : RowChange) (rows : Rows) (db : List ℕ) → row_changed c rows 0 ≡ rows 0 → kind_named (row_changed c rows) db ≡ kind_named rows db
kind_left c rows db h = ap (λ (l : List Row). kind_or_plain (record_in (data_at (plain_name db) l))) h

-- what is planned of them is what log_replay's definition logs
pub records_rows : (txn last_db number : ℕ) (db : List ℕ) (cs : List RecordChange) (rows : Rows) → number ≡ number_named rows db → number_named rows db ≢ 0 →
    map (row_by txn) (map (record_planned number) cs) ≡ all_row_changes txn last_db (map (λ c. change_in db c) cs) rows
records_rows txn last_db number db [] rows is has = refl
records_rows txn last_db number db (Set at value ∷ cs) rows is has =
    let c : RowChange = record { txn = txn; db = number_named rows db; name = at; value = Some value } in
    let same = number-same c rows db (catalog_left txn db at (Some value) rows has) in
    let make : ℕ → RowChange = λ n. record { txn = txn; db = n; name = at; value = Some value } in
    ap₂ (λ (n : ℕ) (l : List RowChange). make n ∷ l) is
    (records_rows txn (last_db_after last_db (SetIn db at value)) number db cs (row_changed c rows) (is ∙ sym same) (λ e. has (sym same ∙ e)))
records_rows txn last_db number db (Unset at ∷ cs) rows is has =
    let c : RowChange = record { txn = txn; db = number_named rows db; name = at; value = None } in
    let same = number-same c rows db (catalog_left txn db at None rows has) in
    let make : ℕ → RowChange = λ n. record { txn = txn; db = n; name = at; value = None } in
    ap₂ (λ (n : ℕ) (l : List RowChange). make n ∷ l) is
    (records_rows txn (last_db_after last_db (UnsetIn db at)) number db cs (row_changed c rows) (is ∙ sym same) (λ e. has (sym same ∙ e)))

-- a change is right for a kind
abbrev pub IsRightChange : Kind → RecordChange → Type 0
IsRightChange kind (Set at value) = IsTrue (is_right_row kind (at, value))
IsRightChange kind (Unset at) = proper kind at ≡ at

-- right changes may be logged
pub records_may : (last_db : ℕ) (kind : Kind) (db : List ℕ) (cs : List RecordChange) (rows : Rows) → kind ≡ kind_named rows db → number_named rows db ≢ 0 →
    AllByRecursion (IsRightChange kind) cs → AllMayBeLogged rows last_db (map (λ c. change_in db c) cs)
records_may last_db kind db [] rows is has right = tt
records_may last_db kind db (Set at value ∷ cs) rows is has right =
    let c : RowChange = record { txn = 0; db = number_named rows db; name = at; value = Some value } in
    let left = catalog_left 0 db at (Some value) rows has in (
      (has, subst (λ (k : Kind). IsTrue (is_right_row k (at, value))) is right.0),
      records_may (last_db_after last_db (SetIn db at value)) kind db cs (row_changed c rows) (is ∙ sym (kind_left c rows db left)) (λ e. has (sym (number-same c rows db left) ∙ e)) right.1,
    )
records_may last_db kind db (Unset at ∷ cs) rows is has right =
    let c : RowChange = record { txn = 0; db = number_named rows db; name = at; value = None } in
    let left = catalog_left 0 db at None rows has in (
      (has, subst (λ (k : Kind). proper k at ≡ at) is right.0),
      records_may (last_db_after last_db (UnsetIn db at)) kind db cs (row_changed c rows) (is ∙ sym (kind_left c rows db left)) (λ e. has (sym (number-same c rows db left) ∙ e)) right.1,
    )

-- names that rise find their own data
pub all_found : (rows : List Row) → IsRising rows → AllByRecursion (λ r. data_at r.0 rows ≡ Some r.1) rows
all_found [] up = tt
all_found (r ∷ rows) up = (
  ap (option_map (λ (x : Row). x.1)) (cond-true (is_eq (name_cmp r.0 r.0)) (Some r) (row_at r.0 rows) (ap is_eq (name_same r.0))),
  all_both (λ (y : Row). name_cmp r.0 y.0 ≡ Less) (λ y. data_at y.0 rows ≡ Some y.1) (λ y. data_at y.0 (r ∷ rows) ≡ Some y.1)
      (λ y less e. ap (option_map (λ (x : Row). x.1)) (cond-false (is_eq (name_cmp r.0 y.0)) (Some r) (row_at y.0 rows) (ap is_eq less)) ∙ e)
      rows (rising_head r rows up) (all_found rows (rising_tail r rows up)),
)
