-- How many records and databases a change of the store leaves.
use Rattle.std.proofs.Common.{◌≡◌, ◌≢◌, ℕ, ◌+◌, ◌<◌, List, [], ◌∷◌, true, false, not, Option, None, Some, length, refl, ap, sym, ◌∙◌, subst, arith, filter, is_eq}
use mathlib.Core.Path.{fun_ext}
use Rattle.je_order.specs.Order.{name_cmp}
use Rattle.je_order.specs.declared.name.Name.{Name}
use Rattle.db_catalog.specs.declared.db_record.DbRecord.{DbRecord}
use Rattle.db_catalog.specs.Catalog.{record_bytes, IsKind, IsRecord}
use Rattle.db_catalog.specs.Planning.{index_in_catalog, renumbered}
use Rattle.store_model.specs.declared.index.Index.{Index}
use Rattle.store_model.specs.declared.change.Change.{Change}
use Rattle.store_model.specs.declared.change.Change.TheVariants.{Set, Unset, Make, MakeIndex, Remove, Rename, Empty}
use Rattle.store_model.specs.Store.{record_count, changed}
use Rattle.store_model.specs.Evaluation.{plain_name}
use Rattle.log_replay.specs.Rows.{Row, Rows, RowChange, row_changed, rows_changed, row_at, data_at, number_or_0, catalog_number, IsRising, store_of}
use Rattle.log_replay.specs.Logging.{record_named, number_named, row_changes}
use Rattle.log_replay.specs.Kept.{MayBeLogged}
use Rattle.log_replay.specs.Laws.{one_if, HasCounts, CountsAreChanged}
use Rattle.log_replay.proofs.ListLaws.{none_found_in}
use Rattle.je_order.proofs.Lists.{all_weaker, filter_all_pass}
use Rattle.std.proofs.lemmas.Bool.{not-true}
use Rattle.log_replay.proofs.RowLaws.{rising-changed}
use Rattle.log_replay.proofs.StoreLaws.{IsEnvironment, environment_from, row_named, no_row_named, row_changed-there, row_deleted}
use Rattle.log_replay.proofs.LoggedLaws.{IsSound, step, deleted, put_, record_for, record_fits, record_number, record_there, primary_record, fits-there, rename-is, empty-is, index-is, left-absent, over}
use Rattle.log_replay.proofs.TransactionLaws.{sound-kept}
use Rattle.log_replay.proofs.TotalLaws.{record_count-set, record_count-set_again, record_count-unset, record_count-unset_none, databases-change, totals_put, totals_deleted}

-- the store after a change, as its changes of records leave it
after-step : (last_db : ℕ) (change : Change) (rows : Rows) → IsSound rows last_db → MayBeLogged rows last_db change →
    HasCounts rows change (store_of rows) (store_of (rows_changed (row_changes 0 last_db change rows) rows)) →
    HasCounts rows change (store_of rows) (changed change (store_of rows))
after-step last_db change rows sound may h = subst (HasCounts rows change (store_of rows)) (step 0 last_db change rows sound may).store h

set-counts : (last_db : ℕ) (db : List ℕ) (at : Name) (value : List ℕ) (rows : Rows) → IsSound rows last_db → number_named rows db ≢ 0 →
    HasCounts rows (Set db at value) (store_of rows) (store_of (rows_changed (row_changes 0 last_db (Set db at value) rows) rows))
set-counts last_db db at value rows sound has = (by_data (data_at at (rows (number_named rows db))) refl, databases-change rows db (record { txn = 0; db = number_named rows db; name = at; value = Some value }) has refl)
  where
    by_data : (o : Option (List ℕ)) → data_at at (rows (number_named rows db)) ≡ o →
        record_count (store_of (row_changed (record { txn = 0; db = number_named rows db; name = at; value = Some value }) rows)) + one_if o ≡ record_count (store_of rows) + 1
    by_data None e =
        let is = record_count-set rows db (record { txn = 0; db = number_named rows db; name = at; value = Some value }) value (environment_from rows sound.environment sound.primaries) has refl refl e in omega (arith, is)
    by_data (Some old) e =
        let is = record_count-set_again rows db (record { txn = 0; db = number_named rows db; name = at; value = Some value }) value old (environment_from rows sound.environment sound.primaries)
        (sound.rising (number_named rows db)) has refl refl e in omega (arith, is)

unset-counts : (last_db : ℕ) (db : List ℕ) (at : Name) (rows : Rows) → IsSound rows last_db → number_named rows db ≢ 0 →
    HasCounts rows (Unset db at) (store_of rows) (store_of (rows_changed (row_changes 0 last_db (Unset db at) rows) rows))
unset-counts last_db db at rows sound has =
    (by_data (data_at at (rows (number_named rows db))) refl, databases-change rows db (record { txn = 0; db = number_named rows db; name = at; value = None }) has refl)
  where
    by_data : (o : Option (List ℕ)) → data_at at (rows (number_named rows db)) ≡ o →
        record_count (store_of (row_changed (record { txn = 0; db = number_named rows db; name = at; value = None }) rows)) + one_if o ≡ record_count (store_of rows)
    by_data None e =
        let is = record_count-unset_none rows db (record { txn = 0; db = number_named rows db; name = at; value = None }) (environment_from rows sound.environment sound.primaries) has refl refl e in omega (arith, is)
    by_data (Some old) e =
        let is = record_count-unset rows db (record { txn = 0; db = number_named rows db; name = at; value = None }) old (environment_from rows sound.environment sound.primaries)
        (sound.rising (number_named rows db)) has refl refl e in omega (arith, is)

-- a database more, by its record's number and kind
put-counts : (rows : Rows) (db : List ℕ) (r : DbRecord) → IsRecord r → IsEnvironment rows → IsRising (rows 0) → row_at (plain_name db) (rows 0) ≡ None → r.number ≢ 0 →
    (record_count (store_of (row_changed (put_ 0 db r) rows)) ≡ record_count (store_of rows) + length (rows r.number))
    × (length (store_of (row_changed (put_ 0 db r) rows)).databases ≡ length (store_of rows).databases + 1)
put-counts rows db r fits env up absent above =
    let n_is : catalog_number (record_bytes r) ≡ r.number = record_number r fits in
    let both = totals_put rows 0 db (record_bytes r) env up absent (λ e. above (sym n_is ∙ e)) in
    (both.0 ∙ ap (λ (n : ℕ). record_count (store_of rows) + length (rows n)) n_is, both.1)

taken_out : (db : List ℕ) (l : List Row) → row_at (plain_name db) (filter (λ (r : Row). not (is_eq (name_cmp r.0 (plain_name db)))) l) ≡ None
taken_out db l =
    none_found_in (λ (r : Row). is_eq (name_cmp r.0 (plain_name db))) (filter (λ (r : Row). not (is_eq (name_cmp r.0 (plain_name db)))) l)
    (all_weaker (λ (r : Row). not (is_eq (name_cmp r.0 (plain_name db))) ≡ true) (λ r. is_eq (name_cmp r.0 (plain_name db)) ≡ false) (λ r h. not-true (is_eq (name_cmp r.0 (plain_name db))) h)
    (filter (λ (r : Row). not (is_eq (name_cmp r.0 (plain_name db)))) l) (filter_all_pass (λ (r : Row). not (is_eq (name_cmp r.0 (plain_name db)))) l))

-- the counts without a database that is there
less-counts : (last_db : ℕ) (db : List ℕ) (rows : Rows) → IsSound rows last_db → number_named rows db ≢ 0 →
    (record_count (store_of (row_changed (deleted 0 db) rows)) + length (rows (number_named rows db)) ≡ record_count (store_of rows))
    × (length (store_of (row_changed (deleted 0 db) rows)).databases + 1 ≡ length (store_of rows).databases)
less-counts last_db db rows sound has =
    let row = row_named rows db has in
    let both = totals_deleted rows 0 db row.0 sound.environment (sound.rising 0) row.1 in
    (ap (λ (n : ℕ). record_count (store_of (row_changed (deleted 0 db) rows)) + length (rows n)) (sym row.2) ∙ both.0, both.1)

rename-counts : (last_db : ℕ) (db to : List ℕ) (rows : Rows) (r : DbRecord) → IsSound rows last_db → MayBeLogged rows last_db (Rename db to) → record_named rows db ≡ Some r →
    HasCounts rows (Rename db to) (store_of rows) (store_of (rows_changed (deleted 0 db ∷ put_ 0 to r ∷ []) rows))
rename-counts last_db db to rows r sound may is =
    let n_is : number_named rows db ≡ r.number = ap number_or_0 is in
    let above : r.number ≢ 0 = λ e. may.0 (n_is ∙ e) in
    let gone : Rows = row_changed (deleted 0 db) rows in
    let less = less-counts last_db db rows sound may.0 in
    let more = put-counts gone to r (fits-there (record_named rows db) r is may.3) (row_deleted (rows 0) rows 0 db sound.environment).0 (rising-changed (rows 0) (plain_name db) None (sound.rising 0))
    (left-absent db to (rows 0) (no_row_named rows to sound.environment may.1)) above in
    let same : length (gone r.number) ≡ length (rows (number_named rows db)) = ap length (row_changed-there (deleted 0 db) rows r.number above) ∙ ap (λ (n : ℕ). length (rows n)) (sym n_is) in
    let a = less.0 in let b = more.0 in let c = less.1 in let d = more.1 in
    (omega (arith, a, b, same), omega (arith, c, d))

empty-counts : (last_db : ℕ) (db : List ℕ) (rows : Rows) (r : DbRecord) → IsSound rows last_db → MayBeLogged rows last_db (Empty db) → record_named rows db ≡ Some r →
    HasCounts rows (Empty db) (store_of rows) (store_of (rows_changed (put_ 0 db (renumbered (last_db + 1) r) ∷ []) rows))
empty-counts last_db db rows r sound may is =
    let new : DbRecord = renumbered (last_db + 1) r in
    let gone : Rows = row_changed (deleted 0 db) rows in
    let later : last_db < new.number = omega arith in
    let above : new.number ≢ 0 = λ e. absurd (omega arith) in
    let less = less-counts last_db db rows sound may.0 in
    let more = put-counts gone db new (may.1, (fits-there (record_named rows db) r is may.2).1) (row_deleted (rows 0) rows 0 db sound.environment).0
    (rising-changed (rows 0) (plain_name db) None (sound.rising 0)) (taken_out db (rows 0)) above in
    let none : length (gone new.number) ≡ 0 = ap length (row_changed-there (deleted 0 db) rows new.number above ∙ sound.unused new.number later) in
    let same : row_changed (put_ 0 db new) gone ≡ row_changed (put_ 0 db new) rows = fun_ext (over (plain_name db) (record_bytes new) rows) in
    let a = less.0 in let b = more.0 in let c = less.1 in let d = more.1 in
    subst (λ (r : Rows). HasCounts rows (Empty db) (store_of rows) (store_of r)) same (omega (arith, a, b, none), omega (arith, c, d))

-- a database is made by a record
made-counts : (last_db : ℕ) (db : List ℕ) (rows : Rows) (r : DbRecord) → IsSound rows last_db → number_named rows db ≡ 0 → IsRecord r → r.number ≡ last_db + 1 →
    (record_count (store_of (row_changed (put_ 0 db r) rows)) ≡ record_count (store_of rows))
    × (length (store_of (row_changed (put_ 0 db r) rows)).databases ≡ length (store_of rows).databases + 1)
made-counts last_db db rows r sound free fits number =
    let later : last_db < r.number = omega (arith, number) in
    let more = put-counts rows db r fits sound.environment (sound.rising 0) (no_row_named rows db sound.environment free) (λ e. absurd (omega (arith, number, e))) in
    let none : length (rows r.number) ≡ 0 = ap length (sound.unused r.number later) in
    let b = more.0 in (omega (arith, b, none), more.1)

index-counts : (last_db : ℕ) (db : List ℕ) (index : Index) (rows : Rows) → IsSound rows last_db → MayBeLogged rows last_db (MakeIndex db index) →
    HasCounts rows (MakeIndex db index) (store_of rows) (store_of (rows_changed (row_changes 0 last_db (MakeIndex db index) rows) rows))
index-counts last_db db index rows sound may =
    let p = primary_record (record_named rows index.primary) may.4 in
    let r : DbRecord = record { number = last_db + 1; kind = index_in_catalog p.0.number index.extract } in
    subst (λ (l : List RowChange). HasCounts rows (MakeIndex db index) (store_of rows) (store_of (rows_changed l rows))) (sym (index-is 0 last_db db index rows p.0 p.1))
    (made-counts last_db db rows r sound may.0 (may.3, subst (λ (n : ℕ). IsKind (index_in_catalog n index.extract)) (ap number_or_0 p.1) may.5) refl)

counts : (last_db : ℕ) (change : Change) (rows : Rows) → IsSound rows last_db → MayBeLogged rows last_db change →
    HasCounts rows change (store_of rows) (store_of (rows_changed (row_changes 0 last_db change rows) rows))
counts last_db (Set db at value) rows sound may = set-counts last_db db at value rows sound may.0
counts last_db (Unset db at) rows sound may = unset-counts last_db db at rows sound may.0
counts last_db (Make db kind) rows sound may = made-counts last_db db rows (record_for (last_db + 1) kind) sound may.0 (record_fits (last_db + 1) kind may.3) refl
counts last_db (MakeIndex db index) rows sound may = index-counts last_db db index rows sound may
counts last_db (Remove db) rows sound may = less-counts last_db db rows sound may.0
counts last_db (Rename db to) rows sound may =
    let r = record_there (record_named rows db) may.0 in
    subst (λ (l : List RowChange). HasCounts rows (Rename db to) (store_of rows) (store_of (rows_changed l rows))) (sym (rename-is 0 last_db db to rows r.0 r.1)) (rename-counts last_db db to rows r.0 sound may r.1)
counts last_db (Empty db) rows sound may =
    let r = record_there (record_named rows db) may.0 in
    subst (λ (l : List RowChange). HasCounts rows (Empty db) (store_of rows) (store_of (rows_changed l rows))) (sym (empty-is 0 last_db db rows r.0 r.1)) (empty-counts last_db db rows r.0 sound may r.1)

pub counts_are_changed : CountsAreChanged
counts_are_changed entries rows last_txn last_db change kept may =
    let sound = sound-kept entries rows last_txn last_db kept in
    after-step last_db change rows sound may (counts last_db change rows sound may)
