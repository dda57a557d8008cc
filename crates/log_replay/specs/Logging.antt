-- The entries that a transaction's changes are logged as.
use Rattle.std.specs.Prelude.{ℕ, ◌+◌, ◌++◌, ◌∷◌, [], List, Option, Some, None, map}
use Rattle.log_entry.specs.declared.entry.Entry.{Entry}
use Rattle.log_entry.specs.declared.entry.Entry.TheVariants.{Put, Delete, Commit}
use Rattle.je_order.specs.declared.name.Name.{Name}
use Rattle.db_catalog.specs.declared.db_record.DbRecord.{DbRecord}
use Rattle.db_catalog.specs.declared.catalog_change.CatalogChange.{CatalogChange}
use Rattle.db_catalog.specs.declared.catalog_change.CatalogChange.TheVariants.{Put as PutRecord, Delete as DeleteRecord}
use Rattle.db_catalog.specs.Catalog.{record_bytes, db_record_in}
use Rattle.db_catalog.specs.Planning.{logged_as}
use Rattle.store_model.specs.declared.change.Change.{Change}
use Rattle.store_model.specs.declared.change.Change.TheVariants.{Set, Unset, Make, MakeIndex, Remove, Rename, Empty}
use Rattle.store_model.specs.declared.index.Index.{Index}
use Rattle.store_model.specs.declared.kind.Kind.{Kind}
use Rattle.store_model.specs.Evaluation.{plain_name}
use Rattle.store_model.specs.Refusals.{made_by}
use Rattle.log_replay.specs.Rows.{Rows, RowChange, rows_changed, data_at, number_or_0, kind_or_plain, index_or_none, index_in}

-- ---- what the catalog has for a name

-- the catalog record in a name's data, if it has data and this is one
abbrev pub record_in : Option (List ℕ) → Option DbRecord
record_in None = None
record_in (Some bytes) = db_record_in bytes

-- the record of a name
abbrev pub record_named : Rows → List ℕ → Option DbRecord
record_named rows name = record_in (data_at (plain_name name) (rows 0))

-- the number of the database of a name, 0 where there is none
abbrev pub number_named : Rows → List ℕ → ℕ
number_named rows name = number_or_0 (record_named rows name)

-- its kind, where there is one
abbrev pub kind_named : Rows → List ℕ → Kind
kind_named rows name = kind_or_plain (record_named rows name)

-- what it is an index of, if it is one
abbrev pub index_named : Rows → List ℕ → Option Index
index_named rows name = index_in (rows 0) (index_or_none (record_named rows name))

-- ---- changes of records

-- a change of the catalog's records, by a transaction
abbrev pub catalog_row_change : ℕ → CatalogChange → RowChange
catalog_row_change txn (PutRecord db row) = record { txn = txn; db = 0; name = plain_name db; value = Some (record_bytes row) }
catalog_row_change txn (DeleteRecord db) = record { txn = txn; db = 0; name = plain_name db; value = None }

-- the changes of records that log a change of the store of these records, by a transaction, where `last_db` is the database number allocated
-- last: one for a record's change, under the database's number; for any other change those of the catalog's records that log it, where a
-- database that is made or emptied gets the next number
abbrev pub row_changes : ℕ → ℕ → Change → Rows → List RowChange
row_changes txn last_db (Set db at value) rows = record { txn = txn; db = number_named rows db; name = at; value = Some value } ∷ []
row_changes txn last_db (Unset db at) rows = record { txn = txn; db = number_named rows db; name = at; value = None } ∷ []
row_changes txn last_db (Make db kind) rows = map (catalog_row_change txn) (logged_as (record_named rows) (last_db + 1) (Make db kind))
row_changes txn last_db (MakeIndex db index) rows = map (catalog_row_change txn) (logged_as (record_named rows) (last_db + 1) (MakeIndex db index))
row_changes txn last_db (Remove db) rows = map (catalog_row_change txn) (logged_as (record_named rows) (last_db + 1) (Remove db))
row_changes txn last_db (Rename db to) rows = map (catalog_row_change txn) (logged_as (record_named rows) (last_db + 1) (Rename db to))
row_changes txn last_db (Empty db) rows = map (catalog_row_change txn) (logged_as (record_named rows) (last_db + 1) (Empty db))

-- the last database number after a change
abbrev pub last_db_after : ℕ → Change → ℕ
last_db_after last_db change = last_db + made_by (change ∷ [])

-- the changes of records that log several changes of the store, each on the records that those before it leave
abbrev pub all_row_changes : ℕ → ℕ → List Change → Rows → List RowChange
all_row_changes txn last_db [] rows = []
all_row_changes txn last_db (change ∷ changes) rows =
    row_changes txn last_db change rows
    ++ all_row_changes txn (last_db_after last_db change) changes (rows_changed (row_changes txn last_db change rows) rows)

-- ---- entries

abbrev pub entry_with : ℕ → ℕ → Name → Option (List ℕ) → Entry
entry_with txn db name None = Delete (record { 0 = txn }) db name
entry_with txn db name (Some value) = Put (record { 0 = txn }) db name value

-- the entry of a change of a record
abbrev pub row_entry : RowChange → Entry
row_entry change = entry_with change.txn change.db change.name change.value

-- the entries that a transaction's changes add to a log: one for each change of a record, and its commit
abbrev pub transaction_entries : ℕ → ℕ → List Change → Rows → List Entry
transaction_entries txn last_db changes rows = map row_entry (all_row_changes txn last_db changes rows) ++ Commit (record { 0 = txn }) ∷ []

-- the entries of a log after a transaction with these changes was logged in it
abbrev pub entries_with : List Entry → ℕ → ℕ → List Change → Rows → List Entry
entries_with entries txn last_db changes rows = entries ++ transaction_entries txn last_db changes rows

-- ---- one change's entries, from what the catalog has

-- the entry of a change of the catalog's records, by a transaction
abbrev pub catalog_entry : ℕ → CatalogChange → Entry
catalog_entry txn (PutRecord db row) = Put (record { 0 = txn }) 0 (plain_name db) (record_bytes row)
catalog_entry txn (DeleteRecord db) = Delete (record { 0 = txn }) 0 (plain_name db)

-- the entries of a change, by a transaction: one for a record's change, in the database of that number; for any other change
-- those of the catalog's records that log it, where a database that is made or emptied gets the number
abbrev pub entries_of : (List ℕ → Option DbRecord) → ℕ → ℕ → Change → List Entry
entries_of record_of txn number (Set db at value) = Put (record { 0 = txn }) number at value ∷ []
entries_of record_of txn number (Unset db at) = Delete (record { 0 = txn }) number at ∷ []
entries_of record_of txn number (Make db kind) = map (catalog_entry txn) (logged_as record_of number (Make db kind))
entries_of record_of txn number (MakeIndex db index) = map (catalog_entry txn) (logged_as record_of number (MakeIndex db index))
entries_of record_of txn number (Remove db) = map (catalog_entry txn) (logged_as record_of number (Remove db))
entries_of record_of txn number (Rename db to) = map (catalog_entry txn) (logged_as record_of number (Rename db to))
entries_of record_of txn number (Empty db) = map (catalog_entry txn) (logged_as record_of number (Empty db))

-- the number that it is for: the database's, or the next one
abbrev pub number_for : ℕ → Change → Rows → ℕ
number_for last_db (Set db at value) rows = number_named rows db
number_for last_db (Unset db at) rows = number_named rows db
number_for last_db change rows = last_db + 1
