-- What holds of all logs.
use Rattle.std.specs.Prelude.{◌≡◌, ◌≢◌, ℕ, ◌+◌, ◌<◌, ◌≤◌, List, Option, None, Some, true, map, length}
use Rattle.std.specs.List.{AllByRecursion, flat_map}
use Rattle.je_disk.specs.States.{Files}
use Rattle.je_lsn.specs.Naming.{last_file}
use Rattle.log_file.specs.Log.{Log, IsLog, AreFiles, files_of_log}
use Rattle.log_entry.specs.declared.entry.Entry.{Entry}
use Rattle.log_entry.specs.Encoding.{size_of}
use Rattle.log_file.specs.Scan.{may_follow}
use Rattle.db_catalog.specs.Planning.{IsCatalogOf, found_in}
use Rattle.store_model.specs.declared.change.Change.{Change}
use Rattle.store_model.specs.declared.change.Change.TheVariants.{Set, Unset, Make, MakeIndex, Remove, Rename, Empty}
use Rattle.store_model.specs.declared.store.Store.{Store}
use Rattle.store_model.specs.Store.{database_of, record_count, changed, all_changed}
use Rattle.store_model.specs.Refusals.{made_by}
use Rattle.log_replay.specs.Rows.{Rows, RowChange, rows_changed, data_at, pair_of, is_environment, IsRising, store_of}
use Rattle.log_replay.specs.Wrong.{wrong_record}
use Rattle.log_replay.specs.Logging.{number_named, kind_named, record_named, index_named, row_changes, all_row_changes, row_entry, transaction_entries, entries_with, entries_of, number_for}
use Rattle.log_replay.specs.Kept.{IsKept, IsRecordChange, MayBeLogged, AllMayBeLogged, all_numbered}
use Rattle.log_replay.specs.Reading.{gap_in, validated, reading_of}

-- a log whose files are there whole, with no gap between their numbers, is read again
abbrev pub AreReadAgain : Type 0
AreReadAgain = (reads : Files) (held : List (ℕ × List ℕ)) (log : Log) → IsLog log → AreFiles reads held → ((f : ℕ) → reads f ≡ files_of_log log f)
    → AllByRecursion (λ file. file.0 ≤ last_file) log → gap_in (map (λ file. file.0) log) ≡ None → reading_of held ≡ validated log

-- ---- one transaction more

-- after a transaction whose changes may be logged, by a number that no pending change has, the records are changed by its changes of records,
-- in order
abbrev pub TransactionsAreKept : Type 0
TransactionsAreKept = (entries : List Entry) (rows new_rows : Rows) (last_txn last_db txn : ℕ) (changes : List Change)
    → IsKept entries rows last_txn last_db → AllMayBeLogged rows last_db changes → last_txn < txn
    → ((db : ℕ) → new_rows db ≡ rows_changed (all_row_changes 0 last_db changes rows) rows db)
    → IsKept (entries_with entries txn last_db changes rows) new_rows last_txn (last_db + made_by changes)

-- their store is the changed one
abbrev pub StoresAreChanged : Type 0
StoresAreChanged = (entries : List Entry) (rows new_rows : Rows) (last_txn last_db : ℕ) (changes : List Change)
    → IsKept entries rows last_txn last_db → AllMayBeLogged rows last_db changes
    → ((db : ℕ) → new_rows db ≡ rows_changed (all_row_changes 0 last_db changes rows) rows db)
    → store_of new_rows ≡ all_changed changes (store_of rows)

-- and the databases' numbers are those that the changes give
abbrev pub NumbersAreChanged : Type 0
NumbersAreChanged = (entries : List Entry) (rows new_rows : Rows) (last_txn last_db : ℕ) (changes : List Change)
    → IsKept entries rows last_txn last_db → AllMayBeLogged rows last_db changes
    → ((db : ℕ) → new_rows db ≡ rows_changed (all_row_changes 0 last_db changes rows) rows db)
    → (name : List ℕ) → number_named new_rows name ≡ all_numbered changes last_db (number_named rows) name

-- 1 where there is data
abbrev pub one_if : Option (List ℕ) → ℕ
one_if None = 0
one_if (Some bytes) = 1

-- how many records and databases a change of the store of these records leaves
abbrev pub HasCounts : Rows → Change → Store → Store → Type 0
HasCounts rows (Set db at value) old new =
    (record_count new + one_if (data_at at (rows (number_named rows db))) ≡ record_count old + 1) × (length new.databases ≡ length old.databases)
HasCounts rows (Unset db at) old new =
    (record_count new + one_if (data_at at (rows (number_named rows db))) ≡ record_count old) × (length new.databases ≡ length old.databases)
HasCounts rows (Make db kind) old new = (record_count new ≡ record_count old) × (length new.databases ≡ length old.databases + 1)
HasCounts rows (MakeIndex db index) old new = (record_count new ≡ record_count old) × (length new.databases ≡ length old.databases + 1)
HasCounts rows (Remove db) old new =
    (record_count new + length (rows (number_named rows db)) ≡ record_count old) × (length new.databases + 1 ≡ length old.databases)
HasCounts rows (Rename db to) old new = (record_count new ≡ record_count old) × (length new.databases ≡ length old.databases)
HasCounts rows (Empty db) old new =
    (record_count new + length (rows (number_named rows db)) ≡ record_count old) × (length new.databases ≡ length old.databases)

abbrev pub CountsAreChanged : Type 0
CountsAreChanged = (entries : List Entry) (rows : Rows) (last_txn last_db : ℕ) (change : Change)
    → IsKept entries rows last_txn last_db → MayBeLogged rows last_db change → HasCounts rows change (store_of rows) (changed change (store_of rows))

-- ---- what is kept

-- no record that is kept is wrong
abbrev pub KeptIsRight : Type 0
KeptIsRight = (entries : List Entry) (rows : Rows) (last_txn last_db : ℕ) → IsKept entries rows last_txn last_db → wrong_record rows ≡ None

-- it is kept as well for a later transaction number
abbrev pub KeptForLater : Type 0
KeptForLater = (entries : List Entry) (rows : Rows) (last_txn txn last_db : ℕ) → IsKept entries rows last_txn last_db → last_txn ≤ txn → IsKept entries rows txn last_db

-- a name without a number is no database's; one with a number has the records under it, by its kind
abbrev pub DatabasesByNumber : Type 0
DatabasesByNumber = (rows : Rows) (name : List ℕ) → is_environment rows ≡ true
    → (number_named rows name ≡ 0 → database_of name (store_of rows) ≡ None)
    × (number_named rows name ≢ 0
    → database_of name (store_of rows) ≡ Some (record { name = name; kind = kind_named rows name; index = index_named rows name; pairs = map (pair_of (kind_named rows name)) (rows (number_named rows name)) }))

-- the catalog has a record for each of the store's databases, of its kind, and no other; what it tells of one is its number and kind
abbrev pub CatalogsAreOfStores : Type 0
CatalogsAreOfStores = (rows : Rows) → is_environment rows ≡ true → IsRising (rows 0) → IsCatalogOf (store_of rows) (record_named rows)

abbrev pub FoundByNumber : Type 0
FoundByNumber = (rows : Rows) (name : List ℕ) → number_named rows name ≢ 0
    → found_in (record_named rows name) ≡ Some (record { number = number_named rows name; kind = kind_named rows name })

-- ---- changes of records, one at a time

-- the transaction's number is in the entries alone
abbrev pub ChangedByAnyTransaction : Type 0
ChangedByAnyTransaction = (txn last_db : ℕ) (changes : List Change) (rows : Rows) (db : ℕ)
    → rows_changed (all_row_changes txn last_db changes rows) rows db ≡ rows_changed (all_row_changes 0 last_db changes rows) rows db

-- the entries of one change are those that its catalog's records log
abbrev pub LoggedAsEntries : Type 0
LoggedAsEntries = (txn last_db : ℕ) (change : Change) (rows : Rows)
    → map row_entry (row_changes txn last_db change rows) ≡ entries_of (record_named rows) txn (number_for last_db change rows) change

-- changes of records that may each be logged may be logged together, and each is logged as it is alone
abbrev pub RecordsMayBeLogged : Type 0
RecordsMayBeLogged = (rows : Rows) (last_db : ℕ) (changes : List Change)
    → AllByRecursion (λ c. IsRecordChange c × MayBeLogged rows last_db c) changes → AllMayBeLogged rows last_db changes

abbrev pub RecordsAreLogged : Type 0
RecordsAreLogged = (txn last_db : ℕ) (changes : List Change) (rows : Rows)
    → AllByRecursion (λ c. IsRecordChange c × MayBeLogged rows last_db c) changes
    → all_row_changes txn last_db changes rows ≡ flat_map (λ c. row_changes txn last_db c rows) changes

-- each entry of a transaction may stand behind a file's header, and no number changes an entry's size
abbrev pub EntriesFollow : Type 0
EntriesFollow = (txn last_db : ℕ) (changes : List Change) (rows : Rows) → AllByRecursion (λ e. may_follow e ≡ true) (transaction_entries txn last_db changes rows)

abbrev pub SizesOfAnyNumbers : Type 0
SizesOfAnyNumbers = (txn db : ℕ) (change : RowChange) → size_of (row_entry (record { txn = txn; db = db; name = change.name; value = change.value })) ≡ size_of (row_entry change)
