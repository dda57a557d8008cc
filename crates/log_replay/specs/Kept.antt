-- What an environment keeps of its log while it runs: the records in memory, and the numbers allocated last.
use Rattle.std.specs.Prelude.{ℕ, ◌≡◌, ◌≢◌, ◌≤◌, ◌<◌, ◌^◌, ◌+◌, ◌∷◌, [], List, Option, None, Some, true, false, IsTrue, length, if◌then◌else◌}
use Rattle.std.specs.List.{AllByRecursion}
use Rattle.log_entry.specs.declared.entry.Entry.{Entry}
use Rattle.je_order.specs.Order.{is_same_bytes}
use Rattle.je_order.specs.Words.{is_word}
use Rattle.store_model.specs.declared.change.Change.{Change}
use Rattle.store_model.specs.declared.change.Change.TheVariants.{Set, Unset, Make, MakeIndex, Remove, Rename, Empty}
use Rattle.store_model.specs.declared.store.TheConstants.{MOST_DATABASES}
use Rattle.store_model.specs.Store.{proper}
use Rattle.store_model.specs.Refusals.{made_by}
use Rattle.db_catalog.specs.declared.db_record.DbRecord.{DbRecord}
use Rattle.db_catalog.specs.Catalog.{IsKind, IsRecord}
use Rattle.db_catalog.specs.Planning.{index_in_catalog, is_primary_record}
use Rattle.log_replay.specs.Rows.{Rows, RowChange, rows_changed, is_right_row, numbers_of, is_environment, is_indexed, IsRising}
use Rattle.log_replay.specs.Replay.{replayed, nothing_replayed}
use Rattle.log_replay.specs.Logging.{record_named, number_named, kind_named, row_changes, last_db_after}

-- a pending change whose transaction and database numbers are at most these
pub record IsOfBefore (last_txn last_db : ℕ) (change : RowChange) : Type 0 where
  pub txn : change.txn ≤ last_txn
  pub db : change.db ≤ last_db

-- the records are what replaying the log's entries leaves; no transaction with a later number than `last_txn` has changes that wait for a
-- commit, and no later database number than `last_db` was allocated
pub record IsKept (entries : List Entry) (rows : Rows) (last_txn last_db : ℕ) : Type 0 where
  pub same : (db : ℕ) → (replayed entries nothing_replayed).rows db ≡ rows db
  pub environment : is_environment rows ≡ true
  pub rising : (db : ℕ) → IsRising (rows db)
  pub pending : AllByRecursion (IsOfBefore last_txn last_db) (replayed entries nothing_replayed).pending
  pub unused : (db : ℕ) → last_db < db → rows db ≡ []
  pub numbers : AllByRecursion (λ n. n ≤ last_db) (numbers_of rows)

-- a record has fields of their widths
abbrev pub Fits : Option DbRecord → Type 0
Fits None = Unit {0}
Fits (Some r) = IsRecord r

-- a change may be logged where these are the records: the database that it names is there, and what is set or taken out is a record of its
-- kind; a database that is made has a new name, and so does one that is renamed; a database more may be there; the primary of an index that is
-- made is a plain database; one that is removed or emptied has no index; numbers have their width
abbrev pub MayBeLogged : Rows → ℕ → Change → Type 0
MayBeLogged rows last_db (Set db at value) = (number_named rows db ≢ 0) × IsTrue (is_right_row (kind_named rows db) (at, value))
MayBeLogged rows last_db (Unset db at) = (number_named rows db ≢ 0) × (proper (kind_named rows db) at ≡ at)
MayBeLogged rows last_db (Make db kind) = (number_named rows db ≡ 0) × IsTrue (is_word db) × (length (rows 0) < MOST_DATABASES) × (last_db + 1 < 2 ^ 32)
MayBeLogged rows last_db (MakeIndex db index) =
    (number_named rows db ≡ 0) × IsTrue (is_word db) × (length (rows 0) < MOST_DATABASES) × (last_db + 1 < 2 ^ 32)
    × IsTrue (is_primary_record (record_named rows index.primary)) × IsKind (index_in_catalog (number_named rows index.primary) index.extract)
MayBeLogged rows last_db (Remove db) = (number_named rows db ≢ 0) × (is_indexed (rows 0) (number_named rows db) ≡ false)
MayBeLogged rows last_db (Rename db to) = (number_named rows db ≢ 0) × (number_named rows to ≡ 0) × IsTrue (is_word to) × Fits (record_named rows db)
MayBeLogged rows last_db (Empty db) =
    (number_named rows db ≢ 0) × (last_db + 1 < 2 ^ 32) × Fits (record_named rows db) × (is_indexed (rows 0) (number_named rows db) ≡ false)

-- several changes may be logged: each on the records that those before it leave
abbrev pub AllMayBeLogged : Rows → ℕ → List Change → Type 0
AllMayBeLogged rows last_db [] = Unit {0}
AllMayBeLogged rows last_db (change ∷ changes) =
    MayBeLogged rows last_db change × AllMayBeLogged (rows_changed (row_changes 0 last_db change rows) rows) (last_db_after last_db change) changes

-- a change of a record
abbrev pub IsRecordChange : Change → Type 0
IsRecordChange (Set db at value) = Unit {0}
IsRecordChange (Unset db at) = Unit {0}
IsRecordChange change = ⊥

-- ---- numbers of databases, by name

-- a name has another number
abbrev pub with_number : List ℕ → ℕ → (List ℕ → ℕ) → List ℕ → ℕ
with_number name number numbers other = if is_same_bytes other name then number else numbers other

-- the numbers after a change: a database that is made allocates the next one, and so does one that is emptied
abbrev pub numbered : Change → ℕ → (List ℕ → ℕ) → List ℕ → ℕ
numbered (Set db at value) last numbers = numbers
numbered (Unset db at) last numbers = numbers
numbered (Make db kind) last numbers = with_number db (last + 1) numbers
numbered (MakeIndex db index) last numbers = with_number db (last + 1) numbers
numbered (Remove db) last numbers = with_number db 0 numbers
numbered (Rename db to) last numbers = with_number to (numbers db) (with_number db 0 numbers)
numbered (Empty db) last numbers = with_number db (last + 1) numbers

-- the same after several changes, in order
abbrev pub all_numbered : List Change → ℕ → (List ℕ → ℕ) → List ℕ → ℕ
all_numbered [] last numbers = numbers
all_numbered (change ∷ changes) last numbers = all_numbered changes (last + made_by (change ∷ [])) (numbered change last numbers)
