-- The records of an environment, by the number of their database, and the store that they make. Database 0 is the
-- catalog: its records are the other databases' names, numbers and kinds.
use Rattle.std.specs.Prelude.{ℕ, ◌++◌, ◌∷◌, [], ◌==◌, ◌&&◌, nat_le, List, Option, None, Some, Bool, true, false, not, filter, map, find, unwrap_or, option_map, length, if◌then◌else◌}
use Rattle.std.specs.List.{list_all, list_any}
use Rattle.std.specs.Ordering.{is_eq, is_lt, is_gt, on}
use Rattle.std.specs.List.Sorted.{IsStrictlySortedBy}
use Rattle.std.specs.Map.{lookup}
use Rattle.je_order.specs.Order.{name_cmp}
use Rattle.je_order.specs.Words.{is_word}
use Rattle.je_order.specs.declared.name.Name.{Name}
use Rattle.store_model.specs.declared.store.TheConstants.{MOST_DATABASES, DUP_LIMIT}
use Rattle.store_model.specs.declared.store.Store.{Store}
use Rattle.store_model.specs.declared.store.Database.{Database}
use Rattle.store_model.specs.declared.index.Index.{Index}
use Rattle.store_model.specs.declared.extract.Extract.{Extract}
use Rattle.store_model.specs.declared.kind.Kind.{Kind}
use Rattle.store_model.specs.declared.kind.Kind.TheVariants.{Plain, Dup}
use Rattle.db_catalog.specs.declared.db_record.DbRecord.{DbRecord}
use Rattle.db_catalog.specs.Catalog.{db_record_in}
use Rattle.db_catalog.specs.Planning.{kind_of_catalog, index_of_catalog, is_primary_record}

-- a record: its name and its data
abbrev pub Row : Type 0
Row = Name × List ℕ

-- the records of each database, in name order
abbrev pub Rows : Type 0
Rows = ℕ → List Row

-- what a collection of databases' records has under a number; nothing where it has no such database
abbrev pub rows_in : List (ℕ × List Row) → Rows
rows_in kept db = unwrap_or (lookup (λ n. n == db) kept) []

-- no records at all
abbrev pub no_rows : Rows
no_rows db = []

-- the records of one database with a name set to data, or without it where there is no data
abbrev pub rows_with : Name → Option (List ℕ) → List Row → List Row
rows_with name (Some value) rows =
    filter (λ r. is_lt (name_cmp r.0 name)) rows ++ (name, value) ∷ filter (λ r. is_gt (name_cmp r.0 name)) rows
rows_with name None rows = filter (λ r. not (is_eq (name_cmp r.0 name))) rows

-- the records of one database with names set to data, in order
abbrev pub rows_put : List Row → List Row → List Row
rows_put [] rows = rows
rows_put (put ∷ puts) rows = rows_put puts (rows_with put.0 (Some put.1) rows)

-- a change of a record, by a transaction: the data that its name is set to, or None where it is taken out
pub record RowChange : Type 0 where
  pub txn : ℕ
  pub db : ℕ
  pub name : Name
  pub value : Option (List ℕ)

-- the records after a change
abbrev pub row_changed : RowChange → Rows → Rows
row_changed change rows db = if db == change.db then rows_with change.name change.value (rows db) else rows db

-- the records after several changes, in order
abbrev pub rows_changed : List RowChange → Rows → Rows
rows_changed [] rows = rows
rows_changed (change ∷ changes) rows = rows_changed changes (row_changed change rows)

-- the record of a name
abbrev pub row_at : Name → List Row → Option Row
row_at name rows = find (λ r. is_eq (name_cmp r.0 name)) rows

-- the data of a name
abbrev pub data_at : Name → List Row → Option (List ℕ)
data_at name rows = option_map (λ r. r.1) (row_at name rows)

-- whether names rise strictly
abbrev pub IsRising : List Row → Type 0
IsRising rows = IsStrictlySortedBy (on (λ (r : Row). r.0) name_cmp) rows

-- the number in a catalog record's data; 0 where the data is no record
abbrev pub number_or_0 : Option DbRecord → ℕ
number_or_0 None = 0
number_or_0 (Some record_) = record_.number

-- the same of the data's bytes
abbrev pub catalog_number : List ℕ → ℕ
catalog_number bytes = number_or_0 (db_record_in bytes)

-- the kind in a catalog record's data, where its number is not 0; an index keeps sorted duplicates
abbrev pub kind_or_plain : Option DbRecord → Kind
kind_or_plain None = Plain
kind_or_plain (Some record_) = kind_of_catalog record_.kind

-- the same of the data's bytes
abbrev pub catalog_kind : List ℕ → Kind
catalog_kind bytes = kind_or_plain (db_record_in bytes)

-- what a catalog record's data makes an index of, where it is an index's: the number of the primary, and the key
abbrev pub index_or_none : Option DbRecord → Option (ℕ × Extract)
index_or_none None = None
index_or_none (Some record_) = index_of_catalog record_.kind

-- the same of the data's bytes
abbrev pub catalog_index : List ℕ → Option (ℕ × Extract)
catalog_index bytes = index_or_none (db_record_in bytes)

-- the catalog's record of a number
abbrev pub row_numbered : ℕ → List Row → Option Row
row_numbered number catalog = find (λ r. catalog_number r.1 == number) catalog

-- whether it is one of a plain database
abbrev pub is_plain_row : Option Row → Bool
is_plain_row None = false
is_plain_row (Some row) = is_primary_record (db_record_in row.1)

-- whether the primary of an index is a plain database of the catalog; a record that is no index's has none
abbrev pub has_primary : List Row → Option (ℕ × Extract) → Bool
has_primary catalog None = true
has_primary catalog (Some made) = is_plain_row (row_numbered made.0 catalog)

-- whether it is made of the database of a number, and whether a record of a catalog is
abbrev pub is_made_of : ℕ → Option (ℕ × Extract) → Bool
is_made_of number None = false
is_made_of number (Some made) = made.0 == number

abbrev pub is_indexed : List Row → ℕ → Bool
is_indexed catalog number = list_any (λ r. is_made_of number (catalog_index r.1)) catalog

-- whether a catalog record is right: the key is a database's name, the dup is empty, and the data has a number
abbrev pub is_catalog_row : Row → Bool
is_catalog_row row = is_word row.0.key && (length row.0.dup == 0) && not (catalog_number row.1 == 0)

-- whether no number stands twice
abbrev pub are_distinct : List ℕ → Bool
are_distinct [] = true
are_distinct (n ∷ ns) = not (list_any (λ m. m == n) ns) && are_distinct ns

-- whether a record is right in a database of a kind: in a plain one its dup is empty; in one of sorted duplicates its data is empty, and
-- its dup, which is the data of the pair, is within its limit
abbrev pub is_right_row : Kind → Row → Bool
is_right_row Plain row = length row.0.dup == 0
is_right_row Dup row = (length row.1 == 0) && nat_le (length row.0.dup) DUP_LIMIT

-- whether all records are
abbrev pub are_right : Kind → List Row → Bool
are_right kind rows = list_all (is_right_row kind) rows

-- the records of the database that a catalog record names
abbrev pub rows_of_row : Rows → Row → List Row
rows_of_row rows row = rows (catalog_number row.1)

-- the numbers that the catalog has, in order of the names
abbrev pub numbers_of : Rows → List ℕ
numbers_of rows = map (λ r. catalog_number r.1) (rows 0)

-- whether records are those of an environment: the catalog's are right and have numbers of their own, each database's
-- are right, there are no more databases than there may be, and the primary of each index is there
abbrev pub is_environment : Rows → Bool
is_environment rows =
    list_all is_catalog_row (rows 0) && are_distinct (numbers_of rows) && list_all (λ r. are_right (catalog_kind r.1) (rows_of_row rows r)) (rows 0)
    && nat_le (length (rows 0)) MOST_DATABASES && list_all (λ r. has_primary (rows 0) (catalog_index r.1)) (rows 0)

-- a record as a pair of key and data: in a database of sorted duplicates its dup is the data
abbrev pub pair_of : Kind → Row → List ℕ × List ℕ
pair_of Plain row = (row.0.key, row.1)
pair_of Dup row = (row.0.key, row.0.dup)

-- what an index is made of, by the catalog's record of its primary
abbrev pub index_over : Extract → Row → Index
index_over extract row = record { primary = row.0.key; extract = extract }

-- the index with that key of the primary with that number, if the catalog has it
abbrev pub index_in : List Row → Option (ℕ × Extract) → Option Index
index_in catalog None = None
index_in catalog (Some made) = option_map (index_over made.1) (row_numbered made.0 catalog)

-- the database that a catalog record names, with the records under its number, where these are the catalog's records
abbrev pub database_by : List Row → Rows → Row → Database
database_by catalog rows row = record {
  name = row.0.key;
  kind = catalog_kind row.1;
  index = index_in catalog (catalog_index row.1);
  pairs = map (pair_of (catalog_kind row.1)) (rows_of_row rows row);
}

-- the store whose databases are those that a catalog names, with the records under their numbers
abbrev pub store_by : List Row → Rows → Store
store_by catalog rows = record { databases = map (database_by catalog rows) (rows 0) }

-- the database that one of its own catalog's records names
abbrev pub database_in : Rows → Row → Database
database_in rows row = database_by (rows 0) rows row

-- the store that records make
abbrev pub store_of : Rows → Store
store_of rows = store_by (rows 0) rows
