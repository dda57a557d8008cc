-- What a call on the catalog comes to, and the catalog's records that a change logs.
use Rattle.std.specs.Prelude.{ℕ, ◌≡◌, ◌∷◌, [], List, Option, Some, None, Bool, true, false, length, take, if◌then◌else◌}
use Rattle.std.specs.Option.{is_some}
use Rattle.std.specs.List.{list_any}
use Rattle.store_model.specs.declared.store.Store.{Store}
use Rattle.store_model.specs.declared.store.Database.{Database}
use Rattle.store_model.specs.declared.kind.Kind.{Kind}
use Rattle.store_model.specs.declared.kind.Kind.TheVariants.{Plain, Dup}
use Rattle.store_model.specs.declared.call.Call.{Call}
use Rattle.store_model.specs.declared.call.Call.TheVariants.{Create, CreateIndex, List as Lists, Remove as Removes, Rename as Renames, Truncate}
use Rattle.store_model.specs.declared.change.Change.{Change}
use Rattle.store_model.specs.declared.change.Change.TheVariants.{Set, Unset, Make, MakeIndex, Remove, Rename, Empty}
use Rattle.store_model.specs.declared.index.Index.{Index}
use Rattle.store_model.specs.declared.extract.Extract.{Extract}
use Rattle.store_model.specs.declared.extract.Extract.TheVariants.{ByteSlice, Field}
use Rattle.store_model.specs.declared.answer.Answer.{Answer}
use Rattle.store_model.specs.declared.answer.Answer.TheVariants.{NoDatabase, ReadOnlyIndex}
use Rattle.store_model.specs.Store.{database_of}
use Rattle.store_model.specs.Indexes.{is_index_of}
use Rattle.store_model.specs.Evaluation.{Outcome, answers, changes_by, evaluation}
use Rattle.store_model.specs.Refusals.{or_refusal, creation_refusal, access_refusal, taken_refusal, indexed_refusal, is_primary}
use Rattle.db_catalog.specs.declared.db_record.DbRecord.{DbRecord}
use Rattle.db_catalog.specs.declared.db_kind.DbKind.{DbKind}
use Rattle.db_catalog.specs.declared.db_kind.DbKind.TheVariants.{Plain as PlainRecord, Dup as DupRecord, SliceIndex, FieldIndex}
use Rattle.db_catalog.specs.declared.found_db.FoundDb.{FoundDb}
use Rattle.db_catalog.specs.declared.catalog_change.CatalogChange.{CatalogChange}
use Rattle.db_catalog.specs.declared.catalog_change.CatalogChange.TheVariants.{Put, Delete}

-- the calls that change the catalog's records alone, or none
abbrev pub is_catalog_call : Call → Bool
is_catalog_call (Create db kind) = true
is_catalog_call Lists = true
is_catalog_call (Removes db) = true
is_catalog_call (Renames db to) = true
is_catalog_call (Truncate db) = true
is_catalog_call call = false

-- a refusal is the answer, and nothing changes
abbrev pub outcome_unless : Option Answer → Outcome → Outcome
outcome_unless None outcome = outcome
outcome_unless (Some refusal) outcome = answers refusal

-- the database is not there, or the one that an index is to be of
abbrev pub there_refusal : Call → Store → Option Answer
there_refusal (CreateIndex db index) store = access_refusal (is_primary (database_of index.primary store))
there_refusal (Removes db) store = access_refusal (is_some (database_of db store))
there_refusal (Renames db to) store = access_refusal (is_some (database_of db store))
there_refusal (Truncate db) store = access_refusal (is_some (database_of db store))
there_refusal call store = None

-- a name is taken, the database has indexes, or there are too many databases
abbrev pub name_refusal : Call → Store → Option Answer
name_refusal (Create db kind) store = creation_refusal (is_some (database_of db store)) (length store.databases)
name_refusal (CreateIndex db index) store = creation_refusal (is_some (database_of db store)) (length store.databases)
name_refusal (Removes db) store = indexed_refusal (list_any (is_index_of db) store.databases)
name_refusal (Truncate db) store = indexed_refusal (list_any (is_index_of db) store.databases)
name_refusal (Renames db to) store = taken_refusal (is_some (database_of to store))
name_refusal call store = None

-- what a call comes to on a store: the catalog's refusal, else what it evaluates to
abbrev pub outcome_of : Call → Store → Outcome
outcome_of call store = outcome_unless (or_refusal (there_refusal call store) (name_refusal call store)) (evaluation call store)

-- what a call comes to in the catalog: an index is made there, and the pairs that fill it come behind that
abbrev pub catalog_part : Outcome → Outcome
catalog_part outcome = record { answer = outcome.answer; changes = take 1 outcome.changes }

-- ---- databases as the catalog has them

-- a kind as the catalog has it
abbrev pub kind_in_catalog : Kind → DbKind
kind_in_catalog Plain = PlainRecord
kind_in_catalog Dup = DupRecord

-- an index as the catalog has it, by the number of its primary
abbrev pub index_in_catalog : ℕ → Extract → DbKind
index_in_catalog primary (ByteSlice offset len) = SliceIndex primary offset len
index_in_catalog primary (Field number separator) = FieldIndex primary number separator

-- the number of a record, 0 where there is none
abbrev pub number_in_record : Option DbRecord → ℕ
number_in_record None = 0
number_in_record (Some r) = r.number

-- a database as the catalog has it: by its kind, and an index by the number that the catalog has for its primary
abbrev pub database_in_catalog : (List ℕ → Option DbRecord) → Kind → Option Index → DbKind
database_in_catalog record_of kind None = kind_in_catalog kind
database_in_catalog record_of kind (Some index) = index_in_catalog (number_in_record (record_of index.primary)) index.extract

-- the kind that the catalog has; an index keeps sorted duplicates
abbrev pub kind_of_catalog : DbKind → Kind
kind_of_catalog PlainRecord = Plain
kind_of_catalog DupRecord = Dup
kind_of_catalog (SliceIndex primary offset len) = Dup
kind_of_catalog (FieldIndex primary number separator) = Dup

-- what a record's database is an index of: the number of its primary, and the key that it has for each record
abbrev pub index_of_catalog : DbKind → Option (ℕ × Extract)
index_of_catalog PlainRecord = None
index_of_catalog DupRecord = None
index_of_catalog (SliceIndex primary offset len) = Some (primary, ByteSlice offset len)
index_of_catalog (FieldIndex primary number separator) = Some (primary, Field number separator)

-- whether an index may be of the database of a record
abbrev pub is_plain_record : DbKind → Bool
is_plain_record PlainRecord = true
is_plain_record kind = false

-- whether the catalog has a record for a name, and it is a plain database's
abbrev pub is_primary_record : Option DbRecord → Bool
is_primary_record None = false
is_primary_record (Some r) = is_plain_record r.kind

-- an index has sorted duplicates
abbrev pub HasIndexKind : Kind → Option Index → Type 0
HasIndexKind kind None = Unit {0}
HasIndexKind kind (Some index) = kind ≡ Dup

-- the record that a catalog has for a database: of its kind, under some number; none where there is no database
abbrev pub IsRecordOf : (List ℕ → Option DbRecord) → Option Database → Option DbRecord → Type 0
IsRecordOf record_of None found = found ≡ None
IsRecordOf record_of (Some d) found =
    (number : ℕ) × HasIndexKind d.kind d.index × (found ≡ Some (record { number = number; kind = database_in_catalog record_of d.kind d.index }))

-- what a planner of records asks first: whether a database is there, and its number and kind
abbrev pub IsFoundAs : Option Database → Option FoundDb → Type 0
IsFoundAs None found = found ≡ None
IsFoundAs (Some d) found = (number : ℕ) × (found ≡ Some (record { number = number; kind = d.kind }))

-- the same from the catalog's record
abbrev pub found_in : Option DbRecord → Option FoundDb
found_in None = None
found_in (Some r) = Some (record { number = r.number; kind = kind_of_catalog r.kind })

-- a catalog has a record for each database of the store, of its kind, and no other
abbrev pub IsCatalogOf : Store → (List ℕ → Option DbRecord) → Type 0
IsCatalogOf store record_of = (name : List ℕ) → IsRecordOf record_of (database_of name store) (record_of name)

-- ---- plans

-- what a truncation comes to, by the catalog's record of its database and whether that has indexes
abbrev pub truncation : List ℕ → Option DbRecord → Bool → Outcome
truncation db None indexed = answers NoDatabase
truncation db (Some r) indexed = outcome_unless (indexed_refusal indexed) (if is_some (index_of_catalog r.kind) then answers ReadOnlyIndex else changes_by (Empty db))

-- what the making of an index comes to in the catalog, by the record of its primary, whether its name is taken, and how many databases there are
abbrev pub index_creation : List ℕ → Index → Option DbRecord → Bool → ℕ → Outcome
index_creation db index primary taken count =
    outcome_unless (or_refusal (access_refusal (is_primary_record primary)) (creation_refusal taken count)) (changes_by (MakeIndex db index))

-- ---- what logs a change

-- a record with another number
abbrev pub renumbered : ℕ → DbRecord → DbRecord
renumbered number r = record { number = number; kind = r.kind }

-- a renamed database's record stands under its new name
abbrev pub moved : List ℕ → List ℕ → Option DbRecord → List CatalogChange
moved db to None = []
moved db to (Some r) = Delete db ∷ Put to r ∷ []

-- an emptied database goes on under a new number
abbrev pub renewed : List ℕ → ℕ → Option DbRecord → List CatalogChange
renewed db number None = []
renewed db number (Some r) = Put db (renumbered number r) ∷ []

-- an index that is made names its primary by the number of that one's record
abbrev pub indexed : List ℕ → ℕ → Extract → Option DbRecord → List CatalogChange
indexed db number extract None = []
indexed db number extract (Some primary) = Put db (record { number = number; kind = index_in_catalog primary.number extract }) ∷ []

-- the changes of the catalog's records that log a change, in order; `record_of` is the record of a name, and a database that
-- is made or emptied gets the number
abbrev pub logged_as : (List ℕ → Option DbRecord) → ℕ → Change → List CatalogChange
logged_as record_of number (Set db at value) = []
logged_as record_of number (Unset db at) = []
logged_as record_of number (Make db kind) = Put db (record { number = number; kind = kind_in_catalog kind }) ∷ []
logged_as record_of number (MakeIndex db index) = indexed db number index.extract (record_of index.primary)
logged_as record_of number (Remove db) = Delete db ∷ []
logged_as record_of number (Rename db to) = moved db to (record_of db)
logged_as record_of number (Empty db) = renewed db number (record_of db)

-- the same for a change that a call makes on a store: an index's record has the number of its primary, which is there; a renamed database's
-- record goes, and comes under the new name with the number that it had; an emptied one's comes with the number; both have the database's kind
abbrev pub IsCatalogLog : Store → (List ℕ → Option DbRecord) → ℕ → Change → List CatalogChange → Type 0
IsCatalogLog store record_of number (Set db at value) logged = logged ≡ []
IsCatalogLog store record_of number (Unset db at) logged = logged ≡ []
IsCatalogLog store record_of number (Make db kind) logged = logged ≡ Put db (record { number = number; kind = kind_in_catalog kind }) ∷ []
IsCatalogLog store record_of number (MakeIndex db index) logged =
    (d : Database) × (database_of index.primary store ≡ Some d)
    × (logged ≡ Put db (record { number = number; kind = database_in_catalog record_of Dup (Some index) }) ∷ [])
IsCatalogLog store record_of number (Remove db) logged = logged ≡ Delete db ∷ []
IsCatalogLog store record_of number (Rename db to) logged =
    (d : Database) × (old : ℕ) × (database_of db store ≡ Some d) × (logged ≡ Delete db ∷ Put to (record { number = old; kind = database_in_catalog record_of d.kind d.index }) ∷ [])
IsCatalogLog store record_of number (Empty db) logged =
    (d : Database) × (database_of db store ≡ Some d) × (logged ≡ Put db (record { number = number; kind = database_in_catalog record_of d.kind d.index }) ∷ [])
