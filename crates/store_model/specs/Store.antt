-- A store (Getting Started Guide, "Databases" and "Database Records"), and how it changes.
use Rattle.std.specs.Prelude.{ℕ, ◌++◌, ◌∷◌, [], List, Option, None, Some, not, filter, map, find, option_map, sum_by, length, if◌then◌else◌}
use Rattle.std.specs.List.{AllByRecursion}
use Rattle.std.specs.List.Sorted.{IsStrictlySortedBy}
use Rattle.std.specs.Ordering.{is_eq, is_lt, is_gt, on}
use Rattle.je_order.specs.Order.{bytes_cmp, name_cmp, is_same_bytes}
use Rattle.je_order.specs.declared.name.Name.{Name}
use Rattle.store_model.specs.declared.store.Store.{Store}
use Rattle.store_model.specs.declared.store.Database.{Database}
use Rattle.store_model.specs.declared.index.Index.{Index}
use Rattle.store_model.specs.declared.kind.Kind.{Kind}
use Rattle.store_model.specs.declared.kind.Kind.TheVariants.{Plain, Dup}
use Rattle.store_model.specs.declared.record_change.RecordChange.{RecordChange}
use Rattle.store_model.specs.declared.record_change.RecordChange.TheVariants.{Set as SetRecord, Unset as UnsetRecord}
use Rattle.store_model.specs.declared.change.Change.{Change}
use Rattle.store_model.specs.declared.change.Change.TheVariants.{Set, Unset, Make, MakeIndex, Remove, Rename, Empty}

-- the store of a new environment
abbrev pub no_databases : Store
no_databases = record { databases = [] }

-- a record, as its key and its data
abbrev pub Pair : Type 0
Pair = List ℕ × List ℕ

-- a name of these two parts
abbrev pub named : List ℕ → List ℕ → Name
named key dup = record { key = key; dup = dup }

-- a record's name: its key alone in a plain database, and its data beside it where there are duplicates
abbrev pub name_of : Kind → Pair → Name
name_of Plain p = named p.0 []
name_of Dup p = named p.0 p.1

-- the name of that kind that a name is for
abbrev pub proper : Kind → Name → Name
proper Plain at = named at.key []
proper Dup at = at

-- the record of a name that is set to data
abbrev pub pair_for : Kind → Name → List ℕ → Pair
pair_for Plain at value = (at.key, value)
pair_for Dup at value = (at.key, at.dup)

-- names rise: the records stand in name order, and no name stands twice
abbrev pub HasRisingNames : Kind → List Pair → Type 0
HasRisingNames kind pairs = IsStrictlySortedBy (on (name_of kind) name_cmp) pairs

-- a right store: its databases stand in byte order of their names, no name stands twice, and the names of records rise in each
pub record IsStore (store : Store) : Type 0 where
  pub names : IsStrictlySortedBy (on (λ (d : Database). d.name) bytes_cmp) store.databases
  pub records : AllByRecursion (λ d. HasRisingNames d.kind d.pairs) store.databases

-- the database of that name
abbrev pub database_of : List ℕ → Store → Option Database
database_of name store = find (λ d. is_same_bytes d.name name) store.databases

-- the first record of that key
abbrev pub pair_at : List ℕ → List Pair → Option Pair
pair_at key pairs = find (λ p. is_same_bytes p.0 key) pairs

-- the records with a name set to data
abbrev pub pairs_with : Kind → Name → List ℕ → List Pair → List Pair
pairs_with kind at value pairs =
    filter (λ p. is_lt (name_cmp (name_of kind p) (proper kind at))) pairs
    ++ pair_for kind at value ∷ filter (λ p. is_gt (name_cmp (name_of kind p) (proper kind at))) pairs

-- the records without a name
abbrev pub pairs_without : Kind → Name → List Pair → List Pair
pairs_without kind at pairs = filter (λ p. not (is_eq (name_cmp (name_of kind p) (proper kind at)))) pairs

-- the records after a change
abbrev pub pairs_changed : Kind → RecordChange → List Pair → List Pair
pairs_changed kind (SetRecord at value) pairs = pairs_with kind at value pairs
pairs_changed kind (UnsetRecord at) pairs = pairs_without kind at pairs

-- the records after several changes, in order
abbrev pub all_pairs_changed : Kind → List RecordChange → List Pair → List Pair
all_pairs_changed kind [] pairs = pairs
all_pairs_changed kind (change ∷ changes) pairs = all_pairs_changed kind changes (pairs_changed kind change pairs)

-- a database with other records
abbrev pub with_pairs : Database → List Pair → Database
with_pairs d pairs = record { name = d.name; kind = d.kind; index = d.index; pairs = pairs }

-- a database under another name
abbrev pub with_name : Database → List ℕ → Database
with_name d name = record { name = name; kind = d.kind; index = d.index; pairs = d.pairs }

-- an index whose primary, if it is the one of that name, has another name
abbrev pub index_renamed : List ℕ → List ℕ → Index → Index
index_renamed db to index = record { primary = if is_same_bytes index.primary db then to else index.primary; extract = index.extract }

-- a database whose index, if it has one of the primary of that name, names the primary anew
abbrev pub with_primary : List ℕ → List ℕ → Database → Database
with_primary db to d = record { name = d.name; kind = d.kind; index = option_map (index_renamed db to) d.index; pairs = d.pairs }

-- an empty database
abbrev pub new_database : List ℕ → Kind → Option Index → Database
new_database name kind index = record { name = name; kind = kind; index = index; pairs = [] }

-- the databases, with the one of that name changed
abbrev pub in_database : List ℕ → (Database → Database) → List Database → List Database
in_database name change databases = map (λ d. if is_same_bytes d.name name then change d else d) databases

-- the databases and one more, in order of the names
abbrev pub databases_with : Database → List Database → List Database
databases_with new databases =
    filter (λ d. is_lt (bytes_cmp d.name new.name)) databases ++ new ∷ filter (λ d. is_gt (bytes_cmp d.name new.name)) databases

-- the databases without the one of that name
abbrev pub databases_without : List ℕ → List Database → List Database
databases_without name databases = filter (λ d. not (is_same_bytes d.name name)) databases

-- the databases with one of them, if it is there, under another name, by which its indexes know it then
abbrev pub databases_renamed : Option Database → List ℕ → List Database → List Database
databases_renamed None to databases = databases
databases_renamed (Some d) to databases = map (with_primary d.name to) (databases_with (with_name d to) (databases_without d.name databases))

-- the names of a store's databases, in order
abbrev pub names_of : Store → List (List ℕ)
names_of store = map (λ d. d.name) store.databases

-- the store after a change
abbrev pub changed : Change → Store → Store
changed (Set db at value) store = record { databases = in_database db (λ d. with_pairs d (pairs_with d.kind at value d.pairs)) store.databases }
changed (Unset db at) store = record { databases = in_database db (λ d. with_pairs d (pairs_without d.kind at d.pairs)) store.databases }
changed (Make db kind) store = record { databases = databases_with (new_database db kind None) store.databases }
changed (MakeIndex db index) store = record { databases = databases_with (new_database db Dup (Some index)) store.databases }
changed (Remove db) store = record { databases = databases_without db store.databases }
changed (Rename db to) store = record { databases = databases_renamed (database_of db store) to store.databases }
changed (Empty db) store = record { databases = in_database db (λ d. with_pairs d []) store.databases }

-- the name that a change of records is of, and the data that it leaves there, if any
abbrev pub changed_name : RecordChange → Name
changed_name (SetRecord at value) = at
changed_name (UnsetRecord at) = at

-- the data that a change of records leaves, if it leaves a record
abbrev pub data_after : RecordChange → Option (List ℕ)
data_after (SetRecord at value) = Some value
data_after (UnsetRecord at) = None

-- a change of records as one of a database
abbrev pub change_in : List ℕ → RecordChange → Change
change_in db (SetRecord at value) = Set db at value
change_in db (UnsetRecord at) = Unset db at

-- the store after several changes, in order
abbrev pub all_changed : List Change → Store → Store
all_changed [] store = store
all_changed (change ∷ changes) store = all_changed changes (changed change store)

-- the store after transactions, each the list of its changes, in order
abbrev pub store_after : Store → List (List Change) → Store
store_after base [] = base
store_after base (changes ∷ transactions) = store_after (all_changed changes base) transactions

-- how many records a store has
abbrev pub record_count : Store → ℕ
record_count store = sum_by (λ d. length d.pairs) store.databases

-- a new environment has a right store, and every change leaves a right one right
abbrev pub StoresStayRight : Type 0
StoresStayRight = IsStore no_databases × ((change : Change) (store : Store) → IsStore store → IsStore (changed change store))
