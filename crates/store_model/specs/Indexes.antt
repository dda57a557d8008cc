-- Indexes (Getting Started Guide, "Secondary Databases"): the key that an index has for a record, its pairs, and what a change of a record changes in
-- them.
use Rattle.std.specs.Prelude.{ℕ, ◌≡◌, ◌+◌, ◌==◌, ◌++◌, ◌∷◌, [], List, Option, None, Some, Bool, false, nat_le, nat_lt, take, drop, length, map, filter, option_map, unwrap_or, if◌then◌else◌}
use Rattle.std.specs.List.{AllByRecursion, flat_map, slice_get}
use Rattle.std.specs.Option.{option_map_or}
use Rattle.je_order.specs.Order.{is_same_bytes}
use Rattle.je_order.specs.declared.limits.TheConstants.{KEY_LIMIT}
use Rattle.store_model.specs.declared.store.Store.{Store}
use Rattle.store_model.specs.declared.store.Database.{Database}
use Rattle.store_model.specs.declared.kind.Kind.TheVariants.{Plain, Dup}
use Rattle.store_model.specs.declared.extract.Extract.{Extract}
use Rattle.store_model.specs.declared.extract.Extract.TheVariants.{ByteSlice, Field}
use Rattle.store_model.specs.declared.index.Index.{Index}
use Rattle.store_model.specs.declared.answer.Answer.{Answer}
use Rattle.store_model.specs.declared.answer.Answer.TheVariants.{Rec, IndexRec}
use Rattle.store_model.specs.declared.change.Change.{Change}
use Rattle.store_model.specs.declared.change.Change.TheVariants.{MakeIndex}
use Rattle.store_model.specs.declared.record_change.RecordChange.{RecordChange}
use Rattle.store_model.specs.declared.record_change.RecordChange.TheVariants.{Set, Unset}
use Rattle.store_model.specs.Store.{Pair, named, pair_at, database_of, HasRisingNames, pairs_changed, all_pairs_changed, changed_name, data_after}

-- ---- the key of a record

-- data cut at each separator
abbrev pub in_front : ℕ → List (List ℕ) → List (List ℕ)
in_front byte [] = (byte ∷ []) ∷ []
in_front byte (field ∷ fields) = (byte ∷ field) ∷ fields

-- data as the fields between its separators; without one it is one field
abbrev pub fields_of : ℕ → List ℕ → List (List ℕ)
fields_of separator [] = [] ∷ []
fields_of separator (byte ∷ bytes) = if byte == separator then [] ∷ fields_of separator bytes else in_front byte (fields_of separator bytes)

-- the key of a record with this data, if it has one
abbrev pub key_in : Extract → List ℕ → Option (List ℕ)
key_in (ByteSlice offset len) value = if nat_le (offset + len) (length value) then Some (take len (drop offset value)) else None
key_in (Field number separator) value = option_map (take KEY_LIMIT) (slice_get (fields_of separator value) number)

-- the same of a record that may be missing
abbrev pub key_of : Extract → Option (List ℕ) → Option (List ℕ)
key_of extract None = None
key_of extract (Some value) = key_in extract value

-- ---- pairs

-- the pair of a key and a record's own key goes, or comes
abbrev pub taken_out : List ℕ → Option (List ℕ) → List RecordChange
taken_out primary_key None = []
taken_out primary_key (Some key) = Unset (named key primary_key) ∷ []

-- the pair of a key and a record's own key comes, if there is a key
abbrev pub put_in : List ℕ → Option (List ℕ) → List RecordChange
put_in primary_key None = []
put_in primary_key (Some key) = Set (named key primary_key) [] ∷ []

-- the pairs of these records: one for each that has a key, in order
abbrev pub pairs_put : Extract → List Pair → List RecordChange
pairs_put extract records = flat_map (λ p. put_in p.0 (key_in extract p.1)) records

-- the pairs that an index of these records has, in name order
abbrev pub index_pairs : Extract → List Pair → List Pair
index_pairs extract records = all_pairs_changed Dup (pairs_put extract records) []

-- what a record's change changes in them: the old pair goes and the new one comes, unless they are the same
abbrev pub is_same_key : Option (List ℕ) → Option (List ℕ) → Bool
is_same_key (Some key) (Some other) = is_same_bytes key other
is_same_key key other = false

-- the changes of an index as a record's key goes from one to another
abbrev pub keys_changed : List ℕ → Option (List ℕ) → Option (List ℕ) → List RecordChange
keys_changed primary_key old new = if is_same_key old new then [] else taken_out primary_key old ++ put_in primary_key new

-- the changes of an index as a record's data goes from one to another; none where it had or has no record
abbrev pub index_changes : Extract → List ℕ → Option (List ℕ) → Option (List ℕ) → List RecordChange
index_changes extract primary_key old new = keys_changed primary_key (key_of extract old) (key_of extract new)

-- the data of a key
abbrev pub data_under : List ℕ → List Pair → Option (List ℕ)
data_under key records = option_map (λ p. p.1) (pair_at key records)

-- what a change of a record changes in an index of its database
abbrev pub changes_in : Option Index → List Pair → RecordChange → List RecordChange
changes_in None records change = []
changes_in (Some index) records change =
    let key = (changed_name change).key in index_changes index.extract key (data_under key records) (data_after change)

-- the pairs of the records, with what comes with a change of a record, are the pairs of the records after it
abbrev pub IndexesKeepUp : Type 0
IndexesKeepUp = (index : Index) (records : List Pair) (change : RecordChange) → HasRisingNames Plain records →
    all_pairs_changed Dup (changes_in (Some index) records change) (index_pairs index.extract records) ≡ index_pairs index.extract (pairs_changed Plain change records)

-- ---- the indexes of a store

-- a database is made of the records of another one, which is plain and no index
abbrev pub IsMadeFrom : Option Database → Extract → List Pair → Type 0
IsMadeFrom None extract pairs = ⊥
IsMadeFrom (Some primary) extract pairs = (primary.kind ≡ Plain) × (primary.index ≡ None) × (pairs ≡ index_pairs extract primary.pairs)

-- a database that is an index has sorted duplicates, and the pairs of its primary's records
abbrev pub IsIndex : Store → Database → Option Index → Type 0
IsIndex store d None = Unit {0}
IsIndex store d (Some index) = (d.kind ≡ Dup) × IsMadeFrom (database_of index.primary store) index.extract d.pairs

-- each index of a store has the pairs of its primary's records
abbrev pub AreIndexed : Store → Type 0
AreIndexed store = AllByRecursion (λ d. IsIndex store d d.index) store.databases

-- a store without indexes, and the changes that make none
abbrev pub HasNoIndex : Store → Type 0
HasNoIndex store = AllByRecursion (λ d. d.index ≡ None) store.databases

abbrev pub MakesNoIndex : Change → Type 0
MakesNoIndex (MakeIndex db index) = ⊥
MakesNoIndex change = Unit {0}

-- a database with its number
abbrev pub Numbered : Type 0
Numbered = ℕ × Database

-- a database put among others in the order of their numbers
abbrev pub with_among : Numbered → List Numbered → List Numbered
with_among d [] = d ∷ []
with_among d (e ∷ es) = if nat_lt d.0 e.0 then d ∷ e ∷ es else e ∷ with_among d es

-- databases with their numbers, in the order of these
abbrev pub by_number : (List ℕ → ℕ) → List Database → List Numbered
by_number numbers [] = []
by_number numbers (d ∷ ds) = with_among (numbers d.name, d) (by_number numbers ds)

-- the indexes of the database of a name, in the order of their numbers
abbrev pub is_index_of : List ℕ → Database → Bool
is_index_of name d = option_map_or (λ index. is_same_bytes index.primary name) d.index false

-- the indexes of the database of a name, in the order of their numbers
abbrev pub indexes_of : (List ℕ → ℕ) → Store → List ℕ → List Numbered
indexes_of numbers store name = by_number numbers (filter (is_index_of name) store.databases)

-- the primary of an index
abbrev pub primary_of : (List ℕ → ℕ) → Store → Option Index → Option Numbered
primary_of numbers store None = None
primary_of numbers store (Some index) = option_map (λ primary. (numbers index.primary, primary)) (database_of index.primary store)

-- the name of the database whose records a database has: an index has those of its primary
abbrev pub records_name : Database → List ℕ
records_name d = option_map_or (λ index. index.primary) d.index d.name

-- ---- what a call comes to where there are indexes; `see` gives the records of a database as the caller sees them

-- a change of a record, and what it changes in the indexes, one after another
abbrev pub with_indexes : Numbered → List Numbered → List Pair → RecordChange → List (Numbered × RecordChange)
with_indexes d indexes records change = (d, change) ∷ flat_map (λ i. map (λ c. (i, c)) (changes_in i.1.index records change)) indexes

-- a change through an index is one of the primary's record, which is taken out
abbrev pub changed_database : Option Numbered → Numbered → Numbered
changed_database over d = unwrap_or over d

-- a change as it is made in the primary: one through an index takes the primary's record out
abbrev pub changed_through : Option Numbered → RecordChange → RecordChange
changed_through None change = change
changed_through (Some primary) change = Unset (named (changed_name change).dup [])

-- all changes that come with changes in a database, or through an index
abbrev pub all_changes : Option Numbered → Numbered → List Numbered → (Numbered → List Pair) → List RecordChange → List (Numbered × RecordChange)
all_changes over d indexes see changes =
    let changing = changed_database over d in
    flat_map (λ c. with_indexes changing indexes (see changing) (changed_through over c)) changes

-- an index answers the record's own key, and its data
abbrev pub index_answer : Numbered → (Numbered → List Pair) → Answer → Answer
index_answer primary see (Rec key primary_key) = IndexRec key primary_key (unwrap_or (data_under primary_key (see primary)) [])
index_answer primary see answer = answer

-- an answer as the caller gets it: by an index, the record's own key and its data
abbrev pub answer_through : Option Numbered → (Numbered → List Pair) → Answer → Answer
answer_through None see answer = answer
answer_through (Some primary) see answer = index_answer primary see answer
