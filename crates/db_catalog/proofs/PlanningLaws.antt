-- What a change that a call makes logs in the catalog.
use Rattle.std.proofs.Common.{◌≡◌, ℕ, List, [], ◌∷◌, Bool, true, false, cond, length, ◌&&◌, Option, Some, None, Result, Ok, Err, IfOk, refl, sym, ap, subst, ◌∙◌}
use Rattle.std.specs.Prelude.{is_some}
use Rattle.std.specs.Option.{is_none}
use Rattle.std.specs.List.{list_any}
use Rattle.std.specs.declared.alloc.AllocError.{AllocError}
use Rattle.store_model.specs.declared.store.Store.{Store}
use Rattle.store_model.specs.declared.store.Database.{Database}
use Rattle.store_model.specs.declared.call.Call.{Call}
use Rattle.store_model.specs.declared.call.Call.TheVariants.{Begin, Commit, Abort, Create, CreateIndex, List as Lists, Remove as Removes, Rename as Renames, Truncate, Get, GetBoth, Put as Puts, Delete as Deletes, Open, Close, Dup as Duplicate, Count, Cur, CPutCur, CDel, CPut}
use Rattle.store_model.specs.declared.change.Change.{Change}
use Rattle.store_model.specs.declared.change.Change.TheVariants.{Set, Unset, Make, MakeIndex, Remove, Rename, Empty}
use Rattle.store_model.specs.declared.answer.Answer.{Answer}
use Rattle.store_model.specs.declared.answer.Answer.TheVariants.{ReadOnlyIndex}
use Rattle.store_model.specs.Store.{database_of, pair_at}
use Rattle.store_model.specs.declared.put_mode.PutMode.{PutMode}
use Rattle.store_model.specs.declared.put_mode.PutMode.TheVariants.{Overwrite, NoOverwrite, NoDupData}
use Rattle.store_model.specs.Evaluation.{Outcome, answers, changes_by, evaluation, evaluation_in, database_named, putting, reading, deleting, indexing, emptying}
use Rattle.store_model.specs.Refusals.{or_refusal, creation_refusal, access_refusal, indexed_refusal, is_plain, is_primary}
use Rattle.store_model.specs.Indexes.{is_index_of}
use Rattle.store_model.specs.declared.index.Index.{Index}
use Rattle.store_model.specs.declared.extract.Extract.{Extract}
use Rattle.store_model.specs.declared.extract.Extract.TheVariants.{ByteSlice, Field}
use Rattle.db_catalog.specs.declared.db_record.DbRecord.{DbRecord}
use Rattle.db_catalog.specs.Planning.{there_refusal, name_refusal, outcome_of, outcome_unless, catalog_part, truncation, index_creation, is_plain_record, is_primary_record, index_in_catalog, number_in_record, database_in_catalog, kind_of_catalog, index_of_catalog, HasIndexKind, logged_as, moved, renewed, indexed, found_in, IsRecordOf, IsFoundAs, IsCatalogOf, IsCatalogLog}
use Rattle.db_catalog.specs.declared.found_db.FoundDb.{FoundDb}
use Rattle.db_catalog.specs.declared.catalog_change.CatalogChange.{CatalogChange}
use Rattle.db_catalog.specs.declared.catalog_change.CatalogChange.TheVariants.{Put}
use Rattle.store_model.specs.declared.kind.Kind.{Kind}
use Rattle.store_model.specs.declared.kind.Kind.TheVariants.{Plain, Dup}

-- a call that was refused changes nothing
unrefused : (refusal : Option Answer) (outcome : Outcome) (change : Change) (rest : List Change) → (outcome_unless refusal outcome).changes ≡ change ∷ rest → outcome.changes ≡ change ∷ rest
unrefused None outcome change rest h = h
unrefused (Some refusal) outcome change rest h = absurd cc

-- a renamed or emptied database is there
abbrev NamesOneThere : Store → Change → Type 0
NamesOneThere store (MakeIndex db index) = (d : Database) × (database_of index.primary store ≡ Some d)
NamesOneThere store (Rename db to) = (d : Database) × (database_of db store ≡ Some d)
NamesOneThere store (Empty db) = (d : Database) × (database_of db store ≡ Some d)
NamesOneThere store change = Unit {0}

one_is : (made change : Change) (more rest : List Change) → made ∷ more ≡ change ∷ rest → made ≡ change
one_is made change more rest h = cc

one : (store : Store) (made change : Change) {more rest : List Change} → made ∷ more ≡ change ∷ rest → NamesOneThere store made → NamesOneThere store change
one store made change {more} {rest} h there = subst (NamesOneThere store) (one_is made change more rest h) there

-- what a call changes in its database
there_in : (store : Store) (change : Change) (rest : List Change) (call : Call) (o : Option Database) → database_of (database_named call) store ≡ o →
    (evaluation_in call store o).changes ≡ change ∷ rest → NamesOneThere store change
there_in store change rest (Create db kind) o is h = one store (Make db kind) change h tt
there_in store change rest (CreateIndex db index) o is h = by (database_of index.primary store) refl h
  where
    by : (p : Option Database) → database_of index.primary store ≡ p → (indexing db index p).changes ≡ change ∷ rest → NamesOneThere store change
    by None found h = absurd cc
    by (Some primary) found h = one store (MakeIndex db index) change h (primary, found)
there_in store change rest Lists o is h = absurd cc
there_in store change rest (Removes db) None is h = absurd cc
there_in store change rest (Removes db) (Some d) is h = one store (Remove db) change h tt
there_in store change rest (Renames db to) None is h = absurd cc
there_in store change rest (Renames db to) (Some d) is h = one store (Rename db to) change h (d, is)
there_in store change rest (Truncate db) None is h = absurd cc
there_in store change rest (Truncate db) (Some d) is h = by d.index h
  where
    by : (index : Option Index) → (emptying db index).changes ≡ change ∷ rest → NamesOneThere store change
    by None h = one store (Empty db) change h (d, is)
    by (Some index) h = absurd cc
there_in store change rest (Puts db key value mode) None is h = absurd cc
there_in store change rest (Puts db key value mode) (Some d) is h = by mode (pair_at key d.pairs) h
  where
    by : (mode : PutMode) (found : Option (List ℕ × List ℕ)) → (putting mode db key value found).changes ≡ change ∷ rest → NamesOneThere store change
    by Overwrite found h = one store (Set db _ value) change h tt
    by NoOverwrite None h = one store (Set db _ value) change h tt
    by NoOverwrite (Some pair) h = absurd cc
    by NoDupData found h = absurd cc
there_in store change rest (Get db key rmw) None is h = absurd cc
there_in store change rest (Get db key rmw) (Some d) is h = by (pair_at key d.pairs) h
  where
    by : (found : Option (List ℕ × List ℕ)) → (reading found).changes ≡ change ∷ rest → NamesOneThere store change
    by None h = absurd cc
    by (Some pair) h = absurd cc
there_in store change rest (Deletes db key) None is h = absurd cc
there_in store change rest (Deletes db key) (Some d) is h = by (pair_at key d.pairs) h
  where
    by : (found : Option (List ℕ × List ℕ)) → (deleting db key found).changes ≡ change ∷ rest → NamesOneThere store change
    by None h = absurd cc
    by (Some pair) h = one store (Unset db _) change h tt
there_in store change rest (Begin level durability wait) o is h = absurd cc
there_in store change rest Commit o is h = absurd cc
there_in store change rest Abort o is h = absurd cc
there_in store change rest (GetBoth db key value rmw) o is h = absurd cc
there_in store change rest (Open cursor db) o is h = absurd cc
there_in store change rest (Close cursor) o is h = absurd cc
there_in store change rest (Duplicate cursor to) o is h = absurd cc
there_in store change rest (Count cursor) o is h = absurd cc
there_in store change rest (Cur cursor motion rmw) o is h = absurd cc
there_in store change rest (CPutCur cursor value) o is h = absurd cc
there_in store change rest (CDel cursor) o is h = absurd cc
there_in store change rest (CPut cursor key value mode) o is h = absurd cc

there : (store : Store) (change : Change) (rest : List Change) (call : Call) → (outcome_of call store).changes ≡ change ∷ rest → NamesOneThere store change
there store change rest call h =
    there_in store change rest call (database_of (database_named call) store) refl
    (unrefused (or_refusal (there_refusal call store) (name_refusal call store)) (evaluation call store) change rest h)

-- ---- plans

-- whether a record is an index's
emptied_as : (record_of : List ℕ → Option DbRecord) (db : List ℕ) (kind : Kind) (index : Option Index) →
    cond (is_some (index_of_catalog (database_in_catalog record_of kind index))) (answers ReadOnlyIndex) (changes_by (Empty db)) ≡ emptying db index
emptied_as record_of db Plain None = refl
emptied_as record_of db Dup None = refl
emptied_as record_of db kind (Some index) = by index.extract
  where
    by : (extract : Extract) → cond (is_some (index_of_catalog (index_in_catalog (number_in_record (record_of index.primary)) extract))) (answers ReadOnlyIndex) (changes_by (Empty db)) ≡ answers ReadOnlyIndex
    by (ByteSlice offset len) = refl
    by (Field number separator) = refl

-- a truncation by the catalog's record is that of the store
pub truncated : (store : Store) (record_of : List ℕ → Option DbRecord) → IsCatalogOf store record_of → (db : List ℕ) →
    truncation db (record_of db) (list_any (is_index_of db) store.databases) ≡ outcome_of (Truncate db) store
truncated store record_of laws db = by (database_of db store) (laws db)
  where
    indexed_ : Bool
    indexed_ = list_any (is_index_of db) store.databases

    by : (o : Option Database) → IsRecordOf record_of o (record_of db) →
        truncation db (record_of db) indexed_ ≡ outcome_unless (or_refusal (access_refusal (is_some o)) (indexed_refusal indexed_)) (evaluation_in (Truncate db) store o)
    by None is = ap (λ (r : Option DbRecord). truncation db r indexed_) is
    by (Some d) is =
        ap (λ (r : Option DbRecord). truncation db r indexed_) is.2
        ∙ ap (outcome_unless (indexed_refusal indexed_)) (emptied_as record_of db d.kind d.index)

-- an index may be of a database by its record
primary_as : (record_of : List ℕ → Option DbRecord) (kind : Kind) (index : Option Index) → is_plain_record (database_in_catalog record_of kind index) ≡ (is_plain kind && is_none index)
primary_as record_of Plain None = refl
primary_as record_of Dup None = refl
primary_as record_of kind (Some index) = by kind index.extract
  where
    by : (k : Kind) (extract : Extract) → is_plain_record (index_in_catalog (number_in_record (record_of index.primary)) extract) ≡ (is_plain k && false)
    by Plain (ByteSlice offset len) = refl
    by Plain (Field number separator) = refl
    by Dup (ByteSlice offset len) = refl
    by Dup (Field number separator) = refl

-- an index that is made by the catalog's records is that of the store
pub index_made : (store : Store) (record_of : List ℕ → Option DbRecord) → IsCatalogOf store record_of → (db : List ℕ) (index : Index) →
    index_creation db index (record_of index.primary) (is_some (database_of db store)) (length store.databases) ≡ catalog_part (outcome_of (CreateIndex db index) store)
index_made store record_of laws db index = by (database_of index.primary store) (laws index.primary)
  where
    taken : Option Answer
    taken = creation_refusal (is_some (database_of db store)) (length store.databases)

    by_taken : (o : Option Answer) (primary : Database) → outcome_unless o (changes_by (MakeIndex db index)) ≡ catalog_part (outcome_unless o (indexing db index (Some primary)))
    by_taken None primary = refl
    by_taken (Some refusal) primary = refl

    by_primary : (b : Bool) (primary : Database) → outcome_unless (or_refusal (access_refusal b) taken) (changes_by (MakeIndex db index))
        ≡ catalog_part (outcome_unless (or_refusal (access_refusal b) taken) (indexing db index (Some primary)))
    by_primary true primary = by_taken taken primary
    by_primary false primary = refl

    by : (o : Option Database) → IsRecordOf record_of o (record_of index.primary) →
        index_creation db index (record_of index.primary) (is_some (database_of db store)) (length store.databases)
        ≡ catalog_part (outcome_unless (or_refusal (access_refusal (is_primary o)) taken) (indexing db index o))
    by None is = ap (λ (r : Option DbRecord). outcome_unless (or_refusal (access_refusal (is_primary_record r)) taken) (changes_by (MakeIndex db index))) is
    by (Some d) is =
        ap (λ (r : Option DbRecord). outcome_unless (or_refusal (access_refusal (is_primary_record r)) taken) (changes_by (MakeIndex db index))) is.2
        ∙ ap (λ (b : Bool). outcome_unless (or_refusal (access_refusal b) taken) (changes_by (MakeIndex db index))) (primary_as record_of d.kind d.index)
        ∙ by_primary (is_plain d.kind && is_none d.index) d

-- ---- what logs a change

-- the record of a database that is there
record_there : (store : Store) (record_of : List ℕ → Option DbRecord) → IsCatalogOf store record_of → (name : List ℕ) (d : Database) → database_of name store ≡ Some d → IsRecordOf record_of (Some d) (record_of name)
record_there store record_of laws name d is = subst (λ (o : Option Database). IsRecordOf record_of o (record_of name)) is (laws name)

-- the record of an index, by that of its primary
abbrev primary_put : List ℕ → ℕ → Extract → Option DbRecord → List CatalogChange
primary_put db number extract o = Put db (record { number = number; kind = index_in_catalog (number_in_record o) extract }) ∷ []

-- what logs a change that a call makes
pub planned_logged : (store : Store) (record_of : List ℕ → Option DbRecord) → IsCatalogOf store record_of → (number : ℕ) (call : Call) (change : Change) (rest : List Change) →
    (outcome_of call store).changes ≡ change ∷ rest → IsCatalogLog store record_of number change (logged_as record_of number change)
planned_logged store record_of laws number call (Set db at value) rest h = refl
planned_logged store record_of laws number call (Unset db at) rest h = refl
planned_logged store record_of laws number call (Make db kind) rest h = refl
planned_logged store record_of laws number call (MakeIndex db index) rest h =
    let d = there store (MakeIndex db index) rest call h in
    let found = record_there store record_of laws index.primary d.0 d.1 in
    (d.0, d.1, ap (indexed db number index.extract) found.2 ∙ ap (λ (o : Option DbRecord). primary_put db number index.extract o) (sym found.2))
planned_logged store record_of laws number call (Remove db) rest h = refl
planned_logged store record_of laws number call (Rename db to) rest h =
    let d = there store (Rename db to) rest call h in
    let found = record_there store record_of laws db d.0 d.1 in
    (d.0, found.0, d.1, ap (moved db to) found.2)
planned_logged store record_of laws number call (Empty db) rest h =
    let d = there store (Empty db) rest call h in
    let found = record_there store record_of laws db d.0 d.1 in
    (d.0, d.1, ap (renewed db number) found.2)

-- the kind that the catalog has for a database is that of the database
found_as : (record_of : List ℕ → Option DbRecord) (o : Option Database) (row : Option DbRecord) → IsRecordOf record_of o row → IsFoundAs o (found_in row)
found_as record_of None row is = ap found_in is
found_as record_of (Some d) row is = (is.0, ap found_in is.2 ∙ by d.kind d.index is.1 is.0)
  where
    make : ℕ → Kind → Option FoundDb
    make number kind = Some (record { number = number; kind = kind })

    of_index : (primary : ℕ) (extract : Extract) → kind_of_catalog (index_in_catalog primary extract) ≡ Dup
    of_index primary (ByteSlice offset len) = refl
    of_index primary (Field number separator) = refl

    by : (kind : Kind) (index : Option Index) → HasIndexKind kind index → (number : ℕ) →
        found_in (Some (record { number = number; kind = database_in_catalog record_of kind index })) ≡ Some (record { number = number; kind = kind })
    by Plain None has number = refl
    by Dup None has number = refl
    by kind (Some index) has number = ap (make number) (of_index (number_in_record (record_of index.primary)) index.extract ∙ sym has)

pub seen_as : (store : Store) (record_of : List ℕ → Option DbRecord) → IsCatalogOf store record_of → (name : List ℕ) (result : Result (Option FoundDb) AllocError) →
    IfOk result (λ found. found ≡ found_in (record_of name)) → IfOk result (λ found. IsFoundAs (database_of name store) found)
seen_as store record_of laws name (Ok found) is = subst (IsFoundAs (database_of name store)) (sym is) (found_as record_of (database_of name store) (record_of name) (laws name))
seen_as store record_of laws name (Err error) is = tt
