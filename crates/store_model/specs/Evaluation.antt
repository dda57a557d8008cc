-- What calls on the catalog answer and change on a store, and calls on records in one of plain databases (Getting Started Guide, "Databases" and
-- "Database Records"). Records has all calls on records, in databases of both kinds.
use Rattle.std.specs.Prelude.{ℕ, ◌∷◌, [], List, Option, None, Some, map}
use Rattle.je_order.specs.declared.name.Name.{Name}
use Rattle.store_model.specs.declared.store.Store.{Store}
use Rattle.store_model.specs.declared.store.Database.{Database}
use Rattle.store_model.specs.declared.call.Call.{Call}
use Rattle.store_model.specs.declared.call.Call.TheVariants.{Create, CreateIndex, List as Lists, Remove as Removes, Rename as Renames, Truncate, Put, Get, Delete}
use Rattle.store_model.specs.declared.put_mode.PutMode.{PutMode}
use Rattle.store_model.specs.declared.put_mode.PutMode.TheVariants.{Overwrite, NoOverwrite, NoDupData}
use Rattle.store_model.specs.declared.change.Change.{Change}
use Rattle.store_model.specs.declared.change.Change.TheVariants.{Set, Unset, Make, MakeIndex, Remove, Rename, Empty}
use Rattle.store_model.specs.declared.answer.Answer.{Answer}
use Rattle.store_model.specs.declared.answer.Answer.TheVariants.{Done, Rec, Names, NotFound, KeyExist, NoDatabase, ReadOnlyIndex, OnlyOnDuplicates}
use Rattle.store_model.specs.declared.index.Index.{Index}
use Rattle.store_model.specs.Store.{database_of, pair_at, names_of, named}
use Rattle.store_model.specs.Indexes.{index_pairs}

-- an answer, and the changes in order
pub record Outcome : Type 0 where
  pub answer : Answer
  pub changes : List Change

-- a call that only answers
abbrev pub answers : Answer → Outcome
answers answer = record { answer = answer; changes = [] }

-- a call that is done by one change
abbrev pub changes_by : Change → Outcome
changes_by change = record { answer = Done; changes = change ∷ [] }

-- the name of a plain database's record
abbrev pub plain_name : List ℕ → Name
plain_name key = record { key = key; dup = [] }

-- a read answers the record, if there is one
abbrev pub reading : Option (List ℕ × List ℕ) → Outcome
reading None = answers NotFound
reading (Some pair) = answers (Rec pair.0 pair.1)

-- a put of a new key sets its data, if it has no record
abbrev pub putting_new : List ℕ → List ℕ → List ℕ → Option (List ℕ × List ℕ) → Outcome
putting_new db key value None = changes_by (Set db (plain_name key) value)
putting_new db key value (Some pair) = answers KeyExist

-- a put by its mode
abbrev pub putting : PutMode → List ℕ → List ℕ → List ℕ → Option (List ℕ × List ℕ) → Outcome
putting Overwrite db key value found = changes_by (Set db (plain_name key) value)
putting NoOverwrite db key value found = putting_new db key value found
putting NoDupData db key value found = answers OnlyOnDuplicates

-- a delete takes the record out, if there is one
abbrev pub deleting : List ℕ → List ℕ → Option (List ℕ × List ℕ) → Outcome
deleting db key None = answers NotFound
deleting db key (Some pair) = changes_by (Unset db (plain_name key))

-- an index is made, and filled with the pairs of its primary's records, in order
abbrev pub indexing : List ℕ → Index → Option Database → Outcome
indexing db index None = answers NoDatabase
indexing db index (Some primary) =
    record { answer = Done; changes = MakeIndex db index ∷ map (λ p. Set db (named p.0 p.1) []) (index_pairs index.extract primary.pairs) }

-- an index is emptied with its primary alone
abbrev pub emptying : List ℕ → Option Index → Outcome
emptying db None = changes_by (Empty db)
emptying db (Some index) = answers ReadOnlyIndex

-- a call on a store and its database there; only those that make one and List are evaluated where there is no such database
abbrev pub evaluation_in : Call → Store → Option Database → Outcome
evaluation_in (Create db kind) store d = changes_by (Make db kind)
evaluation_in (CreateIndex db index) store d = indexing db index (database_of index.primary store)
evaluation_in Lists store d = answers (Names (names_of store))
evaluation_in (Removes db) store None = answers NoDatabase
evaluation_in (Removes db) store (Some d) = changes_by (Remove db)
evaluation_in (Renames db to) store None = answers NoDatabase
evaluation_in (Renames db to) store (Some d) = changes_by (Rename db to)
evaluation_in (Truncate db) store None = answers NoDatabase
evaluation_in (Truncate db) store (Some d) = emptying db d.index
evaluation_in (Put db key value mode) store None = answers NoDatabase
evaluation_in (Put db key value mode) store (Some d) = putting mode db key value (pair_at key d.pairs)
evaluation_in (Get db key rmw) store None = answers NoDatabase
evaluation_in (Get db key rmw) store (Some d) = reading (pair_at key d.pairs)
evaluation_in (Delete db key) store None = answers NoDatabase
evaluation_in (Delete db key) store (Some d) = deleting db key (pair_at key d.pairs)
evaluation_in call store d = answers Done

-- the database that a call names; others name none, and no database has the empty name
abbrev pub database_named : Call → List ℕ
database_named (Create db kind) = db
database_named (CreateIndex db index) = db
database_named (Removes db) = db
database_named (Renames db to) = db
database_named (Truncate db) = db
database_named (Put db key value mode) = db
database_named (Get db key rmw) = db
database_named (Delete db key) = db
database_named call = []

-- what a call answers and changes
abbrev pub evaluation : Call → Store → Outcome
evaluation call store = evaluation_in call store (database_of (database_named call) store)
