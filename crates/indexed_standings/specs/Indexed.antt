-- Indexes where transactions are under way.
use Rattle.std.specs.Prelude.{ℕ, ◌≡◌, [], List, Option, None, Some, true}
use Rattle.std.specs.Option.{is_some}
use Rattle.std.specs.List.{AllByRecursion}
use Rattle.store_model.specs.declared.store.Database.{Database}
use Rattle.store_model.specs.declared.index.Index.{Index}
use Rattle.store_model.specs.declared.record_change.RecordChange.{RecordChange}
use Rattle.store_model.specs.Store.{IsStore, database_of, changed_name}
use Rattle.store_model.specs.Indexes.{AreIndexed, index_pairs}
use Rattle.je_answers.specs.declared.active.Active.{Active}
use Rattle.je_answers.specs.Standing.{Standing}
use Rattle.je_answers.specs.Views.{of_db, view_in, changes_named}
use Rattle.je_answers.specs.After.{ended, committed_if_any}
use Rattle.standing_laws.specs.Right.{AreSound}
use Rattle.index_laws.specs.Keeping.{KeepUp}

-- a transaction's own changes in the database of a name
abbrev pub own_in : Standing → ℕ → List ℕ → List RecordChange
own_in st txn name = of_db (st.numbers name) (st.own txn)

-- ---- own changes keep indexes up

-- with its own changes an index has the pairs of its primary's records, which have names without data
pub record IsKeptOver (st : Standing) (txn : ℕ) (d : Database) (index : Index) (primary : Database) : Type 0 where
  pub keeps : KeepUp index primary.pairs d.pairs (own_in st txn primary.name) (own_in st txn d.name)
  pub plain : AllByRecursion (λ c. (changed_name c).dup ≡ []) (own_in st txn primary.name)

abbrev pub IsKeptFor : Standing → ℕ → Database → Index → Option Database → Type 0
IsKeptFor st txn d index None = ⊥
IsKeptFor st txn d index (Some primary) = IsKeptOver st txn d index primary

abbrev pub IsKept : Standing → ℕ → Database → Option Index → Type 0
IsKept st txn d None = Unit {0}
IsKept st txn d (Some index) = IsKeptFor st txn d index (database_of index.primary st.store)

-- each transaction keeps each index of the store up
pub record KeepsIndexes (st : Standing) : Type 0 where
  pub sound : AreSound st
  pub store : IsStore st.store
  pub indexed : AreIndexed st.store
  pub kept : (txn : ℕ) → AllByRecursion (λ d. IsKept st txn d d.index) st.store.databases

-- ---- what a transaction sees

-- a transaction sees an index as it is made of what the transaction sees of its primary
abbrev pub IsSeenFor : Standing → Active → Database → Index → Option Database → Type 0
IsSeenFor st a d index None = ⊥
IsSeenFor st a d index (Some primary) = view_in st a (st.numbers d.name, d) ≡ index_pairs index.extract (view_in st a (st.numbers primary.name, primary))

-- the same, if the database is an index
abbrev pub IsSeen : Standing → Active → Database → Option Index → Type 0
IsSeen st a d None = Unit {0}
IsSeen st a d (Some index) = IsSeenFor st a d index (database_of index.primary st.store)

-- it sees each index as the pairs of what it sees of its primary
abbrev pub AreIndexedFor : Standing → Active → Type 0
AreIndexedFor st a = AllByRecursion (λ d. IsSeen st a d d.index) st.store.databases

abbrev pub SeenIndexed : Type 0
SeenIndexed = (st : Standing) (a : Active) → KeepsIndexes st → AreIndexedFor st a

-- ---- a commit

-- no two databases have the same number
abbrev pub HaveOwnNumbers : Standing → Type 0
HaveOwnNumbers st = (name other : List ℕ) → is_some (database_of name st.store) ≡ true → st.numbers name ≡ st.numbers other → name ≡ other

-- the indexes have the pairs of the records, and each transaction keeps them up
pub record AreKeptUp (st : Standing) : Type 0 where
  pub indexed : AreIndexed st.store
  pub kept : (txn : ℕ) → AllByRecursion (λ d. IsKept st txn d d.index) st.store.databases

-- a transaction commits its own changes, and ends
abbrev pub CommitsKeepUp : Type 0
CommitsKeepUp = (st : Standing) (a : Active) → KeepsIndexes st → HaveOwnNumbers st → AreKeptUp (ended a (committed_if_any (changes_named st (st.own a.txn.0)) st))
