-- A database by its name.
use Rattle.std.specs.Prelude.{ℕ, ◌≡◌, List, Some}
use Rattle.store_model.specs.declared.store.Store.{Store}
use Rattle.store_model.specs.declared.store.Database.{Database}
use Rattle.store_model.specs.declared.kind.Kind.{Kind}
use Rattle.store_model.specs.Store.{database_of}

-- a database with this number and of this kind is under a name
pub record IsUnderIn (store : Store) (numbers : List ℕ → ℕ) (number : ℕ) (name : List ℕ) (kind : Kind) : Type 0 where
  pub database : Database
  pub its : database_of name store ≡ Some database
  pub kind_is : database.kind ≡ kind
  pub number_is : numbers name ≡ number
