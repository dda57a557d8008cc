-- The numbers of a store's databases.
use Rattle.std.specs.Prelude.{ℕ, ◌≡◌, ◌<◌, ◌≤◌, List, None, IsSome}
use Rattle.store_model.specs.declared.store.Store.{Store}
use Rattle.store_model.specs.Store.{database_of}

-- numbers of databases: 0 where the store has none of that name; else allocated before, and no two alike
pub record HaveNumbers (store : Store) (last_db : ℕ) (numbers : List ℕ → ℕ) : Type 0 where
  pub none : (name : List ℕ) → database_of name store ≡ None → numbers name ≡ 0
  pub allocated : (name : List ℕ) → IsSome (database_of name store) → (0 < numbers name) × (numbers name ≤ last_db)
  pub apart : (name other : List ℕ) → IsSome (database_of name store) → numbers name ≡ numbers other → name ≡ other
