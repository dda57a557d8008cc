-- What a user sees of an open environment.
use Rattle.std.specs.Prelude.{ℕ, List, Option}
use Rattle.environment.specs.declared.environment.Environment.{Environment}

-- the store below, and the names of the databases by the numbers of their handles, none where the database was removed
pub record Seen (D : Type 0) : Type 0 where
  pub environment : Environment D
  pub names : List (Option (List ℕ))
