-- A database of a store, and the records that an environment has of it.
use Rattle.std.specs.Prelude.{◌≡◌, List, map, Option, None, Some}
use Rattle.std.specs.Option.{is_some}
use Rattle.store_model.specs.declared.store.Database.{Database}
use Rattle.log_replay.specs.Rows.{Rows, pair_of}
use Rattle.in_tree.specs.declared.trees.Trees.{Trees}
use Rattle.in_tree.specs.Observed.{cells_of}
use Rattle.in_tree.specs.Whole.{seen_in}
use Rattle.txn_core.specs.Known.{committed}
use Rattle.environment.specs.declared.environment.Environment.{Environment}
use Rattle.environment.specs.declared.found_database.FoundDatabase.{FoundDatabase}

-- the committed records of an environment, by the numbers of their databases
abbrev pub rows_held : {D : Type 0} → Environment D → Rows
rows_held environment = committed (cells_of environment.engine.trees)

-- and those of records that a closed one hands out
abbrev pub rows_kept : Trees → Rows
rows_kept records = committed (seen_in records)

-- what is known of a database: its kind, whether it is an index, and the number under which its pairs are among such records
pub record IsKnownAs (rows : Rows) (database : Database) (found : FoundDatabase) : Type 0 where
  pub kind : found.kind ≡ database.kind
  pub index : found.is_index ≡ is_some database.index
  pub pairs : database.pairs ≡ map (pair_of database.kind) (rows found.number)

-- a database was found, where there is one
abbrev pub IsFoundIn : Rows → Option Database → Option FoundDatabase → Type 0
IsFoundIn rows None None = Unit {0}
IsFoundIn rows None (Some found) = ⊥
IsFoundIn rows (Some database) None = ⊥
IsFoundIn rows (Some database) (Some found) = IsKnownAs rows database found
