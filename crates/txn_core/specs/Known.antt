-- What a plan rests on: the committed records of trees.
use Rattle.std.specs.Prelude.{ℕ, ◌≡◌, ◌==◌, ◌||◌, ◌∷◌, [], List, Option, Some, None, Bool}
use Rattle.std.specs.List.{list_any}
use Rattle.je_order.specs.declared.name.Name.{Name}
use Rattle.record_map.specs.Cells.{value_at}
use Rattle.record_tree.specs.Occupied.{Occupied, AllCells, write_in}
use Rattle.store_model.specs.declared.totals.Totals.{Totals}
use Rattle.log_replay.specs.Rows.{Row, Rows}

-- the committed records, how much the store that they make holds, and the database number allocated last
pub record Known : Type 0 where
  pub rows : Rows
  pub totals : Totals
  pub last_db : ℕ

-- records with one more in front, if it has data
abbrev pub with_row : Name → Option (List ℕ) → List Row → List Row
with_row name None rows = rows
with_row name (Some value) rows = (name, value) ∷ rows

-- the committed records of one database: the names that have committed data
abbrev pub committed_rows : List (Name × Occupied) → List Row
committed_rows [] = []
committed_rows (e ∷ cells) = with_row e.0 e.1.value (committed_rows cells)

-- the committed records of each database
abbrev pub committed : AllCells → Rows
committed cells db = committed_rows (cells db)

-- what a plan rests on, from the cells of trees
abbrev pub known_of : AllCells → Totals → ℕ → Known
known_of cells totals last_db = record { rows = committed cells; totals = totals; last_db = last_db }

-- no name has a change of an active transaction
abbrev pub IsQuiet : AllCells → Type 0
IsQuiet cells = (d : ℕ) (x : Name) → write_in (value_at x (cells d)) ≡ None

-- a database is the catalog or has one of these numbers
abbrev pub has_number : List ℕ → ℕ → Bool
has_number numbers d = (d == 0) || list_any (λ n. n == d) numbers
