-- Names of databases by their numbers.
use Rattle.std.specs.Prelude.{ℕ, ◌≡◌, ◌==◌, List, Option, None, option_map, if◌then◌else◌}
use Rattle.std.specs.Ordering.{nat_cmp}
use Rattle.std.specs.BTreeMap.{get}
use Rattle.log_replay.specs.Rows.{Row, row_numbered}
use Rattle.db_names.specs.declared.db_names.DbNames.{DbNames}

-- the name that a number has
abbrev pub Names : Type 0
Names = ℕ → Option (List ℕ)

-- by the catalog's records
abbrev pub names_in : List Row → Names
names_in catalog n = option_map (λ r. r.0.key) (row_numbered n catalog)

-- no number has one
abbrev pub no_names : Names
no_names n = None

-- a number has this name, or none
abbrev pub with_name : ℕ → Option (List ℕ) → Names → Names
with_name number name names n = if number == n then name else names n

-- the map has these names
abbrev pub HasNames : Names → DbNames → Type 0
HasNames names map = (n : ℕ) → get nat_cmp map.by_number n ≡ names n
