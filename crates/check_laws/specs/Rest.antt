-- The records that are left once those that are wrong are left out, and the indexes that are then without their pairs.
use Rattle.std.specs.Prelude.{ℕ, ◌==◌, not, if◌then◌else◌, List, [], Option, None, Some, Bool, true, map, filter}
use Rattle.store_model.specs.declared.extract.Extract.{Extract}
use Rattle.store_model.specs.declared.kind.Kind.TheVariants.{Plain, Dup}
use Rattle.store_model.specs.Indexes.{index_pairs}
use Rattle.log_replay.specs.Rows.{Row, Rows, catalog_index, catalog_kind, catalog_number, is_plain_row, is_right_row, pair_of, row_numbered}
use Rattle.log_replay.specs.Indexed.{are_same_pairs}
use Rattle.check_laws.specs.Parts.{kept_in_catalog}

-- the catalog's records that are left
abbrev pub catalog_left : Rows → List Row
catalog_left rows = kept_in_catalog (rows 0) [] (rows 0)

-- of a database's records those that are right, by the catalog's record of it
abbrev pub left_by : Option Row → List Row → List Row
left_by None records = []
left_by (Some row) records = filter (is_right_row (catalog_kind row.1)) records

-- what is left of each database: of the catalog its right records, of a database that one of these names that one's
abbrev pub rows_left : Rows → Rows
rows_left rows d = if d == 0 then catalog_left rows else left_by (row_numbered d (catalog_left rows)) (rows d)

-- the records of the database of a number, if the catalog has it and it is plain
abbrev pub primary_rows : Rows → ℕ → List Row
primary_rows rows number = if is_plain_row (row_numbered number (rows 0)) then rows number else []

-- a database of that number, if it is an index, has the pairs of its primary's records
abbrev pub is_paired_by : Rows → ℕ → Option (ℕ × Extract) → Bool
is_paired_by rows number None = true
is_paired_by rows number (Some made) = are_same_pairs (map (pair_of Dup) (rows number)) (index_pairs made.1 (map (pair_of Plain) (primary_rows rows made.0)))

-- the same of the database that a record of the catalog names
abbrev pub is_paired : Rows → Row → Bool
is_paired rows row = is_paired_by rows (catalog_number row.1) (catalog_index row.1)

-- the indexes that have not, in order of the names
abbrev pub wrong_indexes : Rows → List (List ℕ)
wrong_indexes rows = map (λ r. r.0.key) (filter (λ r. not (is_paired rows r)) (rows 0))
