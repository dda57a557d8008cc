-- What is left of the records in trees, by the catalog's records that are left.
use Rattle.std.specs.Prelude.{ℕ, Bool, true, not, if◌then◌else◌, List, [], ◌∷◌, Option, None, Some, filter, length, map}
use Rattle.store_model.specs.declared.extract.Extract.{Extract}
use Rattle.store_model.specs.declared.kind.Kind.TheVariants.{Plain, Dup}
use Rattle.store_model.specs.Indexes.{index_pairs}
use Rattle.log_replay.specs.Rows.{Row, Rows, catalog_index, catalog_number, is_plain_row, is_right_row, pair_of, row_numbered}
use Rattle.log_replay.specs.Indexed.{are_same_pairs}
use Rattle.check_laws.specs.declared.database_count.DatabaseCount.{DatabaseCount}
use Rattle.check_laws.specs.declared.finding.Finding.{Finding}
use Rattle.check_laws.specs.declared.finding.Finding.TheVariants.{Index as WrongIndex}
use Rattle.check_laws.specs.Rest.{left_by}

-- the records of the database of a number that are left
abbrev pub rest_in : List Row → Rows → ℕ → List Row
rest_in catalog rows number = left_by (row_numbered number catalog) (rows number)

-- and those of a primary
abbrev pub primary_in : List Row → Rows → ℕ → List Row
primary_in catalog rows number = if is_plain_row (row_numbered number catalog) then filter (is_right_row Plain) (rows number) else []

-- whether these are the pairs of a database that is an index
abbrev pub paired_in : List Row → Rows → List Row → Option (ℕ × Extract) → Bool
paired_in catalog rows records None = true
paired_in catalog rows records (Some made) = are_same_pairs (map (pair_of Dup) records) (index_pairs made.1 (map (pair_of Plain) (primary_in catalog rows made.0)))

abbrev pub is_paired_in : List Row → Rows → Row → Bool
is_paired_in catalog rows row = paired_in catalog rows (rest_in catalog rows (catalog_number row.1)) (catalog_index row.1)

-- the finding for an index that has not its pairs
abbrev pub index_noted : Bool → Row → List Finding
index_noted paired row = if paired then [] else WrongIndex row.0.key ∷ []

-- the indexes that have not, and the counts
abbrev pub indexes_in : List Row → Rows → List Row → List Finding
indexes_in catalog rows databases = map WrongIndex (map (λ r. r.0.key) (filter (λ r. not (is_paired_in catalog rows r)) databases))

abbrev pub count_of_rest : List Row → Rows → Row → DatabaseCount
count_of_rest catalog rows row = record { name = row.0.key; records = length (rest_in catalog rows (catalog_number row.1)) }
