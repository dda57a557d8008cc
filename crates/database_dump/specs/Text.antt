-- A database as a dump.
use Rattle.std.specs.Prelude.{ℕ, [], map, List, Bool, true, false, Option, None, Some}
use Rattle.std.specs.List.{flat_map}
use Rattle.store_model.specs.declared.kind.Kind.{Kind}
use Rattle.store_model.specs.declared.kind.Kind.TheVariants.{Plain, Dup}
use Rattle.store_model.specs.declared.store.Database.{Database}
use Rattle.log_replay.specs.Rows.{Row, pair_of}
use Rattle.dump_text.specs.Text.{dump_text, pair_text}

-- whether a database of a kind has sorted duplicates
abbrev pub is_dup : Kind → Bool
is_dup Plain = false
is_dup Dup = true

-- the text of a database: a dump of its pairs, in name order; none where there is no database
abbrev pub database_text : Bool → Option Database → List ℕ
database_text printed None = []
database_text printed (Some d) = dump_text printed (is_dup d.kind) d.pairs

-- the lines of the records of a database of a kind
abbrev pub rows_text : Bool → Kind → List Row → List ℕ
rows_text printed kind rows = flat_map (pair_text printed) (map (pair_of kind) rows)

-- the dump of the records of a database of a kind
abbrev pub records_text : Bool → Kind → List Row → List ℕ
records_text printed kind rows = dump_text printed (is_dup kind) (map (pair_of kind) rows)
