-- What a map of indexes gives of a database is what the store says, by its databases' numbers.
use Rattle.std.specs.Prelude.{ℕ, ◌≡◌, [], List, Option, None, Some, true, map, option_map, unwrap_or}
use Rattle.store_model.specs.declared.kind.Kind.{Kind}
use Rattle.store_model.specs.declared.kind.Kind.TheVariants.{Plain, Dup}
use Rattle.store_model.specs.declared.store.Database.{Database}
use Rattle.store_model.specs.Store.{database_of}
use Rattle.store_model.specs.Indexes.{Numbered, indexes_of, primary_of, records_name}
use Rattle.log_replay.specs.Rows.{Rows, is_environment, IsRising, store_of}
use Rattle.log_replay.specs.Logging.{number_named}
use Rattle.index_map.specs.declared.found_index.FoundIndex.{FoundIndex}
use Rattle.index_map.specs.Made.{Made, primary_in, AreIndexesOf, made_in}

-- ---- databases by what the catalog tells of them: a number and a kind, and which key an index has

abbrev pub db_at : ℕ → Kind → Numbered
db_at number kind = (number, record { name = []; kind = kind; index = None; pairs = [] })

abbrev pub index_at : FoundIndex → Numbered
index_at i = (i.number, record { name = []; kind = Dup; index = Some (record { primary = []; extract = i.extract }); pairs = [] })

abbrev pub over_of : Option ℕ → Option Numbered
over_of over = option_map (λ number. db_at number Plain) over

abbrev pub indexes_at : List FoundIndex → List Numbered
indexes_at indexes = map index_at indexes

-- the same of a store's database
abbrev pub known : Numbered → Numbered
known d = (d.0, record { name = []; kind = d.1.kind; index = option_map (λ i. record { primary = []; extract = i.extract }) d.1.index; pairs = [] })

-- ---- the law

-- the number of the database whose records a database has: an index has those of its primary
abbrev pub records_number : Made → ℕ → ℕ
records_number made number = unwrap_or (primary_in made number) number

abbrev pub IndexesAreFound : Type 0
IndexesAreFound = (rows : Rows) (name : List ℕ) (d : Database) (indexes : List FoundIndex) → is_environment rows ≡ true → IsRising (rows 0) → database_of name (store_of rows) ≡ Some d
    → AreIndexesOf (made_in (rows 0)) (records_number (made_in (rows 0)) (number_named rows name)) indexes
    → (over_of (primary_in (made_in (rows 0)) (number_named rows name)) ≡ option_map known (primary_of (number_named rows) (store_of rows) d.index))
    × (indexes_at indexes ≡ map known (indexes_of (number_named rows) (store_of rows) (records_name d)))
