-- The indexes of an environment, as its catalog makes them.
use Rattle.std.specs.Prelude.{ℕ, ◌≡◌, ◌<◌, ◌==◌, nat_lt, ◌∷◌, [], List, Option, None, Some, filter, find, not, option_map, if◌then◌else◌}
use Rattle.std.specs.List.{AllByRecursion}
use Rattle.store_model.specs.declared.extract.Extract.{Extract}
use Rattle.log_replay.specs.Rows.{Row, catalog_index, row_numbered}
use Rattle.index_map.specs.declared.found_index.FoundIndex.{FoundIndex}

-- what the database of each number is an index of: the number of its primary, and the key
abbrev pub Made : Type 0
Made = ℕ → Option (ℕ × Extract)

abbrev pub index_by : Option Row → Option (ℕ × Extract)
index_by None = None
index_by (Some row) = catalog_index row.1

abbrev pub made_in : List Row → Made
made_in catalog n = index_by (row_numbered n catalog)

-- no database is an index
abbrev pub no_made : Made
no_made n = None

-- the database of a number made an index of this, or none
abbrev pub with_made : ℕ → Option (ℕ × Extract) → Made → Made
with_made number index made n = if number == n then index else made n

-- the primary of an index
abbrev pub primary_in : Made → ℕ → Option ℕ
primary_in made n = option_map (λ m. m.0) (made n)

-- the key of an index of the primary of a number
abbrev pub extract_of : ℕ → Option (ℕ × Extract) → Option Extract
extract_of primary None = None
extract_of primary (Some m) = if m.0 == primary then Some m.1 else None

-- ---- indexes in a list

-- the key of the index of a number
abbrev pub extract_in : ℕ → List FoundIndex → Option Extract
extract_in number indexes = option_map (λ i. i.extract) (find (λ i. i.number == number) indexes)

-- their numbers rise
abbrev pub AreRising : List FoundIndex → Type 0
AreRising [] = Unit {0}
AreRising (i ∷ indexes) = AllByRecursion (λ j. i.number < j.number) indexes × AreRising indexes

-- an index more, behind those of lower numbers, and without that of a number
abbrev pub with_index : FoundIndex → List FoundIndex → List FoundIndex
with_index i [] = i ∷ []
with_index i (j ∷ indexes) = if nat_lt i.number j.number then i ∷ j ∷ indexes else j ∷ with_index i indexes

abbrev pub without : ℕ → List FoundIndex → List FoundIndex
without number indexes = filter (λ i. not (i.number == number)) indexes

-- the list has each index of a primary, by rising number, and no other
pub record AreIndexesOf (made : Made) (primary : ℕ) (indexes : List FoundIndex) : Type 0 where
  pub found : (n : ℕ) → extract_in n indexes ≡ extract_of primary (made n)
  pub rising : AreRising indexes
