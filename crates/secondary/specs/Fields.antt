-- The fields behind the first one.
use Rattle.std.specs.Prelude.{ℕ, List, Option, None, Some}
use Rattle.std.specs.List.{slice_get}
use Rattle.store_model.specs.Indexes.{fields_of}

-- a field of what stands behind a separator, if there is one
abbrev pub field_behind : ℕ → Option (List ℕ) → ℕ → Option (List ℕ)
field_behind separator None n = None
field_behind separator (Some rest) n = slice_get (fields_of separator rest) n
