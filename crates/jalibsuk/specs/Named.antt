-- Names by handles, and calls that are made of them.
use Rattle.std.specs.Prelude.{ℕ, ◌≡◌, ◌⊎◌, Bool, false, List, Option, None, Some, Result, Ok, Err, map, slice_index_or, if◌then◌else◌}
use Rattle.je_order.specs.Order.{is_same_bytes}
use Rattle.jalibsuk.specs.declared.error.Error.{Error}
use Rattle.jalibsuk.specs.declared.error.Error.TheVariants.{Memory, NoDatabase}

-- the name of a handle's database, if it was not removed
abbrev pub name_of_handle : ℕ → List (Option (List ℕ)) → Option (List ℕ)
name_of_handle number names = slice_index_or names number None

module _ {X : Type 0} where
  -- a value was made that there is if the handle has a name; else it has none, or there is no memory
  abbrev pub IsMade : Option X → Result X Error → Type 0
  IsMade there (Ok x) = there ≡ Some x
  IsMade there (Err e) = ((e ≡ NoDatabase) × (there ≡ None)) ⊎ (e ≡ Memory)

-- whether a handle's database has that name
abbrev pub is_of_name : List ℕ → Option (List ℕ) → Bool
is_of_name name None = false
is_of_name name (Some own) = is_same_bytes own name

-- the names once the database of that name has another one, or was removed
abbrev pub names_after : List ℕ → Option (List ℕ) → List (Option (List ℕ)) → List (Option (List ℕ))
names_after name to names = map (λ own. if is_of_name name own then to else own) names
