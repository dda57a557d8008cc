-- The trees of the databases that the catalog names.
use Rattle.std.specs.Prelude.{◌≡◌, ◌==◌, ◌&&◌, ◌||◌, ℕ, Bool, true, false, not, List, [], if◌then◌else◌}
use Rattle.std.specs.List.{AllByRecursion, list_any}
use Rattle.record_tree.specs.Stored.{AllStored}

-- whether a database is the catalog or among these
abbrev pub is_kept : List ℕ → ℕ → Bool
is_kept numbers d = (d == 0) || list_any (λ n. n == d) numbers

-- these databases have trees
abbrev pub HaveTrees : List ℕ → (ℕ → Bool) → Type 0
HaveTrees numbers has = AllByRecursion (λ n. has n ≡ true) numbers

-- the tree of a database was taken out, if that is not kept
pub record HasDropped (numbers : List ℕ) (db : ℕ) (old new : ℕ → Bool) (before after : AllStored) : Type 0 where
  pub trees : (d : ℕ) → new d ≡ (if (d == db) && not (is_kept numbers d) then false else old d)
  pub stored : (d : ℕ) → after d ≡ (if (d == db) && not (is_kept numbers d) then [] else before d)

-- the databases that are kept have trees with their records, and the others have none
pub record IsFinished (numbers : List ℕ) (has : ℕ → Bool) (before after : AllStored) : Type 0 where
  pub trees : (d : ℕ) → has d ≡ is_kept numbers d
  pub kept : (d : ℕ) → is_kept numbers d ≡ true → after d ≡ before d
  pub none : (d : ℕ) → is_kept numbers d ≡ false → after d ≡ []
