-- A map that has the indexes of an environment.
use Rattle.std.specs.Prelude.{ℕ, ◌≡◌, [], List, Option, None, Some}
use Rattle.std.specs.Ordering.{nat_cmp}
use Rattle.std.specs.BTreeMap.{BTreeMap, get}
use Rattle.std.specs.declared.alloc.Global.{Global}
use Rattle.std.specs.declared.vec.Vec.{Vec}
use Rattle.index_map.specs.declared.found_index.FoundIndex.{FoundIndex}
use Rattle.index_map.specs.declared.index_map.IndexMap.{IndexMap}
use Rattle.index_map.specs.Made.{Made, primary_in, AreIndexesOf}

-- the indexes in a list, none where there is no list
abbrev pub listed : Option (Vec FoundIndex Global) → List FoundIndex
listed None = []
listed (Some indexes) = indexes.items

abbrev pub list_at : BTreeMap ℕ (Vec FoundIndex Global) → ℕ → List FoundIndex
list_at lists n = listed (get nat_cmp lists n)

-- the map has these indexes
pub record HasIndexes (made : Made) (map : IndexMap) : Type 0 where
  pub primaries : (n : ℕ) → get nat_cmp map.primaries n ≡ primary_in made n
  pub indexes : (n : ℕ) → AreIndexesOf made n (list_at map.indexes n)
