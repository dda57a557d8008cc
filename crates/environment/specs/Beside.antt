-- The databases beside that of a call: the primary of an index, and the indexes of a primary, as an environment's maps know them.
use Rattle.std.specs.Prelude.{◌≡◌, ◌++◌, ℕ, List, Option, Some, map, option_to_list, unwrap_or}
use Rattle.std.specs.Ordering.{nat_cmp}
use Rattle.std.specs.BTreeMap.{get}
use Rattle.store_model.specs.declared.kind.Kind.{Kind}
use Rattle.store_model.specs.declared.kind.Kind.TheVariants.{Plain, Dup}
use Rattle.db_catalog.specs.declared.found_db.FoundDb.{FoundDb}
use Rattle.db_names.specs.Names.{Names}
use Rattle.db_names.specs.declared.db_names.DbNames.{DbNames}
use Rattle.index_map.specs.Made.{AreIndexesOf, Made, primary_in}
use Rattle.index_map.specs.Map.{HasIndexes}
use Rattle.index_map.specs.declared.found_index.FoundIndex.{FoundIndex}
use Rattle.index_map.specs.declared.index_map.IndexMap.{IndexMap}
use Rattle.sessions.specs.declared.named_db.NamedDb.{NamedDb}
use Rattle.txn_views.specs.declared.found_target.FoundTarget.{FoundTarget}

-- a database that was found is the target of a call, with what a map of indexes has of it
pub record IsTargetBy (kept : IndexMap) (found : FoundDb) (target : FoundTarget) : Type 0 where
  pub db : target.db ≡ found
  pub over : (made : Made) → HasIndexes made kept → target.over ≡ primary_in made found.number
  pub indexes : (made : Made) → HasIndexes made kept → AreIndexesOf made (unwrap_or target.over found.number) target.indexes.now

-- a number, with the name that it has, and a kind
abbrev pub Beside : Type 0
Beside = ℕ × (Option (List ℕ) × Kind)

abbrev pub as_beside : NamedDb → Beside
as_beside d = (d.number, (Some d.name, d.kind))

-- the name that a map has for a number
abbrev pub name_in : DbNames → Names
name_in names n = get nat_cmp names.by_number n

abbrev pub beside_at : Names → Kind → ℕ → Beside
beside_at names kind number = (number, (names number, kind))

-- the primary of an index, and the indexes of a primary
abbrev pub beside_over : Names → Option ℕ → List Beside
beside_over names over = map (beside_at names Plain) (option_to_list over)

abbrev pub beside_indexes : Names → List FoundIndex → List Beside
beside_indexes names indexes = map (λ i. beside_at names Dup i.number) indexes

abbrev pub beside_of : Names → Option ℕ → List FoundIndex → List Beside
beside_of names over indexes = beside_over names over ++ beside_indexes names indexes
