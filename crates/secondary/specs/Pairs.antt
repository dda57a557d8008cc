-- The pairs of records, in the order of the records.
use Rattle.std.specs.Prelude.{ℕ, ◌∷◌, [], List, Option, None, Some, map}
use Rattle.std.specs.List.{flat_map}
use Rattle.je_order.specs.declared.name.Name.{Name}
use Rattle.store_model.specs.declared.extract.Extract.{Extract}
use Rattle.store_model.specs.Store.{Pair, named}
use Rattle.store_model.specs.Indexes.{key_in}
use Rattle.secondary.specs.declared.key_pair.KeyPair.{KeyPair}

-- a pair that was handed over by reference, and its name
abbrev pub pair_in : KeyPair → Pair
pair_in p = (p.key.now, p.primary_key.now)

abbrev pub name_in : KeyPair → Name
name_in p = named p.key.now p.primary_key.now

abbrev pub pairs_in : List KeyPair → List Pair
pairs_in pairs = map pair_in pairs

-- the pair of a record, if it has a key
abbrev pub pair_with : List ℕ → Option (List ℕ) → List Pair
pair_with primary_key None = []
pair_with primary_key (Some key) = (key, primary_key) ∷ []

abbrev pub keyed : Extract → Pair → List Pair
keyed extract p = pair_with p.0 (key_in extract p.1)

-- the pairs of records
abbrev pub keyed_pairs : Extract → List Pair → List Pair
keyed_pairs extract records = flat_map (keyed extract) records
