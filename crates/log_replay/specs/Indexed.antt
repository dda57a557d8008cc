-- The first index, in order of the names, whose pairs are not those of its primary's records.
use Rattle.std.specs.Prelude.{ℕ, ◌≡◌, ◌∷◌, [], ◌&&◌, not, Bool, true, false, List, Option, None, Some, find, option_map}
use Rattle.je_order.specs.Order.{is_same_bytes}
use Rattle.store_model.specs.declared.store.Store.{Store}
use Rattle.store_model.specs.declared.store.Database.{Database}
use Rattle.store_model.specs.declared.index.Index.{Index}
use Rattle.store_model.specs.declared.extract.Extract.{Extract}
use Rattle.store_model.specs.Store.{Pair, database_of}
use Rattle.store_model.specs.Indexes.{AreIndexed, index_pairs}
use Rattle.log_replay.specs.Rows.{Rows, is_environment, IsRising, store_of}

-- whether pairs are the same
abbrev pub is_same_pair : Pair → Pair → Bool
is_same_pair p q = is_same_bytes p.0 q.0 && is_same_bytes p.1 q.1

-- whether two lists have the same pairs in the same order
abbrev pub are_same_pairs : List Pair → List Pair → Bool
are_same_pairs [] [] = true
are_same_pairs [] (q ∷ qs) = false
are_same_pairs (p ∷ ps) [] = false
are_same_pairs (p ∷ ps) (q ∷ qs) = is_same_pair p q && are_same_pairs ps qs

-- whether these are the pairs of a primary's records
abbrev pub are_pairs_of : Option Database → Extract → List Pair → Bool
are_pairs_of None extract pairs = false
are_pairs_of (Some primary) extract pairs = are_same_pairs pairs (index_pairs extract primary.pairs)

-- whether a database that is an index has them
abbrev pub is_filled : Store → Option Index → List Pair → Bool
is_filled store None pairs = true
is_filled store (Some index) pairs = are_pairs_of (database_of index.primary store) index.extract pairs

-- the name of the first index that has not
abbrev pub wrong_index : Store → Option (List ℕ)
wrong_index store = option_map (λ d. d.name) (find (λ d. not (is_filled store d.index d.pairs)) store.databases)

-- there is none exactly where each index of the store of an environment's records has the pairs of its primary's records
abbrev pub IndexesAreJudged : Type 0
IndexesAreJudged = (rows : Rows) → is_environment rows ≡ true → IsRising (rows 0)
    → (wrong_index (store_of rows) ≡ None → AreIndexed (store_of rows)) × (AreIndexed (store_of rows) → wrong_index (store_of rows) ≡ None)
