-- Whether an index has the pairs of its primary's records, by the records of both.
use Rattle.std.specs.Prelude.{ℕ, ◌≡◌, List, Option, None, Some, Bool, true, not, map, find, option_map, IsTrue}
use Rattle.std.specs.List.{AllByRecursion}
use Rattle.je_order.specs.Words.{is_word}
use Rattle.je_order.specs.declared.name.Name.{Name}
use Rattle.store_model.specs.declared.extract.Extract.{Extract}
use Rattle.store_model.specs.declared.kind.Kind.TheVariants.{Plain, Dup}
use Rattle.store_model.specs.declared.store.Store.{Store}
use Rattle.store_model.specs.Indexes.{index_pairs, AreIndexed}
use Rattle.record_tree.specs.declared.record_ref.RecordRef.{RecordRef}
use Rattle.record_tree.specs.Stored.{Stored}
use Rattle.log_replay.specs.Rows.{Row, Rows, are_right, catalog_index, catalog_number, pair_of}
use Rattle.log_replay.specs.Indexed.{are_same_pairs, wrong_index}

-- the name of the first index of a store without the pairs of its primary's records; where there is none, each index has them
pub record IsIndexCheck (store : Store) (wrong : Option (List ℕ)) : Type 0 where
  pub first : wrong ≡ wrong_index store
  pub indexed : wrong ≡ None → AreIndexed store

-- a record that was lent
abbrev pub lent_row : RecordRef → Row
lent_row r = (r.name.now, r.value.now)

-- the records of an index are the pairs of these records of its primary
abbrev pub has_pairs_of : Extract → List Row → List Row → Bool
has_pairs_of extract primary records = are_same_pairs (map (pair_of Dup) records) (index_pairs extract (map (pair_of Plain) primary))

-- a database of that number, if it is an index, has the pairs of its primary's records
abbrev pub is_filled_by : Rows → ℕ → Option (ℕ × Extract) → Bool
is_filled_by rows number None = true
is_filled_by rows number (Some made) = has_pairs_of made.1 (rows made.0) (rows number)

abbrev pub is_filled : Rows → List ℕ → Bool
is_filled rows value = is_filled_by rows (catalog_number value) (catalog_index value)

-- the records of an index's primary are those of a plain database
abbrev pub HasPlainPrimary : Rows → Option (ℕ × Extract) → Type 0
HasPlainPrimary rows None = Unit {0}
HasPlainPrimary rows (Some made) = are_right Plain (rows made.0) ≡ true

-- a catalog record of an environment: its key is a database's name
pub record IsReadable (rows : Rows) (r : Name × Stored) : Type 0 where
  pub word : IsTrue (is_word r.0.key)
  pub primary : HasPlainPrimary rows (catalog_index r.1.value)

-- the name of the first of these catalog records whose database is an index without the pairs of its primary's records
abbrev pub first_not_filled : Rows → List (Name × Stored) → Option (List ℕ)
first_not_filled rows records = option_map (λ r. r.0.key) (find (λ r. not (is_filled rows r.1.value)) records)

-- of catalog records these are left, behind others that are no such indexes
pub record IsLeftOf (rows : Rows) (left records : List (Name × Stored)) : Type 0 where
  pub readable : AllByRecursion (IsReadable rows) left
  pub first : first_not_filled rows left ≡ first_not_filled rows records
