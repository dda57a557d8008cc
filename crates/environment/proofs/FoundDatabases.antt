-- The database of a name, by the catalog's record of it.
use Rattle.std.proofs.Common.{◌≡◌, ℕ, Bool, true, false, List, [], ◌∷◌, Option, None, Some, map, find, option_map, refl, ap, sym, ◌∙◌, subst}
use Rattle.std.specs.Option.{is_some}
use Rattle.std.specs.List.{AllByRecursion}
use Rattle.std.proofs.lemmas.Bool.{cond-true, cond-false}
use Rattle.std.proofs.lemmas.Option.{same_Some}
use Rattle.je_order.specs.Order.{is_same_bytes}
use Rattle.store_model.specs.declared.extract.Extract.{Extract}
use Rattle.store_model.specs.declared.store.Database.{Database}
use Rattle.store_model.specs.declared.store.Store.{Store}
use Rattle.store_model.specs.Store.{database_of}
use Rattle.record_map.specs.Cells.{first_of}
use Rattle.log_replay.specs.Rows.{Row, Rows, catalog_index, catalog_kind, catalog_number, database_in, has_primary, index_in, index_over, is_environment, is_plain_row, pair_of, row_numbered, store_of}
use Rattle.log_replay.proofs.ListLaws.{find-map, found}
use Rattle.log_replay.proofs.StoreLaws.{HasPrimary, primaries_in}
use Rattle.environment.specs.declared.found_database.FoundDatabase.{FoundDatabase}
use Rattle.environment.specs.Databases.{IsFoundIn, IsKnownAs}

-- the record of a database of that name
abbrev pub row_of_name : List ℕ → List Row → Option Row
row_of_name name catalog = find (λ (r : Row). is_same_bytes r.0.key name) catalog

each_same : (rows : Rows) (name : List ℕ) (l : List Row) → AllByRecursion (λ (r : Row). is_same_bytes (database_in rows r).name name ≡ is_same_bytes r.0.key name) l
each_same rows name [] = tt
each_same rows name (r ∷ l) = (refl, each_same rows name l)

database_by_row : (rows : Rows) (name : List ℕ) → database_of name (store_of rows) ≡ option_map (database_in rows) (row_of_name name (rows 0))
database_by_row rows name =
    find-map (database_in rows) (λ (d : Database). is_same_bytes d.name name) (λ (r : Row). is_same_bytes r.0.key name) (rows 0) (each_same rows name (rows 0))

-- a record of an index has its primary, so that its database is one
index_there : (catalog : List Row) (made : Option (ℕ × Extract)) → has_primary catalog made ≡ true → is_some (index_in catalog made) ≡ is_some made
index_there catalog None has = refl
index_there catalog (Some made) has = by_row (row_numbered made.0 catalog) has
  where
    by_row : (o : Option Row) → is_plain_row o ≡ true → is_some (option_map (index_over made.1) o) ≡ true
    by_row None has = cc
    by_row (Some row) has = refl

-- what a record tells of its database
known_by : (rows : Rows) (name : List ℕ) (row : Row) (known : FoundDatabase) → is_environment rows ≡ true → row_of_name name (rows 0) ≡ Some row → known.number ≡ catalog_number row.1 →
    known.kind ≡ catalog_kind row.1 → known.is_index ≡ is_some (catalog_index row.1) → IsKnownAs rows (database_in rows row) known
known_by rows name row known environment there number kind index = record {
  kind = kind;
  index = index ∙ sym (index_there (rows 0) (catalog_index row.1) (found (HasPrimary (rows 0)) (λ (r : Row). is_same_bytes r.0.key name) (rows 0) row there (primaries_in rows environment)).0);
  pairs = ap (λ (n : ℕ). map (pair_of (catalog_kind row.1)) (rows n)) (sym number);
}

data_by : List ℕ → Option Row → List ℕ
data_by other None = other
data_by other (Some row) = row.1

module _ (rows : Rows) (name : List ℕ) (store : Store) (environment : is_environment rows ≡ true) (makes : store_of rows ≡ store) where
  database_is : (o : Option Row) → row_of_name name (rows 0) ≡ o → option_map (database_in rows) o ≡ database_of name store
  database_is o is = ap (option_map (database_in rows)) (sym is) ∙ sym (database_by_row rows name) ∙ ap (database_of name) makes

  -- a record was found: the store has the database
  pub known_there : (held : List ℕ) (known : FoundDatabase) → Some held ≡ option_map {U = List ℕ} (λ (r : Row). r.1) (row_of_name name (rows 0)) → known.number ≡ catalog_number held →
      known.kind ≡ catalog_kind held → known.is_index ≡ is_some (catalog_index held) → IsFoundIn rows (database_of name store) (Some known)
  known_there held known is number kind index = by_row (row_of_name name (rows 0)) refl is
    where
      by_row : (o : Option Row) → row_of_name name (rows 0) ≡ o → Some held ≡ option_map {U = List ℕ} (λ (r : Row). r.1) o → IsFoundIn rows (database_of name store) (Some known)
      by_row None there same = cc
      by_row (Some row) there same =
          let data_is : held ≡ row.1 = same_Some held row.1 same in
          subst (λ (d : Option Database). IsFoundIn rows d (Some known)) (database_is (Some row) there)
          (known_by rows name row known environment there (number ∙ ap catalog_number data_is) (kind ∙ ap catalog_kind data_is) (index ∙ ap (λ (l : List ℕ). is_some (catalog_index l)) data_is))

  -- none was: it has none
  pub none_there : None ≡ option_map {U = List ℕ} (λ (r : Row). r.1) (row_of_name name (rows 0)) → IsFoundIn rows (database_of name store) None
  none_there is = by_row (row_of_name name (rows 0)) refl is
    where
      by_row : (o : Option Row) → row_of_name name (rows 0) ≡ o → None ≡ option_map {U = List ℕ} (λ (r : Row). r.1) o → IsFoundIn rows (database_of name store) None
      by_row None there same = subst (λ (d : Option Database). IsFoundIn rows d None) (database_is None there) tt
      by_row (Some row) there same = cc

-- ---- steps of a walk over the catalog

-- a record that is not of that name
pub later_row : (name : List ℕ) (row : Row) (here behind : List Row) → here ≡ row ∷ behind → is_same_bytes row.0.key name ≡ false → row_of_name name behind ≡ row_of_name name here
later_row name row here behind is other = sym (ap (row_of_name name) is ∙ cond-false (is_same_bytes row.0.key name) (Some row) (row_of_name name behind) other)

-- one that is
pub this_row : (name : List ℕ) (row : Row) (here behind : List Row) → here ≡ row ∷ behind → is_same_bytes row.0.key name ≡ true → row_of_name name here ≡ Some row
this_row name row here behind is same = ap (row_of_name name) is ∙ cond-true (is_same_bytes row.0.key name) (Some row) (row_of_name name behind) same

-- none is left
pub no_row : (name : List ℕ) (here : List Row) → None ≡ first_of here → row_of_name name here ≡ None
no_row name [] none = refl
no_row name (row ∷ here) none = cc
