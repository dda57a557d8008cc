-- What an environment knows of its databases is what its catalog's records say, so it stays where these stay.
use Rattle.std.proofs.Common.{◌≡◌, ◌∙◌, ◌==◌, ℕ, true, List, Option, None, Some, find, option_map, refl, ap, sym, subst}
use Rattle.std.specs.List.{AllByRecursion}
use Rattle.std.proofs.lemmas.Bool.{eqb-true}
use Rattle.store_model.specs.declared.extract.Extract.{Extract}
use Rattle.store_model.specs.declared.index.Index.{Index}
use Rattle.store_model.specs.declared.store.Database.{Database}
use Rattle.store_model.specs.declared.store.Store.{Store}
use Rattle.je_answers.specs.Standing.{Standing}
use Rattle.log_replay.specs.Rows.{Row, Rows, catalog_index, catalog_number, database_in, has_primary, index_in, index_over, row_numbered}
use Rattle.log_replay.specs.Logging.{number_named}
use Rattle.log_replay.proofs.ListLaws.{all_weaker, find-map, found}
use Rattle.log_replay.proofs.LoggedLaws.{plain_there}
use Rattle.log_replay.proofs.StoreLaws.{HasPrimary, environment_parts, primaries_in}
use Rattle.txn_log.specs.Committing.{MakesStore}
use Rattle.txn_log.proofs.CommittingLaws.{each_named}
use Rattle.index_map.specs.Made.{index_by, made_in}
use Rattle.index_map.proofs.Changes.{alike}
use Rattle.index_map.specs.Map.{HasIndexes}
use Rattle.db_names.specs.Names.{HasNames, names_in}
use Rattle.engine.specs.declared.kept.Kept.{Kept}
use Rattle.index_map.specs.declared.index_map.IndexMap.{IndexMap}
use Rattle.db_names.specs.declared.db_names.DbNames.{DbNames}
use Rattle.standing_laws.proofs.Stopped.{LeavesSame}
use Rattle.environment.specs.Valid.{HaveDatabases, KnowsDatabases, index_made, made_at, name_at, numbered_in}

module _ (rows : Rows) (last_db : ℕ) (st : Standing) (makes : MakesStore rows last_db st) where
  -- a record's name has its number
  each_numbered : AllByRecursion (λ (r : Row). st.numbers r.0.key ≡ catalog_number r.1) (rows 0)
  each_numbered =
      all_weaker (λ (r : Row). number_named rows r.0.key ≡ catalog_number r.1) (λ r. st.numbers r.0.key ≡ catalog_number r.1) (λ r is. sym (makes.named r.0.key) ∙ is) (rows 0)
      (each_named rows (environment_parts rows makes.environment) (makes.rising 0))

  -- the database of a number is that of the catalog's record of it
  pub by_record : (n : ℕ) → numbered_in st.numbers st.store n ≡ option_map (database_in rows) (row_numbered n (rows 0))
  by_record n =
      ap (λ (s : Store). find (λ d. st.numbers d.name == n) s.databases) (sym makes.store)
      ∙ find-map (database_in rows) (λ (d : Database). st.numbers d.name == n) (λ (r : Row). catalog_number r.1 == n) (rows 0)
      (all_weaker (λ (r : Row). st.numbers r.0.key ≡ catalog_number r.1) (λ r. (st.numbers r.0.key == n) ≡ (catalog_number r.1 == n)) (λ r is. ap (λ (m : ℕ). m == n) is) (rows 0) each_numbered)

  -- the record that a number finds
  numbered : (n : ℕ) (r : Row) → row_numbered n (rows 0) ≡ Some r → st.numbers r.0.key ≡ n
  numbered n r at =
      let one = found (λ (x : Row). st.numbers x.0.key ≡ catalog_number x.1) (λ x. catalog_number x.1 == n) (rows 0) r at each_numbered in one.0 ∙ eqb-true (catalog_number r.1) n one.1

  index_is : (o : Option (ℕ × Extract)) → has_primary (rows 0) o ≡ true → option_map (λ (i : Index). (st.numbers i.primary, i.extract)) (index_in (rows 0) o) ≡ o
  index_is None has = refl
  index_is (Some m) has =
      let p = plain_there (row_numbered m.0 (rows 0)) has in
      ap (λ (x : Option Row). option_map (λ (i : Index). (st.numbers i.primary, i.extract)) (option_map (index_over m.1) x)) p.1 ∙ ap (λ (n : ℕ). Some (n, m.1)) (numbered m.0 p.0 p.1)

  -- the indexes and the names of the store's databases are those of the catalog's records
  pub made_is : (n : ℕ) → made_at st.numbers st.store n ≡ made_in (rows 0) n
  made_is n = ap (index_made st.numbers) (by_record n) ∙ by (row_numbered n (rows 0)) refl
    where
      by : (o : Option Row) → row_numbered n (rows 0) ≡ o → index_made st.numbers (option_map (database_in rows) (row_numbered n (rows 0))) ≡ made_in (rows 0) n
      by None e = ap (λ (o : Option Row). index_made st.numbers (option_map (database_in rows) o)) e ∙ sym (ap index_by e)
      by (Some r) e =
          ap (λ (o : Option Row). index_made st.numbers (option_map (database_in rows) o)) e
          ∙ index_is (catalog_index r.1) (found (HasPrimary (rows 0)) (λ x. catalog_number x.1 == n) (rows 0) r e (primaries_in rows makes.environment)).0
          ∙ sym (ap index_by e)

  pub name_is : (n : ℕ) → name_at st.numbers st.store n ≡ names_in (rows 0) n
  name_is n = ap (option_map (λ (d : Database). d.name)) (by_record n) ∙ by (row_numbered n (rows 0))
    where
      by : (o : Option Row) → option_map (λ (d : Database). d.name) (option_map (database_in rows) o) ≡ option_map (λ (r : Row). r.0.key) o
      by None = refl
      by (Some r) = refl

-- records that make another standing's store, with the same catalog: what is known stays
pub still_known : (rows later : Rows) (last_db later_db : ℕ) (st after : Standing) (kept : Kept) → MakesStore rows last_db st → MakesStore later later_db after → later 0 ≡ rows 0 → KnowsDatabases st kept → KnowsDatabases after kept
still_known rows later last_db later_db st after kept makes made same knows = record {
  indexes_are =
      alike (made_at st.numbers st.store) (made_at after.numbers after.store) kept.indexes
      (λ n. made_is later later_db after made n ∙ ap (λ (c : List Row). made_in c n) same ∙ sym (made_is rows last_db st makes n)) knows.indexes_are;
  names_are = λ n.
      knows.names_are n ∙ name_is rows last_db st makes n ∙ ap (λ (c : List Row). names_in c n) (sym same) ∙ sym (name_is later later_db after made n);
}

-- it stays with a standing's store and numbers
pub known_leaves : (st after : Standing) (kept : Kept) → LeavesSame st after → KnowsDatabases st kept → KnowsDatabases after kept
known_leaves st after kept same knows =
    subst (λ (numbers : List ℕ → ℕ). HaveDatabases numbers after.store kept.indexes kept.names) (sym same.numbers)
    (subst (λ (store : Store). HaveDatabases st.numbers store kept.indexes kept.names) (sym same.store) knows)

-- and in other maps that are the same
abbrev pub AreSameMaps : Kept → Kept → Type 0
AreSameMaps old new = (new.indexes ≡ old.indexes) × (new.names ≡ old.names)

pub known_moved : (st : Standing) (old new : Kept) → AreSameMaps old new → KnowsDatabases st old → KnowsDatabases st new
known_moved st old new same knows =
    subst (λ (indexes : IndexMap). HaveDatabases st.numbers st.store indexes new.names) (sym same.0)
    (subst (λ (names : DbNames). HaveDatabases st.numbers st.store old.indexes names) (sym same.1) knows)

-- what was read from the catalog's records is what is known of a standing whose store they make
pub known_from : (rows : Rows) (last_db : ℕ) (st : Standing) (kept : Kept) → MakesStore rows last_db st → HasIndexes (made_in (rows 0)) kept.indexes → HasNames (names_in (rows 0)) kept.names → KnowsDatabases st kept
known_from rows last_db st kept makes indexes names = record {
  indexes_are = alike (made_in (rows 0)) (made_at st.numbers st.store) kept.indexes (λ n. made_is rows last_db st makes n) indexes;
  names_are = λ n. names n ∙ sym (name_is rows last_db st makes n);
}
