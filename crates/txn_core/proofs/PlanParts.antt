-- What the parts of a plan come to.
use Rattle.std.proofs.Common.{◌≡◌, ℕ, ◌+◌, ◌<◌, ◌≤◌, ◌^◌, List, [], ◌∷◌, ◌++◌, Option, None, Some, map, length, slice_index_or, refl, ap, ap₂, sym, ◌∙◌, arith}
use Rattle.std.specs.Int.{w32, to_be_bytes}
use Rattle.db_catalog.specs.declared.db_record.DbRecord.{DbRecord}
use Rattle.db_catalog.specs.declared.catalog_change.CatalogChange.{CatalogChange}
use Rattle.db_catalog.specs.Catalog.{kind_bytes}
use Rattle.db_catalog.specs.Planning.{kind_in_catalog, index_in_catalog, logged_as, indexed, renewed}
use Rattle.store_model.specs.declared.totals.Totals.{Totals}
use Rattle.store_model.specs.declared.change.Change.{Change}
use Rattle.store_model.specs.declared.change.Change.TheVariants.{Set, Unset, Make, MakeIndex, Remove, Rename, Empty}
use Rattle.store_model.specs.Evaluation.{plain_name}
use Rattle.log_replay.specs.Rows.{Rows}
use Rattle.record_tree.specs.declared.tree_change.TreeChange.{TreeChange}
use Rattle.txn_core.specs.Planning.{gone_by}
use Rattle.txn_core.specs.Plans.{catalog_planned, databases_by, records_without, totals_by}

-- ---- the number of a database that is made

-- behind the last number the bytes begin anew
pub bytes_anew : (last : ℕ) → last < 2 ^ 32 → 2 ^ 32 ≤ last + 1 → to_be_bytes w32 0 ≡ to_be_bytes w32 (last + 1)
bytes_anew last low high = let is : 2 ^ 32 ≡ last + 1 = omega arith in ap (to_be_bytes w32) is

-- only a number's bytes are logged
same_logged : (makes : Option ℕ) (record_of : List ℕ → Option DbRecord) (a b : ℕ) (change : Change) → to_be_bytes w32 a ≡ to_be_bytes w32 b →
    map (catalog_planned makes) (logged_as record_of a change) ≡ map (catalog_planned makes) (logged_as record_of b change)
same_logged makes record_of a b (Set db at value) h = refl
same_logged makes record_of a b (Unset db at) h = refl
same_logged makes record_of a b (Make db kind) h =
    let make : List ℕ → List TreeChange = λ bytes. record { db = 0; name = plain_name db; value = Some (bytes ++ kind_bytes (kind_in_catalog kind)); makes = makes } ∷ [] in ap make h
same_logged makes record_of a b (MakeIndex db index) h = by_record (record_of index.primary)
  where
    by_record : (o : Option DbRecord) → map (catalog_planned makes) (indexed db a index.extract o) ≡ map (catalog_planned makes) (indexed db b index.extract o)
    by_record None = refl
    by_record (Some r) =
        let make : List ℕ → List TreeChange = λ bytes. record { db = 0; name = plain_name db; value = Some (bytes ++ kind_bytes (index_in_catalog r.number index.extract)); makes = makes } ∷ [] in
        ap make h
same_logged makes record_of a b (Remove db) h = refl
same_logged makes record_of a b (Rename db to) h = refl
same_logged makes record_of a b (Empty db) h = by_record (record_of db)
  where
    by_record : (o : Option DbRecord) → map (catalog_planned makes) (renewed db a o) ≡ map (catalog_planned makes) (renewed db b o)
    by_record None = refl
    by_record (Some r) = let make : List ℕ → List TreeChange = λ bytes. record { db = 0; name = plain_name db; value = Some (bytes ++ kind_bytes r.kind); makes = makes } ∷ [] in ap make h

-- ---- the first change

-- a list of at least one change begins with the one at its front
pub first_is : (changes : List Change) (change : Change) → 1 ≤ length changes → change ≡ slice_index_or changes 0 change → (more : List Change) × (changes ≡ change ∷ more)
first_is [] change some is = absurd (omega (arith, some))
first_is (c ∷ more) change some is = (more, ap (λ (x : Change). x ∷ more) (sym is))

-- ---- what a plan rests on

-- ---- what is logged of the catalog

-- the changes are those of the next number, of which only the bytes count
pub logs_next : (makes : Option ℕ) (record_of : List ℕ → Option DbRecord) (a b : ℕ) (change : Change) (logged : List CatalogChange) (changes : List TreeChange) →
    changes ≡ map (catalog_planned makes) logged → logged ≡ logged_as record_of a change → to_be_bytes w32 a ≡ to_be_bytes w32 b → changes ≡ map (catalog_planned makes) (logged_as record_of b change)
logs_next makes record_of a b change logged changes planned is same = planned ∙ ap (map (catalog_planned makes)) is ∙ same_logged makes record_of a b change same

-- how much the store then holds
pub totals_are : (rows : Rows) (change : Change) (totals : Totals) (databases records : ℕ) (gone : Option ℕ) → databases ≡ databases_by totals.databases change → gone ≡ gone_by rows change →
    records ≡ records_without totals.records rows gone → record { databases = databases; records = records } ≡ totals_by totals rows change
totals_are rows change totals databases records gone more goes less =
    let make : ℕ → ℕ → Totals = λ d r. record { databases = d; records = r } in ap₂ make more (less ∙ ap (records_without totals.records rows) goes)
