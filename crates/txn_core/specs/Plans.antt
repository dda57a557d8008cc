-- What the parts of a plan come to, from the committed records.
use Rattle.std.specs.Prelude.{ℕ, ◌≡◌, ◌+◌, ◌-◌, ◌<◌, ◌^◌, ◌∷◌, [], List, Option, Some, None, map, length, IsTrue}
use Rattle.je_order.specs.Words.{is_word}
use Rattle.store_model.specs.declared.change.Change.{Change}
use Rattle.store_model.specs.declared.change.Change.TheVariants.{Make, MakeIndex, Remove, Rename, Empty}
use Rattle.store_model.specs.declared.record_change.RecordChange.{RecordChange}
use Rattle.store_model.specs.declared.record_change.RecordChange.TheVariants.{Set, Unset}
use Rattle.store_model.specs.declared.totals.Totals.{Totals}
use Rattle.store_model.specs.Evaluation.{Outcome, plain_name}
use Rattle.store_model.specs.Refusals.{made_by}
use Rattle.db_catalog.specs.declared.catalog_change.CatalogChange.{CatalogChange}
use Rattle.db_catalog.specs.declared.catalog_change.CatalogChange.TheVariants.{Put as PutRecord, Delete as DeleteRecord}
use Rattle.db_catalog.specs.Catalog.{IsKind, record_bytes}
use Rattle.db_catalog.specs.Planning.{index_in_catalog, logged_as}
use Rattle.log_replay.specs.Rows.{Rows}
use Rattle.log_replay.specs.Kept.{Fits}
use Rattle.log_replay.specs.Logging.{record_named, number_named}
use Rattle.record_tree.specs.declared.tree_change.TreeChange.{TreeChange}
use Rattle.txn_core.specs.declared.planned.Planned.{Planned}
use Rattle.txn_core.specs.declared.planned.Planned.TheVariants.{Answered, Logs, Fills}
use Rattle.txn_core.specs.declared.planned_changes.PlannedChanges.{PlannedChanges}
use Rattle.txn_core.specs.Known.{Known}
use Rattle.txn_core.specs.Planning.{gone_by}

-- ---- records

-- a change of the records of the database of a number
abbrev pub record_planned : ℕ → RecordChange → TreeChange
record_planned number (Set at value) = record { db = number; name = at; value = Some value; makes = None }
record_planned number (Unset at) = record { db = number; name = at; value = None; makes = None }

-- ---- the catalog

-- a change of the catalog's records; one that sets a record makes the database of the number, if there is one
abbrev pub catalog_planned : Option ℕ → CatalogChange → TreeChange
catalog_planned makes (PutRecord db row) = record { db = 0; name = plain_name db; value = Some (record_bytes row); makes = makes }
catalog_planned makes (DeleteRecord db) = record { db = 0; name = plain_name db; value = None; makes = None }

-- the number that a change gives a database that it makes or empties, where this is the next one
abbrev pub number_made : ℕ → Change → Option ℕ
number_made number (Make db kind) = Some number
number_made number (MakeIndex db index) = Some number
number_made number (Empty db) = Some number
number_made number change = None

-- how many databases there are after a change of the catalog, how many records without those of a database that goes, and how much the store
-- then holds
abbrev pub databases_by : ℕ → Change → ℕ
databases_by databases (Make db kind) = databases + 1
databases_by databases (MakeIndex db index) = databases + 1
databases_by databases (Remove db) = databases - 1
databases_by databases change = databases

abbrev pub records_without : ℕ → Rows → Option ℕ → ℕ
records_without records rows None = records
records_without records rows (Some number) = records - length (rows number)

abbrev pub totals_by : Totals → Rows → Change → Totals
totals_by totals rows change = record { databases = databases_by totals.databases change; records = records_without totals.records rows (gone_by rows change) }

-- the name that a change gives a database is one
abbrev pub IsNamed : Change → Type 0
IsNamed (Make db kind) = IsTrue (is_word db)
IsNamed (MakeIndex db index) = IsTrue (is_word db)
IsNamed (Rename db to) = IsTrue (is_word to)
IsNamed change = Unit {0}

-- the record of a database that is renamed or emptied has fields of their widths, and so has that of an index that is made
abbrev pub HasFitting : Rows → Change → Type 0
HasFitting rows (MakeIndex db index) = IsKind (index_in_catalog (number_named rows index.primary) index.extract)
HasFitting rows (Rename db to) = Fits (record_named rows db)
HasFitting rows (Empty db) = Fits (record_named rows db)
HasFitting rows change = Unit {0}

-- a change of the catalog is to be logged
pub record LogsCatalog (known : Known) (change : Change) (planned : PlannedChanges) : Type 0 where
  pub named : IsNamed change
  pub fits : HasFitting known.rows change
  pub makes : Option ℕ
  pub is_next : known.last_db + made_by (change ∷ []) < 2 ^ 32 → makes ≡ number_made (known.last_db + 1) change
  pub rows : planned.changes.items ≡ map (catalog_planned makes) (logged_as (record_named known.rows) (known.last_db + 1) change)
  pub last_db : planned.last_db ≡ known.last_db + made_by (change ∷ [])
  pub totals : planned.totals ≡ totals_by known.totals known.rows change
  pub gone : planned.gone ≡ gone_by known.rows change

-- what a call on the catalog comes to
abbrev pub IsCatalogPlan : Known → Outcome → Planned → Type 0
IsCatalogPlan known outcome (Answered answer) = (outcome.answer ≡ answer) × (outcome.changes ≡ [])
IsCatalogPlan known outcome (Logs planned) = (change : Change) × (more : List Change) × (outcome.changes ≡ change ∷ more) × LogsCatalog known change planned
IsCatalogPlan known outcome (Fills planned) = ⊥
