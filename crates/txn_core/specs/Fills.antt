-- What the making of an index and its filling come to, from the committed records.
use Rattle.std.specs.Prelude.{ℕ, ◌≡◌, ◌+◌, ◌++◌, ◌<◌, ◌≤◌, ◌^◌, ◌∷◌, [], List, map, length}
use Rattle.std.specs.List.{AllByRecursion}
use Rattle.store_model.specs.declared.call.Call.TheVariants.{CreateIndex}
use Rattle.store_model.specs.declared.change.Change.{Change}
use Rattle.store_model.specs.declared.extract.Extract.{Extract}
use Rattle.store_model.specs.declared.index.Index.{Index}
use Rattle.store_model.specs.declared.kind.Kind.TheVariants.{Plain}
use Rattle.store_model.specs.declared.record_change.RecordChange.{RecordChange}
use Rattle.store_model.specs.declared.record_change.RecordChange.TheVariants.{Set}
use Rattle.store_model.specs.declared.totals.Totals.{Totals}
use Rattle.store_model.specs.Store.{Pair, named, HasRisingNames}
use Rattle.store_model.specs.Indexes.{index_pairs}
use Rattle.store_model.specs.Evaluation.{Outcome}
use Rattle.db_catalog.specs.Planning.{catalog_part, outcome_of}
use Rattle.log_replay.specs.Rows.{Rows, pair_of, store_of}
use Rattle.log_replay.specs.Logging.{number_named}
use Rattle.record_tree.specs.declared.tree_change.TreeChange.{TreeChange}
use Rattle.txn_core.specs.declared.planned.Planned.{Planned}
use Rattle.txn_core.specs.declared.planned.Planned.TheVariants.{Answered, Logs, Fills}
use Rattle.txn_core.specs.declared.planned_changes.PlannedChanges.{PlannedChanges}
use Rattle.txn_core.specs.Known.{Known}
use Rattle.txn_core.specs.Plans.{record_planned, LogsCatalog}

-- the records of the plain database of a number
abbrev pub records_at : Rows → ℕ → List Pair
records_at rows number = map (pair_of Plain) (rows number)

-- a pair that comes, as a change of records, and what is planned of it in the index of a number
abbrev pub pair_put : Pair → RecordChange
pair_put p = Set (named p.0 p.1) []

abbrev pub pair_planned : ℕ → Pair → TreeChange
pair_planned number p = record_planned number (pair_put p)

-- a pair's name is within its limits
abbrev pub IsShortPair : Pair → Type 0
IsShortPair p = (length p.0 ≤ 4096) × (length p.1 ≤ 4096)

-- the number that the next database has in the bytes of the catalog's record of it: none behind the last one
pub record IsNumberNext (last_db number : ℕ) : Type 0 where
  pub next : last_db + 1 < 2 ^ 32 → number ≡ last_db + 1
  pub none : 2 ^ 32 ≤ last_db + 1 → number ≡ 0

abbrev pub totals_with : Totals → ℕ → Totals
totals_with totals more = record { databases = totals.databases; records = totals.records + more }

-- changes that make an index, with those that put the pairs of the primary's records behind them
pub record FillsWith (made : PlannedChanges) (last : ℕ) (extract : Extract) (records : List Pair) (filled : PlannedChanges) : Type 0 where
  pub ps : List Pair
  pub are : HasRisingNames Plain records → ps ≡ index_pairs extract records
  pub number : ℕ
  pub is_next : IsNumberNext last number
  pub changes : filled.changes.items ≡ made.changes.items ++ map (pair_planned number) ps
  pub short : AllByRecursion IsShortPair ps
  pub last_db : filled.last_db ≡ made.last_db
  pub totals : filled.totals ≡ totals_with made.totals (length ps)
  pub gone : filled.gone ≡ made.gone

-- what the making of an index comes to in the catalog
abbrev pub made_in_catalog : Known → List ℕ → Index → Outcome
made_in_catalog known db index = catalog_part (outcome_of (CreateIndex db index) (store_of known.rows))

-- what it comes to with its pairs
abbrev pub IsIndexPlan : Known → List ℕ → Index → Planned → Type 0
IsIndexPlan known db index (Answered answer) = ((made_in_catalog known db index).answer ≡ answer) × ((made_in_catalog known db index).changes ≡ [])
IsIndexPlan known db index (Logs planned) = ⊥
IsIndexPlan known db index (Fills planned) =
    (change : Change) × (more : List Change) × ((made_in_catalog known db index).changes ≡ change ∷ more) × (made : PlannedChanges) × LogsCatalog known change made
    × FillsWith made known.last_db index.extract (records_at known.rows (number_named known.rows index.primary)) planned
