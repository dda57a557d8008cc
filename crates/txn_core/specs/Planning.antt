-- What a call of a valid environment that is a transaction of its own comes to, from the committed records of its trees.
use Rattle.std.specs.Prelude.{ℕ, ◌≡◌, ◌⊎◌, IsSome, ◌==◌, ◌&&◌, ◌<◌, ◌≤◌, ◌+◌, ◌^◌, ◌∷◌, [], List, Option, Some, None, Bool, true, false, map, nat_lt}
use Rattle.std.specs.List.{AllByRecursion}
use Rattle.je_order.specs.declared.txn_id.TxnId.{TxnId}
use Rattle.store_model.specs.declared.store.TheConstants.{LAST_TXN}
use Rattle.store_model.specs.declared.call.Call.{Call}
use Rattle.store_model.specs.declared.call.Call.TheVariants.{List as Lists, Create, CreateIndex, Remove, Rename, Truncate}
use Rattle.store_model.specs.declared.change.Change.{Change}
use Rattle.store_model.specs.declared.change.Change.TheVariants.{MakeIndex, Remove as Removes, Empty}
use Rattle.store_model.specs.declared.answer.Answer.TheVariants.{NoDatabase}
use Rattle.store_model.specs.Store.{all_changed}
use Rattle.store_model.specs.Evaluation.{Outcome, answers, evaluation}
use Rattle.store_model.specs.Refusals.{made_by}
use Rattle.db_catalog.specs.Planning.{outcome_unless}
use Rattle.je_answers.specs.Views.{Target, target_of}
use Rattle.je_answers.specs.Refusals.{late_refusal}
use Rattle.je_answers.specs.Alone.{Alone, alone, evaluated_on, changes_of_call}
use Rattle.log_entry.specs.Body.{IsEntry}
use Rattle.log_replay.specs.Rows.{Rows, data_at, RowChange, store_of, numbers_of, is_environment, IsRising}
use Rattle.log_replay.specs.Kept.{AllMayBeLogged}
use Rattle.log_replay.specs.Logging.{all_row_changes, number_named}
use Rattle.record_tree.specs.declared.tree_change.TreeChange.{TreeChange}
use Rattle.record_tree.specs.Logged.{entry_for, is_made}
use Rattle.txn_core.specs.declared.planned.Planned.{Planned}
use Rattle.txn_core.specs.declared.planned.Planned.TheVariants.{Answered, Logs, Fills}
use Rattle.txn_core.specs.declared.planned_changes.PlannedChanges.{PlannedChanges}
use Rattle.txn_core.specs.Totals.{totals_of}
use Rattle.txn_core.specs.Known.{Known, has_number}

-- ---- what a call comes to

-- a call on the catalog
abbrev pub IsCatalogCall : Call → Type 0
IsCatalogCall Lists = Unit {0}
IsCatalogCall (Create db kind) = Unit {0}
IsCatalogCall (CreateIndex db index) = Unit {0}
IsCatalogCall (Remove db) = Unit {0}
IsCatalogCall (Rename db to) = Unit {0}
IsCatalogCall (Truncate db) = Unit {0}
IsCatalogCall call = ⊥

-- a call on the records of a database, by evaluation on what is committed
abbrev pub outcome_on : Call → Option Target → Outcome
outcome_on call None = answers NoDatabase
outcome_on call (Some g) = record { answer = (evaluated_on call g).answer; changes = changes_of_call g (evaluated_on call g).changes }

-- a call that is not refused: on the catalog, or on records
abbrev pub performed_outcome : Alone → ℕ → Call → Outcome
performed_outcome p session Lists = evaluation Lists p.store
performed_outcome p session (Create db kind) = evaluation (Create db kind) p.store
performed_outcome p session (CreateIndex db index) = evaluation (CreateIndex db index) p.store
performed_outcome p session (Remove db) = evaluation (Remove db) p.store
performed_outcome p session (Rename db to) = evaluation (Rename db to) p.store
performed_outcome p session (Truncate db) = evaluation (Truncate db) p.store
performed_outcome p session call = outcome_on call (target_of (alone p) session call)

-- a call that is a transaction of its own, where no limit is asked: its refusal, else what it evaluates to
abbrev pub outcome_alone : Alone → ℕ → Call → Outcome
outcome_alone p session call = outcome_unless (late_refusal (alone p) session call) (performed_outcome p session call)

-- ---- what is planned

-- a change of a tree as a change of a record, by a transaction
abbrev pub row_by : ℕ → TreeChange → RowChange
row_by txn c = record { txn = txn; db = c.db; name = c.name; value = c.value }

-- the database whose tree goes with a change of the store: the one that is removed, and the old one of one that is emptied
abbrev pub gone_by : Rows → Change → Option ℕ
gone_by rows (Removes db) = Some (number_named rows db)
gone_by rows (Empty db) = Some (number_named rows db)
gone_by rows change = None

-- whether a change makes an index, whose pairs come behind it
abbrev pub is_index : Change → Bool
is_index (MakeIndex db index) = true
is_index change = false

-- and whether the first one of changes does
abbrev pub makes_index : List Change → Bool
makes_index [] = false
makes_index (change ∷ more) = is_index change

-- what a plan needs of what it rests on: the records are those of an environment, with no later number than the last one, and the totals are
-- those of their store
pub record CanPlan (known : Known) : Type 0 where
  pub environment : is_environment known.rows ≡ true
  pub rising : (db : ℕ) → IsRising (known.rows db)
  pub unused : (db : ℕ) → known.last_db < db → known.rows db ≡ []
  pub numbers : AllByRecursion (λ n. n ≤ known.last_db) (numbers_of known.rows)
  pub totals : known.totals ≡ totals_of (store_of known.rows)

-- the records make the model's store, with the model's database number, and a transaction number is left
pub record HasModel (known : Known) (p : Alone) : Type 0 where
  pub store : store_of known.rows ≡ p.store
  pub last_db : known.last_db ≡ p.last_db
  pub below : p.last_txn < LAST_TXN

-- of the changes of each database at most one is of a name that has no record
abbrev pub HaveFewNew : Rows → List TreeChange → Type 0
HaveFewNew rows [] = Unit {0}
HaveFewNew rows (c ∷ changes) =
    AllByRecursion (λ e. c.db ≡ e.db → IsSome (data_at c.name (rows c.db)) ⊎ IsSome (data_at e.name (rows e.db))) changes × HaveFewNew rows changes

-- what a call may log: its changes of the store, at least one, as the changes of trees that log them by whatever transaction, in order. Each
-- makes an entry that can be encoded, in a database that is there. The numbers and the totals are those after them. Where the last number has
-- its width, they make the database of that number, if a number is allocated, and no other. The tree that goes is the one of the first change
pub record IsPlannedLog (known : Known) (p : Alone) (session : ℕ) (call : Call) (planned : PlannedChanges) : Type 0 where
  pub change : Change
  pub more : List Change
  pub changes : (outcome_alone p session call).changes ≡ change ∷ more
  pub rows : (txn : ℕ) → map (row_by txn) planned.changes.items ≡ all_row_changes txn known.last_db (change ∷ more) known.rows
  pub entries : (txn : TxnId) → txn.0 < 2 ^ 64 → AllByRecursion (λ c. IsEntry (entry_for txn c.db c.name c.value)) planned.changes.items
  pub may : planned.last_db < 2 ^ 32 → AllMayBeLogged known.rows known.last_db (change ∷ more)
  pub last_db : planned.last_db ≡ known.last_db + made_by (change ∷ more)
  pub totals : planned.totals ≡ totals_of (all_changed (change ∷ more) p.store)
  pub there : is_index change ≡ false → AllByRecursion (λ c. has_number (numbers_of known.rows) c.db ≡ true) planned.changes.items
  pub made : planned.last_db < 2 ^ 32 → (d : ℕ) → is_made d planned.changes.items ≡ (nat_lt known.last_db planned.last_db && (d == planned.last_db))
  pub gone_is : planned.gone ≡ gone_by known.rows change
  pub few : is_index change ≡ false → HaveFewNew known.rows planned.changes.items

-- changes that make an index and fill it: the first one, of the catalog, makes the database of the last number, where that has its width, and the others
-- are of that database
pub record IsPlannedFill (planned : PlannedChanges) : Type 0 where
  pub first : TreeChange
  pub rows : List TreeChange
  pub are : planned.changes.items ≡ first ∷ rows
  pub catalog : first.db ≡ 0
  pub makes : planned.last_db < 2 ^ 32 → first.makes ≡ Some planned.last_db
  pub of_it : planned.last_db < 2 ^ 32 → AllByRecursion (λ r. (r.db ≡ planned.last_db) × (r.makes ≡ None)) rows

-- what a call comes to is what the model says: an answer that changes nothing, or changes to be logged
abbrev pub IsPlanned : Known → Alone → ℕ → Call → Planned → Type 0
IsPlanned known p session call (Answered answer) = outcome_alone p session call ≡ answers answer
IsPlanned known p session call (Logs planned) = (log : IsPlannedLog known p session call planned) × (is_index log.change ≡ false)
IsPlanned known p session call (Fills planned) = (log : IsPlannedLog known p session call planned) × (is_index log.change ≡ true) × IsPlannedFill planned
