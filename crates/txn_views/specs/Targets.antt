-- The databases that a call is on, as a plan knows them, and what a call comes to on them.
use Rattle.std.specs.Prelude.{ℕ, ◌≡◌, ◌⊎◌, [], List, Option, None, Some, IfSome, true, map, option_map}
use Rattle.std.specs.List.{AllByRecursion, flat_map}
use Rattle.std.specs.Map.{keys_of}
use Rattle.je_order.specs.declared.name.Name.{Name}
use Rattle.je_order.specs.declared.txn_id.TxnId.{TxnId}
use Rattle.record_map.specs.Cells.{IsRising}
use Rattle.record_tree.specs.Occupied.{AllCells}
use Rattle.store_model.specs.declared.kind.Kind.{Kind}
use Rattle.store_model.specs.declared.kind.Kind.TheVariants.{Plain, Dup}
use Rattle.store_model.specs.declared.isolation.Isolation.{Isolation}
use Rattle.store_model.specs.declared.call.Call.{Call}
use Rattle.store_model.specs.declared.need.Need.{Need}
use Rattle.store_model.specs.declared.record_change.RecordChange.{RecordChange}
use Rattle.store_model.specs.Store.{Pair}
use Rattle.store_model.specs.Records.{Evaluated, evaluation}
use Rattle.store_model.specs.declared.index.Index.{Index}
use Rattle.store_model.specs.Indexes.{Numbered, index_changes, changes_in, all_changes, answer_through}
use Rattle.store_model.specs.Needs.{write_needs, needs_through}
use Rattle.je_answers.specs.declared.active.Active.{Active}
use Rattle.je_answers.specs.Standing.{Standing}
use Rattle.je_answers.specs.Views.{Target, view_in, occupied_in, changes_with, with_numbers, outcome_of, needs_in}
use Rattle.log_replay.specs.Rows.{are_right, pair_of}
use Rattle.db_catalog.specs.declared.found_db.FoundDb.{FoundDb}
use Rattle.index_map.specs.Laws.{db_at, indexes_at, known, over_of}
use Rattle.txn_views.specs.declared.found_target.FoundTarget.{FoundTarget}
use Rattle.txn_views.specs.declared.db_change.DbChange.{DbChange}
use Rattle.txn_views.specs.declared.outcome_plan.OutcomePlan.{OutcomePlan}
use Rattle.txn_views.specs.declared.target_plan.TargetPlan.{TargetPlan}
use Rattle.txn_views.specs.Seen.{seen_rows}

-- a database by what a plan knows of it
abbrev pub found_at : FoundDb → Numbered
found_at db = db_at db.number db.kind

-- ---- what a transaction sees in them

abbrev pub seen_in : Isolation → TxnId → AllCells → Numbered → List Pair
seen_in level txn cells d = map (pair_of d.1.kind) (seen_rows level txn (cells d.0))

abbrev pub names_in : AllCells → Numbered → List Name
names_in cells d = keys_of (cells d.0)

-- the records are right, and the names rise
pub record IsReadable (level : Isolation) (txn : TxnId) (cells : AllCells) (number : ℕ) (kind : Kind) : Type 0 where
  pub right : are_right kind (seen_rows level txn (cells number)) ≡ true
  pub rising : IsRising (cells number)

-- the database in which a call through it changes records
abbrev pub changing_at : Option ℕ → FoundDb → FoundDb
changing_at None db = db
changing_at (Some number) db = record { number = number; kind = Plain }

-- of each database that a call is on; one that has indexes is plain
pub record AreReadable (level : Isolation) (txn : TxnId) (cells : AllCells) (found : FoundTarget) : Type 0 where
  pub db : IsReadable level txn cells found.db.number found.db.kind
  pub over : IfSome found.over (λ number. IsReadable level txn cells number Plain)
  pub indexes : AllByRecursion (λ i. IsReadable level txn cells i.number Dup) found.indexes.now
  pub plain : ((changing_at found.over found.db).kind ≡ Plain) ⊎ (found.indexes.now ≡ [])

-- ---- what a call comes to

-- what changes in the pairs of an index; nothing where it is none
abbrev pub pairs_by : Option Index → List ℕ → Option (List ℕ) → Option (List ℕ) → List RecordChange
pairs_by None key old new = []
pairs_by (Some index) key old new = index_changes index.extract key old new

-- a change with its database
abbrev pub found_change : Numbered × RecordChange → DbChange
found_change c = record { db = record { number = c.0.0; kind = c.0.1.kind }; change = c.1 }

abbrev pub found_changes : List (Numbered × RecordChange) → List DbChange
found_changes changes = map found_change changes

-- changes with their databases' numbers
abbrev pub with_found_numbers : List DbChange → List (ℕ × RecordChange)
with_found_numbers changes = map (λ c. (c.db.number, c.change)) changes

-- what changes in an index with the record of a key, by its data before and after
abbrev pub pairs_in : List ℕ → Option (List ℕ) → Option (List ℕ) → Numbered → List (Numbered × RecordChange)
pairs_in key old new i = map (λ c. (i, c)) (pairs_by i.1.index key old new)

-- what changes in the indexes with a change of a record in their database
abbrev pub indexes_with : List Numbered → List Pair → RecordChange → List (Numbered × RecordChange)
indexes_with indexes records change = flat_map (λ i. map (λ c. (i, c)) (changes_in i.1.index records change)) indexes

-- what a change locks
abbrev pub needs_for : Isolation → TxnId → AllCells → DbChange → List Need
needs_for level txn cells c =
    write_needs level c.db.number c.db.kind (seen_in level txn cells (found_at c.db)) (names_in cells (found_at c.db)) c.change

-- what a call comes to on what the transaction sees
abbrev pub evaluated_at : Isolation → TxnId → AllCells → FoundTarget → Call → Option Name → Evaluated
evaluated_at level txn cells found call at = evaluation found.db.kind call at (seen_in level txn cells (found_at found.db))

-- the plan is what the model says
pub record IsTargetPlan (level : Isolation) (txn : TxnId) (cells : AllCells) (found : FoundTarget) (call : Call) (at : Option Name) (p : TargetPlan) : Type 0 where
  pub answer : p.answer ≡ answer_through (over_of found.over) (seen_in level txn cells) (evaluated_at level txn cells found call at).answer
  pub changes : p.changes.items ≡ with_found_numbers (found_changes (all_changes (over_of found.over) (found_at found.db) (indexes_at found.indexes.now) (seen_in level txn cells)
      (evaluated_at level txn cells found call at).changes))
  pub needs : p.needs.items ≡ needs_through level (over_of found.over) (found_at found.db) (indexes_at found.indexes.now) (seen_in level txn cells) (names_in cells) call at
  pub place : p.place ≡ (evaluated_at level txn cells found call at).place

-- and that of a call without a cursor, without its locks
pub record IsOutcomePlan (level : Isolation) (txn : TxnId) (cells : AllCells) (found : FoundTarget) (call : Call) (p : OutcomePlan) : Type 0 where
  pub answer : p.answer ≡ answer_through (over_of found.over) (seen_in level txn cells) (evaluated_at level txn cells found call None).answer
  pub changes : p.changes.items ≡ with_found_numbers (found_changes (all_changes (over_of found.over) (found_at found.db) (indexes_at found.indexes.now) (seen_in level txn cells)
      (evaluated_at level txn cells found call None).changes))

-- ---- the target of a call in a standing

-- the databases that were found are those of a target
pub record IsFoundTarget (g : Target) (found : FoundTarget) : Type 0 where
  pub number : found.db.number ≡ g.db
  pub kind : found.db.kind ≡ g.database.kind
  pub over : over_of found.over ≡ option_map known g.over
  pub indexes : indexes_at found.indexes.now ≡ map known g.indexes

-- a transaction sees in the cells the records and the occupied names of a database that the model has, and so in each of a target
abbrev pub IsSeenAs : Standing → Active → AllCells → Numbered → Type 0
IsSeenAs st a cells d = (seen_in a.level a.txn cells d ≡ view_in st a d) × (names_in cells d ≡ occupied_in st d)

pub record AreSeenAs (st : Standing) (a : Active) (g : Target) (cells : AllCells) : Type 0 where
  pub db : IsSeenAs st a cells (g.db, g.database)
  pub over : IfSome g.over (IsSeenAs st a cells)
  pub indexes : AllByRecursion (IsSeenAs st a cells) g.indexes

-- the plan is what the call comes to in the standing
pub record IsPlanIn (st : Standing) (a : Active) (call : Call) (g : Target) (p : TargetPlan) : Type 0 where
  pub answer : p.answer ≡ (outcome_of st a call g).answer
  pub changes : p.changes.items ≡ with_numbers (changes_with st a g (outcome_of st a call g).changes)
  pub needs : p.needs.items ≡ needs_in st a call g
  pub place : p.place ≡ (outcome_of st a call g).place

abbrev pub PlansAreModels : Type 0
PlansAreModels = (st : Standing) (a : Active) (call : Call) (g : Target) (cells : AllCells) (found : FoundTarget) (p : TargetPlan) → IsFoundTarget g found → AreSeenAs st a g cells →
    IsTargetPlan a.level a.txn cells found call g.at p → IsPlanIn st a call g p

-- and so of a plan without locks, for a call without a cursor
pub record IsOutcomeIn (st : Standing) (a : Active) (call : Call) (g : Target) (p : OutcomePlan) : Type 0 where
  pub answer : p.answer ≡ (outcome_of st a call g).answer
  pub changes : p.changes.items ≡ with_numbers (changes_with st a g (outcome_of st a call g).changes)

abbrev pub OutcomesAreModels : Type 0
OutcomesAreModels = (st : Standing) (a : Active) (call : Call) (g : Target) (cells : AllCells) (found : FoundTarget) (p : OutcomePlan) → IsFoundTarget g found → AreSeenAs st a g cells → g.at ≡ None →
    IsOutcomePlan a.level a.txn cells found call p → IsOutcomeIn st a call g p
