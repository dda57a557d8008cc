-- What calls plan to log: changes of which all but the first are of records. What they leave of the records and of the numbers of databases.
use Rattle.std.proofs.Common.{◌≡◌, ℕ, ◌<◌, ◌≤◌, ◌^◌, ◌==◌, ◌||◌, arith, map, refl, sym, Bool, true, false, cond, List, [], ◌∷◌, Option, None, Some, ap, subst, ◌∙◌}
use Rattle.std.specs.Prelude.{IfSome}
use Rattle.std.specs.List.{AllByRecursion, list_any}
use Rattle.std.proofs.lemmas.Bool.{eq-eqb, ne_eqb, or_from, or_left, or_right}
use mathlib.Core.Path.{fun_ext}
use Rattle.store_model.specs.declared.answer.Answer.{Answer}
use Rattle.store_model.specs.declared.call.Call.{Call}
use Rattle.store_model.specs.declared.call.Call.TheVariants.{List as Lists, Create, CreateIndex, Remove, Rename, Truncate}
use Rattle.store_model.specs.declared.change.Change.{Change}
use Rattle.store_model.specs.declared.change.Change.TheVariants.{Set}
use Rattle.store_model.specs.declared.record_change.RecordChange.{RecordChange}
use Rattle.store_model.specs.declared.record_change.RecordChange.TheVariants.{Set as SetRecord, Unset as UnsetRecord}
use Rattle.store_model.specs.declared.store.Store.{Store}
use Rattle.store_model.specs.declared.store.Database.{Database}
use Rattle.store_model.specs.declared.index.Index.{Index}
use Rattle.store_model.specs.Store.{Pair, change_in, database_of, named}
use Rattle.store_model.specs.Indexes.{Numbered, all_changes, index_pairs}
use Rattle.store_model.specs.Evaluation.{Outcome, emptying, evaluation_in, indexing}
use Rattle.db_catalog.specs.Planning.{outcome_unless}
use Rattle.je_answers.specs.Views.{Target, target_of, with_names}
use Rattle.je_answers.specs.Refusals.{late_refusal}
use Rattle.je_answers.specs.Alone.{Alone, alone, changes_of_call, evaluated_on, records_of}
use Rattle.log_replay.specs.Rows.{Row, Rows, catalog_number, numbers_of}
use Rattle.log_replay.specs.Kept.{IsRecordChange}
use Rattle.log_replay.proofs.StoreLaws.{number_of_row}
use Rattle.log_replay.proofs.LoggedLaws.{IsSound}
use Rattle.record_tree.specs.declared.tree_change.TreeChange.{TreeChange}
use Rattle.record_tree.specs.Logged.{is_made, makes_db}
use Rattle.txn_core.specs.declared.planned_changes.PlannedChanges.{PlannedChanges}
use Rattle.txn_core.specs.Known.{has_number}
use Rattle.txn_core.specs.Planning.{outcome_on, performed_outcome, outcome_alone, IsPlannedLog}
use Rattle.txn_core.specs.Transactions.{is_gone, HasTreesAfter}
use Rattle.engine.specs.Contents.{Contents, known, rows_after, HasLogged}
use Rattle.engine.proofs.PlannedRows.{ArePlanned}
use Rattle.engine.proofs.PlannedNumbers.{planned_numbers}

-- ---- what a call comes to

abbrev LaterAreRecords : List Change → Type 0
LaterAreRecords [] = Unit {0}
LaterAreRecords (change ∷ more) = AllByRecursion IsRecordChange more

is_of_record : (name : List ℕ) (change : RecordChange) → IsRecordChange (change_in name change)
is_of_record name (SetRecord at value) = tt
is_of_record name (UnsetRecord at) = tt

records_named : (changes : List (Numbered × RecordChange)) → AllByRecursion IsRecordChange (with_names changes)
records_named [] = tt
records_named (c ∷ changes) = (is_of_record c.0.1.name c.1, records_named changes)

records_in : (g : Target) (changes : List RecordChange) → AllByRecursion IsRecordChange (changes_of_call g changes)
records_in g changes = records_named (all_changes g.over (g.db, g.database) g.indexes records_of changes)

later_in : (changes : List Change) → AllByRecursion IsRecordChange changes → LaterAreRecords changes
later_in [] all = tt
later_in (change ∷ changes) all = all.1

on_target : (call : Call) (o : Option Target) → LaterAreRecords (outcome_on call o).changes
on_target call None = tt
on_target call (Some g) = later_in (changes_of_call g (evaluated_on call g).changes) (records_in g (evaluated_on call g).changes)

removed : (db : List ℕ) (store : Store) (o : Option Database) → LaterAreRecords (evaluation_in (Remove db) store o).changes
removed db store None = tt
removed db store (Some d) = tt

renamed : (db to : List ℕ) (store : Store) (o : Option Database) → LaterAreRecords (evaluation_in (Rename db to) store o).changes
renamed db to store None = tt
renamed db to store (Some d) = tt

emptied : (db : List ℕ) (store : Store) (o : Option Database) → LaterAreRecords (evaluation_in (Truncate db) store o).changes
emptied db store None = tt
emptied db store (Some d) = by_index d.index
  where
    by_index : (o : Option Index) → LaterAreRecords (emptying db o).changes
    by_index None = tt
    by_index (Some index) = tt

filled : (db : List ℕ) (pairs : List Pair) → AllByRecursion IsRecordChange (map (λ q. Set db (named q.0 q.1) []) pairs)
filled db [] = tt
filled db (q ∷ pairs) = (tt, filled db pairs)

indexed : (db : List ℕ) (index : Index) (o : Option Database) → LaterAreRecords (indexing db index o).changes
indexed db index None = tt
indexed db index (Some primary) = filled db (index_pairs index.extract primary.pairs)

performed : (p : Alone) (session : ℕ) (call : Call) → LaterAreRecords (performed_outcome p session call).changes
performed p session Lists = tt
performed p session (Create db kind) = tt
performed p session (CreateIndex db index) = indexed db index (database_of index.primary p.store)
performed p session (Remove db) = removed db p.store (database_of db p.store)
performed p session (Rename db to) = renamed db to p.store (database_of db p.store)
performed p session (Truncate db) = emptied db p.store (database_of db p.store)
performed p session call = on_target call (target_of (alone p) session call)

unless_refused : (o : Option Answer) (outcome : Outcome) → LaterAreRecords outcome.changes → LaterAreRecords (outcome_unless o outcome).changes
unless_refused None outcome is = is
unless_refused (Some refusal) outcome is = tt

-- all changes of a call but the first are of records
pub later_records : (p : Alone) (session : ℕ) (call : Call) (change : Change) (more : List Change) → (outcome_alone p session call).changes ≡ change ∷ more → AllByRecursion IsRecordChange more
later_records p session call change more is =
    subst LaterAreRecords is (unless_refused (late_refusal (alone p) session call) (performed_outcome p session call) (performed p session call))

-- ---- what is planned

pub are_planned : (c : Contents) (p : Alone) (session : ℕ) (call : Call) (planned : PlannedChanges) → IsSound c.rows c.last_db → (l : IsPlannedLog (known c) p session call planned) →
    planned.last_db < 2 ^ 32 → ArePlanned c.rows c.last_db l.change l.more planned.changes.items planned.gone
are_planned c p session call planned sound l fits = record { sound = sound; logs = l.rows 0; may = l.may fits; gone_is = l.gone_is }

-- a database is the catalog or has a name behind planned changes if it is made, or was and had before, and is not the one that goes
pub planned_databases : (c : Contents) (p : Alone) (session : ℕ) (call : Call) (planned : PlannedChanges) → IsSound c.rows c.last_db → IsPlannedLog (known c) p session call planned →
    planned.last_db < 2 ^ 32 → (d : ℕ) → has_number (numbers_of (rows_after planned.changes.items planned.gone c.rows)) d
    ≡ cond (is_gone d planned.gone) false (is_made d planned.changes.items || has_number (numbers_of c.rows) d)
planned_databases c p session call planned sound l fits =
    planned_numbers c.rows c.last_db planned.last_db l.change l.more planned.changes.items planned.gone (are_planned c p session call planned sound l fits)
    (later_records p session call l.change l.more l.changes) l.last_db (l.made fits)

-- so it is with the records that were logged
pub logged_databases : (c new : Contents) (p : Alone) (session : ℕ) (call : Call) (planned : PlannedChanges) → IsSound c.rows c.last_db → IsPlannedLog (known c) p session call planned →
    planned.last_db < 2 ^ 32 → HasLogged c new planned → (d : ℕ) → has_number (numbers_of new.rows) d
    ≡ cond (is_gone d planned.gone) false (is_made d planned.changes.items || has_number (numbers_of c.rows) d)
logged_databases c new p session call planned sound l fits logged d =
    ap (λ (r : Rows). has_number (numbers_of r) d) (fun_ext logged.rows) ∙ planned_databases c p session call planned sound l fits d

-- ---- trees

-- where each database that has a name has a tree, and no other one, so it is behind the changes
pub trees_logged : (c new : Contents) (p : Alone) (session : ℕ) (call : Call) (planned : PlannedChanges) (old_trees new_trees : ℕ → Bool) → IsSound c.rows c.last_db →
    IsPlannedLog (known c) p session call planned → planned.last_db < 2 ^ 32 → HasLogged c new planned → ((d : ℕ) → old_trees d ≡ has_number (numbers_of c.rows) d) →
    HasTreesAfter planned.changes.items planned.gone old_trees new_trees → (d : ℕ) → new_trees d ≡ has_number (numbers_of new.rows) d
trees_logged c new p session call planned old_trees new_trees sound l fits logged old after d =
    after d
    ∙ ap (λ (b : Bool). cond (is_gone d planned.gone) false (is_made d planned.changes.items || b)) (old d)
    ∙ sym (logged_databases c new p session call planned sound l fits logged d)

none_named : (last_db d : ℕ) (rows : List Row) → last_db < d → AllByRecursion (λ (r : Row). catalog_number r.1 ≤ last_db) rows → list_any (λ n. n == d) (map number_of_row rows) ≡ false
none_named last_db d [] above all = refl
none_named last_db d (r ∷ rows) above all =
    or_from (catalog_number r.1 == d) (list_any (λ n. n == d) (map number_of_row rows)) (ne_eqb (catalog_number r.1) d (λ e. let low : catalog_number r.1 ≤ last_db = all.0 in absurd (omega (arith, e, low, above))))
    (none_named last_db d rows above all.1)

each_makes : (P : ℕ → Type 0) (changes : List TreeChange) → ((d : ℕ) → is_made d changes ≡ true → P d) → AllByRecursion (λ e. IfSome e.makes P) changes
each_makes P [] made = tt
each_makes P (c ∷ changes) made = (by_makes c.makes refl, each_makes P changes (λ d is. made d (or_right (makes_db d c.makes) (is_made d changes) is)))
  where
    by_makes : (o : Option ℕ) → c.makes ≡ o → IfSome o P
    by_makes None is = tt
    by_makes (Some d) is = made d (or_left (makes_db d c.makes) (is_made d changes) (ap (makes_db d) is ∙ eq-eqb d d refl))
