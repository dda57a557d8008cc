-- A change of the catalog is logged where others are under way.
use Rattle.log_replay.specs.Kept.{MayBeLogged}
use Rattle.engine.specs.declared.kept.Kept.{Kept}
use Rattle.std.proofs.Common.{◌≡◌, ◌≢◌, ◌∙◌, ◌⊎◌, inl, inr, ◌≤◌, ◌<◌, ◌+◌, ◌^◌, ℕ, Bool, true, false, true≢false, cond, nat_lt, List, [], ◌∷◌, Option, None, Some, IfSome, option_map, Result, Ok, Err, OnErr, length, map, ap, refl, sym, subst, arith}
use Rattle.log_trees.specs.Placed.{Placed}
use Rattle.environment.proofs.Databases.{made_is}
use Rattle.environment.proofs.KnownChanges.{AreFollowed, IsChangeOf, IsPlainFor, followed, known_after}
use Rattle.environment.proofs.LateLaws.{known_as}
use Rattle.index_map.specs.Made.{made_in}
use Rattle.environment.proofs.Bases.{valid_fits}
use Rattle.std.specs.Prelude.{◌==◌}
use mathlib.Core.Path.{fun_ext}
use Rattle.std.specs.List.{AllByRecursion}
use Rattle.std.specs.declared.alloc.AllocError.{AllocError}
use Rattle.std.proofs.lemmas.Bool.{and_parts, eqb-true, ltb-true}
use Rattle.std.proofs.lemmas.List.{append-nil}
use Rattle.std.proofs.lemmas.Option.{none-some}
use Rattle.je_disk.specs.DiskMeaning.{DiskMeaning}
use Rattle.je_disk.specs.Moments.{now}
use Rattle.je_disk.specs.States.{State}
use Rattle.je_order.specs.declared.name.Name.{Name}
use Rattle.je_order.specs.declared.txn_id.TxnId.{TxnId}
use Rattle.store_model.specs.declared.store.Database.{Database}
use Rattle.store_model.specs.declared.store.Store.{Store}
use Rattle.store_model.specs.declared.store.TheConstants.{LAST_TXN, LAST_DATABASE}
use Rattle.store_model.specs.declared.answer.Answer.{Answer}
use Rattle.store_model.specs.declared.answer.Answer.TheVariants.{IdsEnded, DiskFault, LogFull, Logged, DatabaseInUse, ReadOnlyIndex}
use Rattle.store_model.specs.declared.answer.Fault.TheVariants.{Disk}
use Rattle.store_model.specs.declared.call.Call.{Call}
use Rattle.store_model.specs.declared.call.Call.TheVariants.{Create, CreateIndex, Remove, Rename, Truncate}
use Rattle.store_model.specs.declared.change.Change.{Change}
use Rattle.store_model.specs.declared.change.Change.TheVariants.{Set, Unset, Make, MakeIndex, Remove as Removes, Rename as Renames, Empty}
use Rattle.store_model.specs.declared.index.Index.{Index}
use Rattle.store_model.specs.Evaluation.{emptying, evaluation_in, indexing, answers, Outcome}
use Rattle.store_model.specs.Refusals.{made_by, next_txn}
use Rattle.store_model.specs.Store.{database_of}
use Rattle.db_catalog.specs.declared.catalog_change.CatalogChange.{CatalogChange}
use Rattle.db_catalog.specs.declared.catalog_change.CatalogChange.TheVariants.{Put as PutRecord, Delete as DeleteRecord}
use Rattle.db_catalog.specs.Planning.{logged_as, outcome_unless}
use Rattle.je_answers.specs.Alone.{Alone, alone, committed_alone, drawn_alone, faulted_alone, IsAutoCommitted}
use Rattle.je_answers.specs.After.{fate_of, after_evaluated}
use Rattle.je_answers.specs.Journal.{is_disk_fault, tried}
use Rattle.je_answers.specs.Refusals.{early_refusal, late_refusal}
use Rattle.je_answers.specs.Standing.{Standing}
use Rattle.je_answers.specs.Views.{of_db}
use Rattle.log_buffer.specs.declared.buffer.LogBuffer.{LogBuffer}
use Rattle.log_buffer.specs.Buffer.{IsUnchanged, disk_of as disk_below, end_of, has_failed}
use Rattle.log_buffer.proofs.GrowthLaws.{grew_unchanged}
use Rattle.log_replay.specs.Logging.{all_row_changes, catalog_row_change, number_named, record_named, row_changes}
use Rattle.log_replay.specs.Rows.{RowChange, Rows, rows_changed}
use Rattle.log_replay.proofs.ListLaws.{all_of_map}
use Rattle.record_map.specs.Cells.{value_at}
use Rattle.record_map.specs.declared.write.Write.{Write}
use Rattle.record_tree.specs.Logged.{LogsTransaction, is_made}
use Rattle.record_tree.specs.Occupied.{AllCells, IsFreeFor, write_in}
use Rattle.record_tree.specs.declared.tree_err.TreeErr.{TreeErr}
use Rattle.record_tree.specs.declared.tree_change.TreeChange.{TreeChange}
use Rattle.in_tree.specs.Limits.{HasRoomFor, commit_sizes}
use Rattle.in_tree.specs.Observed.{cells_of, has_tree_of, waits_of}
use Rattle.sessions.specs.AtStanding.{AreSessionsAt, owing}
use Rattle.standing_laws.specs.Right.{AreSound}
use Rattle.standing_laws.proofs.Writers.{unused-has_no_changes}
use Rattle.txn_core.specs.declared.planned_changes.PlannedChanges.{PlannedChanges}
use Rattle.txn_core.specs.Known.{Known, committed}
use Rattle.txn_core.specs.Planning.{HasModel, IsPlannedFill, IsPlannedLog, is_index, performed_outcome, row_by, outcome_alone}
use Rattle.txn_core.specs.Transactions.{is_gone}
use Rattle.txn_log.specs.Buffers.{HasAdded, HasFailed, HasGiven, MayCommit}
use Rattle.txn_log.specs.Committing.{IsElsewhere, MakesStore}
use Rattle.txn_log.specs.Own.{AreFreeNames, OwnChange}
use Rattle.txn_views.specs.Seen.{HasWrites, IsWriteOf, last_own}
use Rattle.txn_views.proofs.OwnLaws.{none_in}
use Rattle.engine.specs.declared.engine.Engine.{Engine}
use Rattle.engine.specs.Contents.{Checkpoints, Contents, IsSame, drawn_contents, known, rows_after, HasLogged}
use Rattle.engine.specs.Environment.{AreAlone, GivesRecords}
use Rattle.engine.specs.Limits.{IsWithin, limit_by, reach_after}
use Rattle.engine.specs.Steps.{HasAppended, HasTried, LogsChanges, txn_of, HasStepCause, IsNumbered, CarriesTrees}
use Rattle.engine.specs.Whole.{AreSameCells, EndsNear, LeavesCells, contents_of, end_file as end_below, reach_of as reach_below, LeavesOthers}
use Rattle.engine.proofs.AttemptLaws.{alone_changes}
use Rattle.engine.proofs.CallEnds.{EndsAlone, ended_ends, fault_ends, full_ends, ids_ends, logged_ends, logs_alone}
use Rattle.engine.proofs.CallLaws.{logs_grow, model, sound_at}
use Rattle.engine.proofs.IndexLogs.{fill_apart, fill_catalog, index_makes}
use Rattle.engine.proofs.LogLaws.{made_new}
use Rattle.in_tree.specs.Filling.{AreFilling}
use Rattle.engine.proofs.CatalogLogs.{AreApart, IsOfCatalog, catalog_after, catalog_apart, elsewhere_empty, elsewhere_make, elsewhere_remove, elsewhere_rename}
use Rattle.engine.proofs.GuardedEvents.{commit_recovered_in, tried_commit_recovered_in}
use Rattle.engine.proofs.PlannedCalls.{are_planned, trees_logged}
use Rattle.engine.proofs.PlannedRows.{ArePlanned, LeavesRows, planned_rows}
use Rattle.engine.proofs.StepLaws.{drawn_at as drawn_alone_at, logged_at, same_at}
use Rattle.engine.proofs.SyncedStanding.{faulted_at}
use Rattle.engine.proofs.TransactionGrowth.{may_grow, store_on}
use Rattle.engine.proofs.TxnGives.{gives_with_none, leaves_records}
use Rattle.environment.specs.declared.environment.Environment.{Environment}
use Rattle.environment.specs.declared.written.OwnNames.{OwnNames}
use Rattle.environment.specs.Calls.{ChangesCatalog}
use Rattle.environment.specs.Catalog.{FollowMaps, FollowsCall, made_logged, names_logged, IsFreeToChange, IsPlannedAs, IsUsedBy}
use Rattle.environment.specs.Steps.{ComesToAnswer, HasCome, IsCallStep, StandsAt, PerformsAnswer}
use Rattle.environment.specs.Valid.{IsValidWith, owed_by, fitting, Forest, KnowsDatabases, HaveDatabases, made_at, name_at, index_made}
use Rattle.environment.specs.Whole.{HasLimit, limit_found, reach_of, CanGoOn}
use Rattle.environment.proofs.BeginLaws.{next_is, with_begun}
use Rattle.environment.proofs.CatalogEnds.{alone_at, auto_is, come_alone, cursors_alone, gives_without, come, written_are, committed_are, drawn_here, read_only_late}
use Rattle.environment.proofs.CatalogStanding.{alone_of, with_alone, in_use_answers, in_use_leaves, late_alike, outside}
use Rattle.environment.proofs.CatalogValid.{logged_valid, none_of}
use Rattle.environment.proofs.ListLaws.{valid_drawn}
use Rattle.environment.proofs.Standing.{IsLike, sessions_faulted, valid_like}
use Rattle.std.proofs.lemmas.Bool.{lt-ltb}
use Rattle.environment.proofs.EarlyLaws.{same_buffer}
use Rattle.environment.proofs.Answering.{within_more}
use Rattle.je_answers.specs.Events.{IsEvaluated}

-- ---- one change of the catalog

abbrev AreOne : Call → List Change → Type 0
AreOne call [] = Unit {0}
AreOne call (change ∷ more) = IsChangeOf call change × (is_index change ≡ false → more ≡ [])

remove_one : (db : List ℕ) (store : Store) (o : Option Database) → AreOne (Remove db) (evaluation_in (Remove db) store o).changes
remove_one db store None = tt
remove_one db store (Some d) = (refl, λ other. refl)

rename_one : (db to : List ℕ) (store : Store) (o : Option Database) → AreOne (Rename db to) (evaluation_in (Rename db to) store o).changes
rename_one db to store None = tt
rename_one db to store (Some d) = (refl, λ other. refl)

empty_one : (db : List ℕ) (store : Store) (o : Option Database) → AreOne (Truncate db) (evaluation_in (Truncate db) store o).changes
empty_one db store None = tt
empty_one db store (Some d) = by_index d.index
  where
    by_index : (o : Option Index) → AreOne (Truncate db) (emptying db o).changes
    by_index None = (refl, λ other. refl)
    by_index (Some index) = tt

index_one : (db : List ℕ) (index : Index) (o : Option Database) → AreOne (CreateIndex db index) (indexing db index o).changes
index_one db index None = tt
index_one db index (Some primary) = (refl, λ other. absurd (true≢false other))

ones : (late : Option Answer) (p : Alone) (session : ℕ) (call : Call) → ChangesCatalog call → AreOne call (outcome_unless late (performed_outcome p session call)).changes
ones (Some refusal) p session call is = tt
ones None p session (Create db kind) is = (refl, λ other. refl)
ones None p session (CreateIndex db index) is = index_one db index (database_of index.primary p.store)
ones None p session (Remove db) is = remove_one db p.store (database_of db p.store)
ones None p session (Rename db to) is = rename_one db to p.store (database_of db p.store)
ones None p session (Truncate db) is = empty_one db p.store (database_of db p.store)
ones None p session call is = absurd is

pub one_planned : (k : Known) (p : Alone) (session : ℕ) (call : Call) (planned : PlannedChanges) → ChangesCatalog call → (log : IsPlannedLog k p session call planned) →
    IsChangeOf call log.change × (is_index log.change ≡ false → log.more ≡ [])
one_planned k p session call planned is log = subst (AreOne call) log.changes (ones (late_refusal (alone p) session call) p session call is)

pub of_catalog : (call : Call) (change : Change) → IsChangeOf call change → IsOfCatalog change
of_catalog (Create db kind) change is = subst IsOfCatalog (sym is) tt
of_catalog (CreateIndex db index) change is = subst IsOfCatalog (sym is) tt
of_catalog (Remove db) change is = subst IsOfCatalog (sym is) tt
of_catalog (Rename db to) change is = subst IsOfCatalog (sym is) tt
of_catalog (Truncate db) change is = subst IsOfCatalog (sym is) tt
of_catalog call change is = absurd is

elsewhere_index : (rows : Rows) (db : List ℕ) (index : Index) (own : List OwnChange) → AllByRecursion (λ (c : OwnChange). IsElsewhere rows (MakeIndex db index) c.0) own
elsewhere_index rows db index [] = tt
elsewhere_index rows db index (c ∷ own) = (tt, elsewhere_index rows db index own)

pub elsewhere_of : (rows : Rows) (st : Standing) (call : Call) (change : Change) (u : ℕ) → ((name : List ℕ) → number_named rows name ≡ st.numbers name) → AreSound st → IsFreeToChange st call → IsChangeOf call change →
    AllByRecursion (λ (c : OwnChange). IsElsewhere rows change c.0) (st.own u)
elsewhere_of rows st (Create db kind) change u named sound free is =
    subst (λ (x : Change). AllByRecursion (λ (c : OwnChange). IsElsewhere rows x c.0) (st.own u)) (sym is) (elsewhere_make rows db kind (st.own u))
elsewhere_of rows st (CreateIndex db index) change u named sound free is =
    subst (λ (x : Change). AllByRecursion (λ (c : OwnChange). IsElsewhere rows x c.0) (st.own u)) (sym is) (elsewhere_index rows db index (st.own u))
elsewhere_of rows st (Remove db) change u named sound free is =
    subst (λ (x : Change). AllByRecursion (λ (c : OwnChange). IsElsewhere rows x c.0) (st.own u)) (sym is)
    (elsewhere_remove rows db (st.own u) (subst (λ (n : ℕ). of_db n (st.own u) ≡ []) (sym (named db)) (unused-has_no_changes st (st.numbers db) sound free u)))
elsewhere_of rows st (Rename db to) change u named sound free is =
    subst (λ (x : Change). AllByRecursion (λ (c : OwnChange). IsElsewhere rows x c.0) (st.own u)) (sym is)
    (elsewhere_rename rows db to (st.own u) (subst (λ (n : ℕ). of_db n (st.own u) ≡ []) (sym (named db)) (unused-has_no_changes st (st.numbers db) sound free u)))
elsewhere_of rows st (Truncate db) change u named sound free is =
    subst (λ (x : Change). AllByRecursion (λ (c : OwnChange). IsElsewhere rows x c.0) (st.own u)) (sym is)
    (elsewhere_empty rows db (st.own u) (subst (λ (n : ℕ). of_db n (st.own u) ≡ []) (sym (named db)) (unused-has_no_changes st (st.numbers db) sound free u)))
elsewhere_of rows st call change u named sound free is = absurd is

-- ---- what is emptied is no index

emptied : (late : Option Answer) (store : Store) (db : List ℕ) (o : Option Database) (change : Change) (more : List Change) → (outcome_unless late (evaluation_in (Truncate db) store o)).changes ≡ change ∷ more →
    (d : Database) × (o ≡ Some d) × (d.index ≡ None)
emptied (Some refusal) store db o change more is = absurd cc
emptied None store db None change more is = absurd cc
emptied None store db (Some d) change more is = (d, refl, by_index d.index is)
  where
    by_index : (i : Option Index) → (emptying db i).changes ≡ change ∷ more → i ≡ None
    by_index None is_ = refl
    by_index (Some index) is_ = absurd cc

pub plain_for : (rows : Rows) (st : Standing) (session : ℕ) (call : Call) (change : Change) (more : List Change) → MakesStore rows st.last_db st → IsChangeOf call change → (outcome_alone (alone_of st) session call).changes ≡ change ∷ more →
    IsPlainFor (made_in (rows 0)) (number_named rows) call
plain_for rows st session (Create db kind) change more makes is changes = tt
plain_for rows st session (CreateIndex db index) change more makes is changes = tt
plain_for rows st session (Remove db) change more makes is changes = tt
plain_for rows st session (Rename db to) change more makes is changes = tt
plain_for rows st session (Truncate db) change more makes is changes =
    let d = emptied (late_refusal (alone (alone_of st)) session (Truncate db)) st.store db (database_of db st.store) change more changes in
    ap (made_in (rows 0)) (makes.named db) ∙ sym (made_is rows st.last_db st makes (st.numbers db)) ∙ ap (index_made st.numbers) (known_as rows st makes db d.0 d.1).there
    ∙ ap (option_map (λ (i : Index). (st.numbers i.primary, i.extract))) d.2
plain_for rows st session call change more makes is changes = absurd is

-- ---- its names are the catalog's, which no transaction under way changes

catalog_only : (changes : List CatalogChange) → AllByRecursion (λ (r : RowChange). r.db ≡ 0) (map (catalog_row_change 0) changes)
catalog_only [] = tt
catalog_only (PutRecord db row ∷ changes) = (refl, catalog_only changes)
catalog_only (DeleteRecord db ∷ changes) = (refl, catalog_only changes)

in_catalog : (last_db : ℕ) (change : Change) (rows : Rows) → IsOfCatalog change → AllByRecursion (λ (r : RowChange). r.db ≡ 0) (row_changes 0 last_db change rows)
in_catalog last_db (Set db at value) rows is = absurd is
in_catalog last_db (Unset db at) rows is = absurd is
in_catalog last_db (Make db kind) rows is = catalog_only (logged_as (record_named rows) (last_db + 1) (Make db kind))
in_catalog last_db (MakeIndex db index) rows is = catalog_only (logged_as (record_named rows) (last_db + 1) (MakeIndex db index))
in_catalog last_db (Removes db) rows is = catalog_only (logged_as (record_named rows) (last_db + 1) (Removes db))
in_catalog last_db (Renames db to) rows is = catalog_only (logged_as (record_named rows) (last_db + 1) (Renames db to))
in_catalog last_db (Empty db) rows is = catalog_only (logged_as (record_named rows) (last_db + 1) (Empty db))

logged_in : (last_db : ℕ) (change : Change) (more : List Change) (rows : Rows) (planned : List TreeChange) → IsOfCatalog change → more ≡ [] → map (row_by 0) planned ≡ all_row_changes 0 last_db (change ∷ more) rows →
    AllByRecursion (λ (c : TreeChange). c.db ≡ 0) planned
logged_in last_db change more rows planned of none are =
    let logs : map (row_by 0) planned ≡ row_changes 0 last_db change rows = are ∙ ap (λ (m : List Change). all_row_changes 0 last_db (change ∷ m) rows) none ∙ append-nil (row_changes 0 last_db change rows) in
    all_of_map (row_by 0) (λ (r : RowChange). r.db ≡ 0) planned (subst (AllByRecursion (λ (r : RowChange). r.db ≡ 0)) (sym logs) (in_catalog last_db change rows of))

unwritten : (cells : AllCells) (own : ℕ → List OwnChange) (d : ℕ) (x : Name) → HasWrites cells own → ((t : ℕ) → AllByRecursion (λ (c : OwnChange). c.0 ≢ d) (own t)) → write_in (value_at x (cells d)) ≡ None
unwritten cells own d x writes apart = by_write (write_in (value_at x (cells d))) (writes d x)
  where
    none_own : (t : ℕ) → last_own d x (own t) ≡ None
    none_own t = none_in d x (own t) (none_of d (own t) (apart t))

    by_write : (w : Option Write) → IsWriteOf d x own w → w ≡ None
    by_write None is = refl
    by_write (Some w) is = absurd (none-some is.change (sym (none_own w.txn.0) ∙ is.last))

free_each : (cells : AllCells) (own : ℕ → List OwnChange) (t : TxnId) (changes : List TreeChange) → HasWrites cells own → AreApart own changes →
    AllByRecursion (λ (c : TreeChange). IsFreeFor t (write_in (value_at c.name (cells c.db)))) changes
free_each cells own t [] writes apart = tt
free_each cells own t (c ∷ changes) writes apart =
    (subst (IsFreeFor t) (sym (unwritten cells own c.db c.name writes apart.0)) tt, free_each cells own t changes writes apart.1)

no_others : (t : ℕ) (changes : List TreeChange) → AreFreeNames (λ u. false) (λ u. []) t changes
no_others t [] = tt
no_others t (c ∷ changes) = (λ u active other. absurd (true≢false (sym active)), no_others t changes)

-- an index gets a later number than any before
pub index_later : (last_db : ℕ) (change : Change) (more : List Change) (later : ℕ) → is_index change ≡ true → later ≡ last_db + made_by (change ∷ more) → last_db < later
index_later last_db change more later index is = let one = index_makes change more index in omega (arith, one, is)

pub near_by : (failed_old failed_new : Bool) (old new owed more : ℕ) → failed_old ≡ false → cond failed_new 0 new ≤ cond failed_old 0 old + more → cond failed_new 0 (new + owed) ≤ cond failed_old 0 (old + owed) + more
near_by false true old new owed more works le = omega arith
near_by false false old new owed more works le = omega (arith, le)
near_by true failed_new old new owed more works le = absurd (true≢false works)

module _ {D : Type 0} where
  abbrev pub with_engine : Environment D → Engine D → Environment D
  with_engine e n = record { engine = n; sessions = e.sessions; written = e.written }

  -- nobody has own changes in the databases that changes are of
  apart_plain : (most : ℕ) (meaning : DiskMeaning D) (e : Environment D) (st : Standing) (session : ℕ) (call : Call) (planned : PlannedChanges) → StandsAt most meaning e st → st.fault ≡ None → ChangesCatalog call →
      (log : IsPlannedLog (known (contents_of e.engine)) (alone_of st) session call planned) → is_index log.change ≡ false → AreApart st.own planned.changes.items
  apart_plain most meaning e st session call planned at none is log other =
      let v = at.valid none in
      let one = one_planned (known (contents_of e.engine)) (alone_of st) session call planned is log in
      catalog_apart (committed (cells_of e.engine.trees)) st.own planned.changes.items v.may
      (logged_in e.engine.kept.last_db log.change log.more (committed (cells_of e.engine.trees)) planned.changes.items (of_catalog call log.change one.0) (one.1 other) (log.rows 0))

  apart_index : (most : ℕ) (meaning : DiskMeaning D) (e : Environment D) (st : Standing) (session : ℕ) (call : Call) (planned : PlannedChanges) → StandsAt most meaning e st → st.fault ≡ None →
      (log : IsPlannedLog (known (contents_of e.engine)) (alone_of st) session call planned) → is_index log.change ≡ true → IsPlannedFill planned → planned.last_db ≤ LAST_DATABASE → AreApart st.own planned.changes.items
  apart_index most meaning e st session call planned at none log index fill low =
      fill_apart (committed (cells_of e.engine.trees)) e.engine.kept.last_db st.own planned fill (index_later e.engine.kept.last_db log.change log.more planned.last_db index log.last_db) (omega (arith, low))
      (sound_at most meaning.observable (now (meaning.history (disk_below e.engine.trees.log))) e.engine.trees.log (contents_of e.engine) (alone_of st) (alone_at most meaning e st at) none) (at.valid none).may

  -- so the names that are to be logged are free
  pub free_names : (most : ℕ) (meaning : DiskMeaning D) (e : Environment D) (st : Standing) (session : ℕ) (call : Call) (planned : PlannedChanges) (t : TxnId) → StandsAt most meaning e st → st.fault ≡ None →
      ChangesCatalog call → IsPlannedAs (known (contents_of e.engine)) (alone_of st) session call false planned →
      AllByRecursion (λ (c : TreeChange). IsFreeFor t (write_in (value_at c.name (cells_of e.engine.trees c.db)))) planned.changes.items
  free_names most meaning e st session call planned t at none is its =
      free_each (cells_of e.engine.trees) st.own t planned.changes.items (at.valid none).writes (apart_plain most meaning e st session call planned at none is its.log its.kind)

  pub free_filled : (most : ℕ) (meaning : DiskMeaning D) (e : Environment D) (st : Standing) (session : ℕ) (call : Call) (planned : PlannedChanges) (t : TxnId) → StandsAt most meaning e st → st.fault ≡ None →
      IsPlannedAs (known (contents_of e.engine)) (alone_of st) session call true planned → planned.last_db ≤ LAST_DATABASE →
      AllByRecursion (λ (c : TreeChange). IsFreeFor t (write_in (value_at c.name (cells_of e.engine.trees c.db)))) planned.changes.items
  free_filled most meaning e st session call planned t at none its low =
      free_each (cells_of e.engine.trees) st.own t planned.changes.items (at.valid none).writes (apart_index most meaning e st session call planned at none its.log its.kind (its.fill refl) low)

  -- and an index's changes fill it
  pub are_filling : (most : ℕ) (meaning : DiskMeaning D) (e : Environment D) (st : Standing) (session : ℕ) (call : Call) (planned : PlannedChanges) → StandsAt most meaning e st → st.fault ≡ None →
      IsPlannedAs (known (contents_of e.engine)) (alone_of st) session call true planned → planned.last_db ≤ LAST_DATABASE → AreFilling (has_tree_of e.engine.trees) planned.changes.items
  are_filling most meaning e st session call planned at none its low =
      let fill = its.fill refl in
      let v = at.valid none in
      let here = alone_at most meaning e st at in
      let made = made_new e.engine.trees e.engine.kept (alone_of st) session call planned v.made (here.valid none).gives.numbers its.log low in
      let fits : planned.last_db < 2 ^ 32 = omega (arith, low) in
      subst (AreFilling (has_tree_of e.engine.trees)) (sym fill.are) (
        planned.last_db,
        fill.makes fits,
        ap (has_tree_of e.engine.trees) fill.catalog ∙ v.made 0,
        first_new fill.first.makes (fill.makes fits) (subst (λ (l : List TreeChange). AllByRecursion (λ (c : TreeChange). IfSome c.makes (λ d. has_tree_of e.engine.trees d ≡ false)) l) fill.are made).0,
        fill.of_it fits,
      )
    where
      first_new : (o : Option ℕ) → o ≡ Some planned.last_db → IfSome o (λ d. has_tree_of e.engine.trees d ≡ false) → has_tree_of e.engine.trees planned.last_db ≡ false
      first_new o is new = subst (λ (x : Option ℕ). IfSome x (λ d. has_tree_of e.engine.trees d ≡ false)) is new

  -- it reaches no farther than its engine does
  pub near_env : (e : Environment D) (n : Engine D) (changes : List Change) → has_failed e.engine.trees.log ≡ false → IsWithin (reach_below n) (reach_after (reach_below e.engine) changes) →
      IsWithin (reach_of (with_engine e n)) (reach_after (reach_of e) changes)
  near_env e n changes works near = record {
    file = near_by (has_failed e.engine.trees.log) (has_failed n.trees.log) ((end_of e.engine.trees.log).file + waits_of e.engine.trees) ((end_of n.trees.log).file + waits_of n.trees) _ _ works near.file;
    node = near.node;
  }

  pub has_limit : (e : Environment D) (owed : ℕ) (p : Alone) (session : ℕ) (call : Call) (planned : PlannedChanges) → (log : IsPlannedLog (known (contents_of e.engine)) p session call planned) →
      HasLimit e owed (log.change ∷ log.more) (limit_by (limit_found (is_index log.change) e.engine.trees planned.changes.items owed) e.engine.kept.last_node (length planned.changes.items))
  has_limit e owed p session call planned log = record { planned = planned.changes.items; rows = log.rows 0; makes = made_later; is = refl }
    where
      made_later : e.engine.kept.last_db + made_by (log.change ∷ log.more) < 2 ^ 32 → (d : ℕ) → is_made d planned.changes.items ≡ true → e.engine.kept.last_db < d
      made_later low d made =
          let parts = and_parts (nat_lt e.engine.kept.last_db planned.last_db) (d == planned.last_db) (sym (log.made (subst (λ n. n < 2 ^ 32) (sym log.last_db) low) d) ∙ made) in
          let later = ltb-true e.engine.kept.last_db planned.last_db parts.0 in
          let is : d ≡ planned.last_db = eqb-true d planned.last_db parts.1 in
          omega (arith, later, is)

  has_limit_as : (e : Environment D) (owed : ℕ) (p : Alone) (session : ℕ) (call : Call) (fills : Bool) (planned : PlannedChanges) → (its : IsPlannedAs (known (contents_of e.engine)) p session call fills planned) →
      HasLimit e owed (its.log.change ∷ its.log.more) (limit_by (limit_found fills e.engine.trees planned.changes.items owed) e.engine.kept.last_node (length planned.changes.items))
  has_limit_as e owed p session call fills planned its =
      subst (λ (b : Bool). HasLimit e owed (its.log.change ∷ its.log.more) (limit_by (limit_found b e.engine.trees planned.changes.items owed) e.engine.kept.last_node (length planned.changes.items))) its.kind
      (has_limit e owed p session call planned its.log)

  module _ (meaning : DiskMeaning D) where
    -- ---- where it stands

    pub stands_on : (most : ℕ) (e : Environment D) (n : Engine D) (st : Standing) (q : Alone) → StandsAt most meaning e st → AreSessionsAt e.sessions (with_alone q st) →
        AreAlone most meaning.observable (now (meaning.history (disk_below n.trees.log))) n.trees.log (contents_of n) q →
        (q.fault ≡ None → HaveDatabases q.numbers q.store n.kept.indexes n.kept.names) →
        (q.fault ≡ None → IsValidWith meaning.observable (now (meaning.history (disk_below n.trees.log))) n.trees.log (cells_of n.trees) (has_tree_of n.trees) (fitting n.trees) n.kept.since e.written.by_txn.entries (with_alone q st)) →
        StandsAt most meaning (with_engine e n) (with_alone q st)
    stands_on most e n st q at sessions here knows valid = record {
      file_max = here.file_max;
      fault = here.fault;
      last_txn = here.last_txn;
      last_db = here.last_db;
      commits = here.commits;
      totals = here.totals;
      sessions_at = sessions;
      apart = at.apart;
      checkpoint = here.checkpoint;
      databases = knows;
      valid = valid;
    }

    valid_same : (old new : LogBuffer D) (cells later : AllCells) (has_tree later_tree : ℕ → Bool) (forest later_forest : Forest) (since later_since : ℕ) (written : List (TxnId × OwnNames)) (st : Standing) → IsUnchanged old new → ((d : ℕ) → later d ≡ cells d) →
        ((d : ℕ) → later_tree d ≡ has_tree d) → ((es : List Placed) (base : ℕ) → forest es base → later_forest es base) → later_since ≡ since → IsValidWith meaning.observable (now (meaning.history (disk_below old))) old cells has_tree forest since written st →
        IsValidWith meaning.observable (now (meaning.history (disk_below new))) new later later_tree later_forest later_since written st
    valid_same old new cells later has_tree later_tree forest later_forest since later_since written st same cells_are trees_are carries since_is v =
        let like : IsLike meaning.observable (now (meaning.history (disk_below old))) (now (meaning.history (disk_below new))) old new = record {
          logs = (grew_unchanged meaning old new same).log;
          end = same.kept.end;
          max = same.kept.max;
          works = same.failed ∙ v.works;
          room = same.kept.room;
        } in
        subst (λ (c : AllCells). IsValidWith meaning.observable (now (meaning.history (disk_below new))) new c later_tree later_forest later_since written st) (sym (fun_ext cells_are))
        (subst (λ (t : ℕ → Bool). IsValidWith meaning.observable (now (meaning.history (disk_below new))) new cells t later_forest later_since written st) (sym (fun_ext trees_are))
        (subst (λ (n : ℕ). IsValidWith meaning.observable (now (meaning.history (disk_below new))) new cells has_tree later_forest n written st) (sym since_is)
        (valid_fits meaning.observable (now (meaning.history (disk_below new))) new cells has_tree forest later_forest since written st carries (valid_like meaning.observable (now (meaning.history (disk_below old))) (now (meaning.history (disk_below new))) old new cells has_tree forest since written st st.begun like v))))

    -- nothing was logged: a number was drawn, or not even that
    pub drawn_same : (most : ℕ) (e : Environment D) (n : Engine D) (st : Standing) → StandsAt most meaning e st → e.engine.kept.last_txn < LAST_TXN → IsSame (drawn_contents (contents_of e.engine)) (contents_of n) →
        IsUnchanged e.engine.trees.log n.trees.log → AreSameCells e.engine.trees n.trees → (st.fault ≡ None → KnowsDatabases st n.kept) → StandsAt most meaning (with_engine e n) (with_alone (drawn_alone (alone_of st)) st)
    drawn_same most e n st at below same log cells knows =
        let p : Alone = alone_of st in
        let state : State = now (meaning.history (disk_below e.engine.trees.log)) in
        let left : nat_lt st.last_txn LAST_TXN ≡ true = ap (λ (x : ℕ). nat_lt x LAST_TXN) (sym at.last_txn) ∙ lt-ltb e.engine.kept.last_txn LAST_TXN below in
        let next = next_is st.last_txn left in
        stands_on most e n st (drawn_alone p) at at.sessions_at
        (same_at meaning most e.engine.trees.log n.trees.log (drawn_contents (contents_of e.engine)) (contents_of n) (drawn_alone p)
        (drawn_alone_at meaning most state e.engine.trees.log (contents_of e.engine) p (alone_at most meaning e st at) below) same log)
        knows
        (λ none. valid_same e.engine.trees.log n.trees.log (cells_of e.engine.trees) (cells_of n.trees) (has_tree_of e.engine.trees) (has_tree_of n.trees) (fitting e.engine.trees) (fitting n.trees) e.engine.kept.since n.kept.since e.written.by_txn.entries (record st { last_txn = next_txn st.last_txn }) log cells.cells cells.made same.fits (ap (λ (k : Checkpoints). k.since) same.checkpoints)
        (valid_drawn meaning.observable state e.engine.trees.log (cells_of e.engine.trees) (has_tree_of e.engine.trees) (fitting e.engine.trees) e.engine.kept.since e.written.by_txn.entries st (next_txn st.last_txn) (omega (arith, next)) (at.valid none)))

    pub undrawn_same : (most : ℕ) (e : Environment D) (n : Engine D) (st : Standing) → StandsAt most meaning e st → IsSame (contents_of e.engine) (contents_of n) →
        IsUnchanged e.engine.trees.log n.trees.log → AreSameCells e.engine.trees n.trees → (st.fault ≡ None → KnowsDatabases st n.kept) → StandsAt most meaning (with_engine e n) st
    undrawn_same most e n st at same log cells knows =
        stands_on most e n st (alone_of st) at at.sessions_at
        (same_at meaning most e.engine.trees.log n.trees.log (contents_of e.engine) (contents_of n) (alone_of st) (alone_at most meaning e st at) same log)
        knows
        (λ none. valid_same e.engine.trees.log n.trees.log (cells_of e.engine.trees) (cells_of n.trees) (has_tree_of e.engine.trees) (has_tree_of n.trees) (fitting e.engine.trees) (fitting n.trees) e.engine.kept.since n.kept.since e.written.by_txn.entries st log cells.cells cells.made same.fits (ap (λ (k : Checkpoints). k.since) same.checkpoints) (at.valid none))

    -- ---- what is recovered

    module _ (most : ℕ) (e : Environment D) (st : Standing) (session : ℕ) (call : Call) (planned : PlannedChanges) (at : StandsAt most meaning e st) (none : st.fault ≡ None)
        (log : IsPlannedLog (known (contents_of e.engine)) (alone_of st) session call planned) (low : planned.last_db ≤ LAST_DATABASE) where
      pub are_of : ArePlanned (committed (cells_of e.engine.trees)) e.engine.kept.last_db log.change log.more planned.changes.items planned.gone
      are_of = are_planned (contents_of e.engine) (alone_of st) session call planned
          (sound_at most meaning.observable (now (meaning.history (disk_below e.engine.trees.log))) e.engine.trees.log (contents_of e.engine) (alone_of st) (alone_at most meaning e st at) none) log (omega (arith, low))

      pub leaves_of : LeavesRows (committed (cells_of e.engine.trees)) (rows_after planned.changes.items planned.gone (committed (cells_of e.engine.trees))) e.engine.kept.last_db (log.change ∷ log.more) planned.changes.items planned.gone
      leaves_of = planned_rows (committed (cells_of e.engine.trees)) e.engine.kept.last_db log.change log.more planned.changes.items planned.gone are_of

      may_of : MayCommit e.engine.kept.last_txn (λ t. false) (λ t. []) (committed (cells_of e.engine.trees)) (rows_after planned.changes.items planned.gone (committed (cells_of e.engine.trees)))
          e.engine.kept.last_db (e.engine.kept.last_db + made_by (log.change ∷ log.more)) (λ d. is_gone d planned.gone) (txn_of (e.engine.kept.last_txn + 1)) [] planned.changes.items
      may_of = record {
        has = inr (omega arith, refl);
        free = no_others (e.engine.kept.last_txn + 1) planned.changes.items;
        leaves = leaves_records (committed (cells_of e.engine.trees)) (rows_after planned.changes.items planned.gone (committed (cells_of e.engine.trees))) e.engine.kept.last_db (log.change ∷ log.more) planned.changes.items
            planned.gone leaves_of;
      }

      pub gives_of : GivesRecords (at.valid none).log (end_of e.engine.trees.log) (contents_of e.engine)
      gives_of = gives_without (at.valid none).log e st at.last_txn at.last_db (at.valid none).gives

      given_of : HasGiven meaning e.engine.trees.log (at.valid none).log (committed (cells_of e.engine.trees)) e.engine.kept.last_txn e.engine.kept.last_db (λ t. false) (λ t. [])
      given_of = record { has = (at.valid none).has; gives = gives_with_none (at.valid none).log (end_of e.engine.trees.log) (contents_of e.engine) gives_of }

      -- the log got the entries, or tried them
      pub logged_step : (n : Engine D) → HasAppended meaning e.engine.trees.log n.trees.log (txn_of (e.engine.kept.last_txn + 1)) planned.changes.items →
          IsCallStep meaning false e.engine n.trees.log ((log.change ∷ log.more) ∷ []) ((log.change ∷ log.more) ∷ [])
      logged_step n a =
          let added : HasAdded meaning e.engine.trees.log n.trees.log (LogsTransaction (txn_of (e.engine.kept.last_txn + 1)) planned.changes.items) =
          record { entries = a.entries; logs = a.logs; grew = a.grew; room = record { max = e.engine.trees.log.max; entries_are = a.fits.entries_are; room = a.fits.room } } in
          inr (
            txn_of (e.engine.kept.last_txn + 1),
            record {
              grown = record {
                entries = a.entries;
                grew = a.grew;
                recovers = commit_recovered_in meaning (at.valid none).log e.engine.trees.log n.trees.log (committed (cells_of e.engine.trees))
                    (rows_after planned.changes.items planned.gone (committed (cells_of e.engine.trees))) e.engine.kept.last_txn e.engine.kept.last_db (e.engine.kept.last_db + made_by (log.change ∷ log.more)) (λ t. false) (λ t. [])
                    (λ d. is_gone d planned.gone) (txn_of (e.engine.kept.last_txn + 1)) [] planned.changes.items (log.change ∷ log.more) given_of may_of leaves_of.store added;
              };
              planned = planned.changes.items;
              rows = log.rows 0;
              logs = a.logs;
            },
          )

      pub tried_step : (n : Engine D) → HasTried meaning e.engine.trees.log n.trees.log (txn_of (e.engine.kept.last_txn + 1)) planned.changes.items →
          IsCallStep meaning true e.engine n.trees.log ((log.change ∷ log.more) ∷ []) ((log.change ∷ log.more) ∷ [])
      tried_step n a =
          let failed : HasFailed meaning e.engine.trees.log n.trees.log (LogsTransaction (txn_of (e.engine.kept.last_txn + 1)) planned.changes.items) =
          record { entries = a.entries; front = a.front; logs = a.logs; is_front = a.is_front; tried = a.tried; room = record { max = e.engine.trees.log.max; entries_are = a.fits.entries_are; room = a.fits.room } } in
          record {
            front = a.front;
            tried = a.tried;
            recovers = tried_commit_recovered_in meaning (at.valid none).log e.engine.trees.log n.trees.log (committed (cells_of e.engine.trees))
                (rows_after planned.changes.items planned.gone (committed (cells_of e.engine.trees))) e.engine.kept.last_txn e.engine.kept.last_db (e.engine.kept.last_db + made_by (log.change ∷ log.more)) (λ t. false) (λ t. [])
                (λ d. is_gone d planned.gone) (txn_of (e.engine.kept.last_txn + 1)) [] planned.changes.items (log.change ∷ log.more) given_of may_of leaves_of.store failed;
          }

      -- what is left of the catalog
      catalog_of : (fills : Bool) → is_index log.change ≡ fills → (fills ≡ true → IsPlannedFill planned) → ChangesCatalog call →
          rows_after planned.changes.items planned.gone (committed (cells_of e.engine.trees)) 0 ≡ rows_changed (row_changes 0 e.engine.kept.last_db log.change (committed (cells_of e.engine.trees))) (committed (cells_of e.engine.trees)) 0
      catalog_of true index fill is =
          let later : e.engine.kept.last_db < planned.last_db = index_later e.engine.kept.last_db log.change log.more planned.last_db index log.last_db in
          fill_catalog (committed (cells_of e.engine.trees)) e.engine.kept.last_db log.change log.more planned index are_of (fill refl) (omega (arith, later)) (omega (arith, low))
      catalog_of false other fill is =
          let one = one_planned (known (contents_of e.engine)) (alone_of st) session call planned is log in
          catalog_after (committed (cells_of e.engine.trees)) e.engine.kept.last_db log.change planned.changes.items planned.gone
          (subst (λ (m : List Change). ArePlanned (committed (cells_of e.engine.trees)) e.engine.kept.last_db log.change m planned.changes.items planned.gone) (one.1 other) are_of)

      apart_of : (fills : Bool) → is_index log.change ≡ fills → (fills ≡ true → IsPlannedFill planned) → ChangesCatalog call → AreApart st.own planned.changes.items
      apart_of true index fill is = apart_index most meaning e st session call planned at none log index (fill refl) low
      apart_of false other fill is = apart_plain most meaning e st session call planned at none is log other

      -- it is valid afterwards
      valid_logged : (fills : Bool) → is_index log.change ≡ fills → (fills ≡ true → IsPlannedFill planned) → (n : Engine D) → AreSound st → ChangesCatalog call → IsFreeToChange st call → e.engine.kept.last_txn < LAST_TXN →
          HasLogged (contents_of e.engine) (contents_of n) planned → LeavesOthers e.engine.trees n.trees planned (owing st + 1) →
          (a : HasAppended meaning e.engine.trees.log n.trees.log (txn_of (e.engine.kept.last_txn + 1)) planned.changes.items) →
          CarriesTrees meaning e.engine.trees.log a.entries (contents_of e.engine) (contents_of n) →
          IsValidWith meaning.observable (now (meaning.history (disk_below n.trees.log))) n.trees.log (cells_of n.trees) (has_tree_of n.trees) (fitting n.trees) n.kept.since e.written.by_txn.entries (with_alone (committed_alone (log.change ∷ log.more) (drawn_alone (alone_of st))) st)
      valid_logged fills kind fill n sound is free below has leaves a carries =
          let p : Alone = alone_of st in
          let c : Contents = contents_of e.engine in
          let rows : Rows = committed (cells_of e.engine.trees) in
          let v = at.valid none in
          let one = one_planned (known c) p session call planned is log in
          let added : HasAdded meaning e.engine.trees.log n.trees.log (LogsTransaction (txn_of (e.engine.kept.last_txn + 1)) planned.changes.items) =
          record { entries = a.entries; logs = a.logs; grew = a.grew; room = record { max = e.engine.trees.log.max; entries_are = a.fits.entries_are; room = a.fits.room } } in
          let left : nat_lt st.last_txn LAST_TXN ≡ true = ap (λ (x : ℕ). nat_lt x LAST_TXN) (sym at.last_txn) ∙ lt-ltb e.engine.kept.last_txn LAST_TXN below in
          let are : ArePlanned rows st.last_db log.change log.more planned.changes.items planned.gone =
          subst (λ (x : ℕ). ArePlanned rows x log.change log.more planned.changes.items planned.gone) at.last_db are_of in
          let catalog : rows_after planned.changes.items planned.gone rows 0 ≡ rows_changed (row_changes 0 st.last_db log.change rows) rows 0 =
          catalog_of fills kind fill is ∙ ap (λ (x : ℕ). rows_changed (row_changes 0 x log.change rows) rows 0) at.last_db in
          logged_valid meaning e.engine.trees.log n.trees.log (cells_of e.engine.trees) (cells_of n.trees) (has_tree_of e.engine.trees) (has_tree_of n.trees) (fitting e.engine.trees) (fitting n.trees) e.engine.kept.since n.kept.since e.written.by_txn.entries st
          (with_alone (committed_alone (log.change ∷ log.more) (drawn_alone p)) st) (txn_of (e.engine.kept.last_txn + 1)) log.change log.more planned.changes.items planned.gone v are catalog (apart_of fills kind fill is)
          sound.numbers (next_is st.last_txn left) (ap (λ (x : ℕ). x + 1) at.last_txn)
          (λ u. elsewhere_of rows st call log.change u v.makes.named sound free one.0) added carries (ap (λ (k : Checkpoints). k.since) has.checkpoints) (fun_ext has.rows) leaves.writes
          (trees_logged c (contents_of n) p session call planned (has_tree_of e.engine.trees) (has_tree_of n.trees)
          (sound_at most meaning.observable (now (meaning.history (disk_below e.engine.trees.log))) e.engine.trees.log c p (alone_at most meaning e st at) none) log (omega (arith, low)) has v.made leaves.trees)
          (λ x owed. subst (λ (k : ℕ). HasRoomFor n.trees.log (commit_sizes k)) owed (leaves.room (owing st) (omega arith)))
          (store_on meaning e.engine.trees.log n.trees.log v.log c log.change log.more planned
          (may_grow meaning.observable (now (meaning.history (disk_below e.engine.trees.log))) e.engine.trees.log v.log c p session call planned v.has gives_of log (omega (arith, low))) a st.store v.recovers)
          refl

    -- ---- how it comes out

    pub within_below : (e : Environment D) (n : Engine D) (p : Alone) (session : ℕ) (call : Call) (planned : PlannedChanges) (found : Option TreeErr) (answer : Answer) → p.fault ≡ None → IsAutoCommitted call →
        (log : IsPlannedLog (known (contents_of e.engine)) p session call planned) →
        LogsChanges meaning e.engine.trees.log n.trees.log (contents_of e.engine) (contents_of n) planned found (Ok answer) →
        EndsNear e.engine.trees n.trees (length planned.changes.items) (Ok answer) → has_failed e.engine.trees.log ≡ false →
        IsWithin (reach_of (with_engine e n)) (reach_after (reach_of e) (log.change ∷ log.more))
    within_below e n p session call planned found answer none is log logs near works =
        near_env e n (log.change ∷ log.more) works
        (subst (λ (cs : List Change). IsWithin (reach_below n) (reach_after (reach_below e.engine) cs)) (alone_changes p session call none is ∙ log.changes)
        (logs_grow meaning e.engine n p session call planned found (Ok answer) none is log logs near))

    module _ (most : ℕ) (e : Environment D) (st : Standing) (session line : ℕ) (call : Call) (fills : Bool) (planned : PlannedChanges) (is : ChangesCatalog call) (early : early_refusal st session call ≡ None) (sound : AreSound st)
        (free : IsFreeToChange st call) (at : StandsAt most meaning e st) (none : st.fault ≡ None) (below : e.engine.kept.last_txn < LAST_TXN)
        (its : IsPlannedAs (known (contents_of e.engine)) (alone_of st) session call fills planned) where
      abbrev log : IsPlannedLog (known (contents_of e.engine)) (alone_of st) session call planned
      log = its.log

      abbrev limit_of : Option Answer
      limit_of = limit_by (limit_found fills e.engine.trees planned.changes.items (owing st + 1)) e.engine.kept.last_node (length planned.changes.items)

      -- an answer of the engine
      comes_by : (n : Engine D) (answer : Answer) (after : Alone) →
          LogsChanges meaning e.engine.trees.log n.trees.log (contents_of e.engine) (contents_of n) planned (limit_found fills e.engine.trees planned.changes.items (owing st + 1)) (Ok answer) →
          EndsNear e.engine.trees n.trees (length planned.changes.items) (Ok answer) →
          EndsAlone limit_of (alone_of st) session call answer after → StandsAt most meaning (with_engine e n) (with_alone after st) → IsNumbered answer after.commits →
          after.fault ≡ cond (is_disk_fault answer) (Some Disk) None →
          IsCallStep meaning (is_disk_fault answer) e.engine n.trees.log (tried (log.change ∷ log.more) (fate_of answer)) (tried (log.change ∷ log.more) (fate_of answer)) →
          HasCome meaning most e (with_engine e n) st session line call answer []
      comes_by n answer after logs near ends here numbered fault step =
          come_alone meaning most e (with_engine e n) st session line call answer (log.change ∷ log.more) limit_of after is early none log.changes (λ late. free)
          (has_limit_as e (owing st + 1) (alone_of st) session call fills planned its) ends here numbered fault step
          (within_below e n (alone_of st) session call planned (limit_found fills e.engine.trees planned.changes.items (owing st + 1)) answer none (auto_is call is) log logs near (at.valid none).works)

      -- what is known of databases follows the change, or stays
      knows_still : {kept : Kept} → FollowMaps (name_at st.numbers st.store) (made_at st.numbers st.store) kept → KnowsDatabases st kept
      knows_still follow = record { indexes_are = follow.indexes_are; names_are = follow.names_are }

      knows_logged : (n : Engine D) → planned.last_db ≤ LAST_DATABASE → HasLogged (contents_of e.engine) (contents_of n) planned →
          MakesStore (committed (cells_of n.trees)) (with_alone (committed_alone (log.change ∷ log.more) (drawn_alone (alone_of st))) st).last_db (with_alone (committed_alone (log.change ∷ log.more) (drawn_alone (alone_of st))) st) →
          FollowMaps (names_logged st.numbers st.last_db call (name_at st.numbers st.store)) (made_logged st.numbers st.last_db call (made_at st.numbers st.store)) n.kept →
          KnowsDatabases (with_alone (committed_alone (log.change ∷ log.more) (drawn_alone (alone_of st))) st) n.kept
      knows_logged n low has makes follow =
          let v = at.valid none in
          let rows : Rows = committed (cells_of e.engine.trees) in
          let one = one_planned (known (contents_of e.engine)) (alone_of st) session call planned is log in
          let after : Standing = with_alone (committed_alone (log.change ∷ log.more) (drawn_alone (alone_of st))) st in
          let may : MayBeLogged rows st.last_db log.change = subst (λ (x : ℕ). MayBeLogged rows x log.change) at.last_db (log.may (omega (arith, low))).0 in
          let catalog : committed (cells_of n.trees) 0 ≡ rows_changed (row_changes 0 st.last_db log.change rows) rows 0 =
          has.rows 0 ∙ catalog_of most e st session call planned at none log low fills its.kind its.fill is ∙ ap (λ (x : ℕ). rows_changed (row_changes 0 x log.change rows) rows 0) at.last_db in
          known_after rows (committed (cells_of n.trees)) st.last_db after.last_db st after call n.kept v.makes makes
          (subst (AreFollowed (number_named rows) st.last_db call (rows 0)) (sym catalog)
          (followed rows st.last_db st v.makes call log.change one.0 may (plain_for rows st session call log.change log.more v.makes one.0 log.changes))) follow

      model_at : HasModel (known (contents_of e.engine)) (alone_of st)
      model_at = model most meaning.observable (now (meaning.history (disk_below e.engine.trees.log))) e.engine.trees.log (contents_of e.engine) (alone_of st) (alone_at most meaning e st at) none below

      comes_logged : (n : Engine D) (commit : ℕ) →
          LogsChanges meaning e.engine.trees.log n.trees.log (contents_of e.engine) (contents_of n) planned (limit_found fills e.engine.trees planned.changes.items (owing st + 1)) (Ok (Logged commit)) →
          EndsNear e.engine.trees n.trees (length planned.changes.items) (Ok (Logged commit)) → LeavesOthers e.engine.trees n.trees planned (owing st + 1) →
          FollowsCall st call n.kept (Ok (Logged commit)) → HasCome meaning most e (with_engine e n) st session line call (Logged commit) []
      comes_logged n commit logs near leaves follows =
          let p : Alone = alone_of st in
          let after : Alone = committed_alone (log.change ∷ log.more) (drawn_alone p) in
          let number : commit ≡ p.commits + 1 = logs.0 ∙ ap (λ (x : ℕ). x + 1) at.commits in
          let ends : EndsAlone limit_of p session call (Logged commit) after =
          subst (λ (x : ℕ). EndsAlone limit_of p session call (Logged x) after) (sym number)
          (subst (λ (l : Option Answer). EndsAlone l p session call (Logged (p.commits + 1)) after) (sym logs.3)
          (logged_ends (known (contents_of e.engine)) p session call planned none (auto_is call is) model_at log logs.2)) in
          let s = at.sessions_at in
          let sessions : AreSessionsAt e.sessions (with_alone after st) =
          record { actives = s.actives; own = s.own; places = cursors_alone limit_of after st session line call (Logged commit) is early none (λ late. free) ends e.sessions.cursors s.places; waiting = s.waiting; locks = s.locks } in
          comes_by n (Logged commit) after logs near ends
          (stands_on most e n st after at sessions
          (logged_at meaning most e.engine.trees.log n.trees.log (contents_of e.engine) (contents_of n) p session call planned (alone_at most meaning e st at) none below log logs.2 logs.1 logs.4 logs.5)
          (λ valid. knows_logged n logs.2 logs.1 (valid_logged most e st session call planned at none log logs.2 fills its.kind its.fill n sound is free below logs.1 leaves logs.4 logs.5).makes follows)
          (λ valid. valid_logged most e st session call planned at none log logs.2 fills its.kind its.fill n sound is free below logs.1 leaves logs.4 logs.5))
          number none (logged_step most e st session call planned at none log logs.2 n logs.4)

      comes_full : (n : Engine D) →
          LogsChanges meaning e.engine.trees.log n.trees.log (contents_of e.engine) (contents_of n) planned (limit_found fills e.engine.trees planned.changes.items (owing st + 1)) (Ok LogFull) →
          EndsNear e.engine.trees n.trees (length planned.changes.items) (Ok LogFull) → AreSameCells e.engine.trees n.trees → KnowsDatabases st n.kept →
          HasCome meaning most e (with_engine e n) st session line call LogFull []
      comes_full n logs near same knows =
          let p : Alone = alone_of st in
          comes_by n LogFull (drawn_alone p) logs near
          (subst (λ (l : Option Answer). EndsAlone l p session call LogFull (drawn_alone p)) (sym logs.0) (full_ends (known (contents_of e.engine)) p session call planned none (auto_is call is) log))
          (drawn_same most e n st at below logs.1 logs.2 same (λ calm. knows)) tt none (inl (logs.2, refl, refl))

      comes_ended : (n : Engine D) →
          LogsChanges meaning e.engine.trees.log n.trees.log (contents_of e.engine) (contents_of n) planned (limit_found fills e.engine.trees planned.changes.items (owing st + 1)) (Ok IdsEnded) →
          EndsNear e.engine.trees n.trees (length planned.changes.items) (Ok IdsEnded) → AreSameCells e.engine.trees n.trees → KnowsDatabases st n.kept → e.engine.kept.last_db ≤ LAST_DATABASE →
          HasCome meaning most e (with_engine e n) st session line call IdsEnded []
      comes_ended n logs near same knows few =
          comes_by n IdsEnded (drawn_alone (alone_of st)) logs near (by_limit logs.0) (drawn_same most e n st at below logs.1 logs.2 same (λ calm. knows)) tt none (inl (logs.2, refl, refl))
        where
          by_limit : (limit_of ≡ Some IdsEnded) ⊎ ((limit_of ≡ None) × (LAST_DATABASE < planned.last_db)) → EndsAlone limit_of (alone_of st) session call IdsEnded (drawn_alone (alone_of st))
          by_limit (inl ended) = subst (λ (l : Option Answer). EndsAlone l (alone_of st) session call IdsEnded (drawn_alone (alone_of st))) (sym ended)
              (ended_ends (known (contents_of e.engine)) (alone_of st) session call planned none (auto_is call is) log)
          by_limit (inr past) = subst (λ (l : Option Answer). EndsAlone l (alone_of st) session call IdsEnded (drawn_alone (alone_of st))) (sym past.0)
              (ids_ends (known (contents_of e.engine)) (alone_of st) session call planned none (auto_is call is) model_at log few past.1)

      comes_failed : (n : Engine D) →
          LogsChanges meaning e.engine.trees.log n.trees.log (contents_of e.engine) (contents_of n) planned (limit_found fills e.engine.trees planned.changes.items (owing st + 1)) (Ok DiskFault) →
          EndsNear e.engine.trees n.trees (length planned.changes.items) (Ok DiskFault) →
          HasCome meaning most e (with_engine e n) st session line call DiskFault []
      comes_failed n logs near =
          let p : Alone = alone_of st in
          comes_by n DiskFault (faulted_alone p) logs near
          (subst (λ (l : Option Answer). EndsAlone l p session call DiskFault (faulted_alone p)) (sym logs.2)
          (fault_ends (known (contents_of e.engine)) p session call planned none (auto_is call is) model_at log logs.1))
          (stands_on most e n st (faulted_alone p) at (sessions_faulted e.sessions st st.begun at.sessions_at)
          (faulted_at most meaning.observable (now (meaning.history (disk_below e.engine.trees.log))) (now (meaning.history (disk_below n.trees.log))) e.engine.trees.log n.trees.log (contents_of e.engine) (contents_of n) p p.begun
          (alone_at most meaning e st at) logs.0 logs.3.tried.max)
          (λ valid. absurd cc)
          (λ valid. absurd cc))
          tt refl (tried_step most e st session call planned at none log logs.1 n logs.3)

      pub comes_out : (n : Engine D) (result : Result Answer AllocError) →
          LogsChanges meaning e.engine.trees.log n.trees.log (contents_of e.engine) (contents_of n) planned (limit_found fills e.engine.trees planned.changes.items (owing st + 1)) result →
          EndsNear e.engine.trees n.trees (length planned.changes.items) result → LeavesCells e.engine.trees n.trees planned (owing st + 1) result → FollowsCall st call n.kept result → e.engine.kept.last_db ≤ LAST_DATABASE →
          ComesToAnswer meaning most e (with_engine e n) st session line call result
      comes_out n (Ok (Logged commit)) logs near leaves follows few = comes_logged n commit logs near leaves follows
      comes_out n (Ok LogFull) logs near leaves follows few = comes_full n logs near leaves (knows_still follows)
      comes_out n (Ok IdsEnded) logs near leaves follows few = comes_ended n logs near leaves (knows_still follows) few
      comes_out n (Ok DiskFault) logs near leaves follows few = comes_failed n logs near
      comes_out n (Ok answer) logs near leaves follows few = absurd logs
      comes_out n (Err error) logs near leaves follows few = record {
        here = undrawn_same most e n st at logs.0 logs.1 leaves (λ calm. knows_still follows);
        log = logs.1;
        near = stay_near (at.valid none).works;
      }
        where
          same_end : end_below n.trees ≡ end_below e.engine.trees
          same_end = near

          stay_near : has_failed e.engine.trees.log ≡ false → IsWithin (reach_of (with_engine e n)) (reach_of e)
          stay_near works =
              let node = logs.0.last_node in
              let file = near_by (has_failed e.engine.trees.log) (has_failed n.trees.log) ((end_of e.engine.trees.log).file + waits_of e.engine.trees) ((end_of n.trees.log).file + waits_of n.trees)
              (owed_by e.sessions) 0 works (omega (arith, same_end)) in
              record { file = omega (arith, file); node = omega (arith, node) }

    -- the call by what the engine logged
    pub logs_performs : (e : Environment D) (n : Engine D) (session owed : ℕ) (call : Call) (fills : Bool) (planned : PlannedChanges) (result : Result Answer AllocError) → ChangesCatalog call → e.engine.kept.fault ≡ None →
        e.engine.kept.last_txn < LAST_TXN → e.engine.kept.last_db ≤ LAST_DATABASE →
        ((p : Alone) (s : ℕ) → HasModel (known (contents_of e.engine)) p → IsPlannedAs (known (contents_of e.engine)) p s call fills planned) →
        ((most : ℕ) (st : Standing) → StandsAt most meaning e st → AreSound st → IsFreeToChange st call) →
        ((st : Standing) → AreSessionsAt e.sessions st → owed ≡ owing st + 1) →
        ((most : ℕ) × (st : Standing) × StandsAt most meaning e st × AreSound st × (early_refusal st session call ≡ None)) →
        LogsChanges meaning e.engine.trees.log n.trees.log (contents_of e.engine) (contents_of n) planned (limit_found fills e.engine.trees planned.changes.items owed) result →
        EndsNear e.engine.trees n.trees (length planned.changes.items) result → LeavesCells e.engine.trees n.trees planned owed result →
        ((most : ℕ) (st : Standing) → StandsAt most meaning e st → FollowsCall st call n.kept result) → CanGoOn (with_engine e n) →
        HasStepCause (meaning.faults (disk_below e.engine.trees.log)) (meaning.faults (disk_below n.trees.log)) result →
        PerformsAnswer meaning e (with_engine e n) session call result
    logs_performs e n session owed call fills planned result is valid below few plan free owed_is there logs near leaves follows bounds cause = record {
      comes = comes;
      near = near_of result (comes there.0 there.1 0 there.2 there.3 there.4);
      bounds = bounds;
      cause = cause;
    }
      where
        comes : (most : ℕ) (st : Standing) (line : ℕ) → StandsAt most meaning e st → AreSound st → early_refusal st session call ≡ None →
            ComesToAnswer meaning most e (with_engine e n) st session line call result
        comes most st line at sound early =
            let none : st.fault ≡ None = sym at.fault ∙ valid in
            let owed_ : owed ≡ owing st + 1 = owed_is st at.sessions_at in
            comes_out most e st session line call fills planned is early sound (free most st at sound) at none below
            (plan (alone_of st) session (model most meaning.observable (now (meaning.history (disk_below e.engine.trees.log))) e.engine.trees.log (contents_of e.engine) (alone_of st) (alone_at most meaning e st at) none below)) n result
            (subst (λ (x : ℕ). LogsChanges meaning e.engine.trees.log n.trees.log (contents_of e.engine) (contents_of n) planned (limit_found fills e.engine.trees planned.changes.items x) result) owed_ logs)
            near (subst (λ (x : ℕ). LeavesCells e.engine.trees n.trees planned x result) owed_ leaves) (follows most st at) few

        near_of : (r : Result Answer AllocError) → ComesToAnswer meaning there.0 e (with_engine e n) there.1 session 0 call r → OnErr r (IsWithin (reach_of (with_engine e n)) (reach_of e))
        near_of (Ok answer) come_ = tt
        near_of (Err error) come_ = come_.near

    -- somebody uses its database
    pub used_performs : (e : Environment D) (session : ℕ) (call : Call) (t : TxnId) (fills : Bool) (planned : PlannedChanges) → ChangesCatalog call → e.engine.kept.last_txn < LAST_TXN → e.engine.kept.fault ≡ None → CanGoOn e →
        ((p : Alone) (s : ℕ) → HasModel (known (contents_of e.engine)) p → IsPlannedAs (known (contents_of e.engine)) p s call fills planned) →
        ((most : ℕ) (st : Standing) → StandsAt most meaning e st → AreSound st → IsUsedBy st call t) →
        PerformsAnswer meaning e (with_begun e (e.engine.kept.last_txn + 1) e.sessions) session call (Ok (DatabaseInUse t))
    used_performs e session call t fills planned is below valid bounds plan used = record {
      comes = λ most st line at sound early.
          let none : st.fault ≡ None = sym at.fault ∙ valid in
          let p : Alone = alone_of st in
          let out = outside st session call is early in
          let its = plan p session (model most meaning.observable (now (meaning.history (disk_below e.engine.trees.log))) e.engine.trees.log (contents_of e.engine) p (alone_at most meaning e st at) none below) in
          let log = its.log in
          let alike : late_refusal st session call ≡ late_refusal (alone p) session call = late_alike st session call is out in
          let late : late_refusal st session call ≡ None = alike ∙ (logs_alone (known (contents_of e.engine)) p session call planned (auto_is call is) log).0 in
          let same : (outcome_unless (late_refusal st session call) (performed_outcome p session call)).changes ≡ log.change ∷ log.more =
          ap (λ (l : Option Answer). (outcome_unless l (performed_outcome p session call)).changes) alike ∙ log.changes in
          let limit : Option Answer = limit_by (limit_found fills e.engine.trees planned.changes.items (owing st + 1)) e.engine.kept.last_node (length planned.changes.items) in
          come meaning most e (with_begun e (e.engine.kept.last_txn + 1) e.sessions) st session line call (DatabaseInUse t) (log.change ∷ log.more) limit (drawn_alone p) out
          (written_are (late_refusal st session call) st session call is ∙ same) (committed_are (late_refusal st session call) st session call is ∙ same)
          (has_limit_as e (owing st + 1) p session call fills planned its)
          (subst (λ (l : Option Answer). IsEvaluated l limit st session line call (DatabaseInUse t) []) (sym late) (in_use_answers limit st session line call t is (used most st at sound)))
          (ap (λ (l : Option Answer). after_evaluated l st session line call (DatabaseInUse t) []) late ∙ in_use_leaves st session line call t is out)
          (drawn_here meaning most e st below at) tt none (inl (same_buffer e.engine.trees.log, refl, refl))
          (within_more e (with_begun e (e.engine.kept.last_txn + 1) e.sessions) (log.change ∷ log.more) (record { file = omega arith; node = omega arith }));
      near = tt;
      bounds = let within : e.engine.kept.commits ≤ e.engine.kept.last_txn = bounds in omega (arith, within);
      cause = record { never_falls = omega arith; fault = λ done. absurd (never_used t done) };
    }
      where
        never_used : (u : TxnId) → DatabaseInUse u ≡ DiskFault → ⊥
        never_used u done = absurd cc

    -- the same where the call would change nothing
    pub used_answers : (e : Environment D) (session : ℕ) (call : Call) (t : TxnId) → ChangesCatalog call → e.engine.kept.last_txn < LAST_TXN → e.engine.kept.fault ≡ None → CanGoOn e →
        ((p : Alone) (s : ℕ) → HasModel (known (contents_of e.engine)) p → outcome_alone p s call ≡ answers ReadOnlyIndex) →
        ((most : ℕ) (st : Standing) → StandsAt most meaning e st → AreSound st → IsUsedBy st call t) →
        PerformsAnswer meaning e (with_begun e (e.engine.kept.last_txn + 1) e.sessions) session call (Ok (DatabaseInUse t))
    used_answers e session call t is below valid bounds plan used = record {
      comes = λ most st line at sound early.
          let none : st.fault ≡ None = sym at.fault ∙ valid in
          let p : Alone = alone_of st in
          let out = outside st session call is early in
          let planned = plan p session (model most meaning.observable (now (meaning.history (disk_below e.engine.trees.log))) e.engine.trees.log (contents_of e.engine) p (alone_at most meaning e st at) none below) in
          let alike : late_refusal st session call ≡ late_refusal (alone p) session call = late_alike st session call is out in
          let late : late_refusal st session call ≡ None = alike ∙ read_only_late p session call is planned in
          let same : (outcome_unless (late_refusal st session call) (performed_outcome p session call)).changes ≡ [] =
          ap (λ (l : Option Answer). (outcome_unless l (performed_outcome p session call)).changes) alike ∙ ap (λ (o : Outcome). o.changes) planned in
          come meaning most e (with_begun e (e.engine.kept.last_txn + 1) e.sessions) st session line call (DatabaseInUse t) [] None (drawn_alone p) out
          (written_are (late_refusal st session call) st session call is ∙ same) (committed_are (late_refusal st session call) st session call is ∙ same)
          refl
          (subst (λ (l : Option Answer). IsEvaluated l None st session line call (DatabaseInUse t) []) (sym late) (in_use_answers None st session line call t is (used most st at sound)))
          (ap (λ (l : Option Answer). after_evaluated l st session line call (DatabaseInUse t) []) late ∙ in_use_leaves st session line call t is out)
          (drawn_here meaning most e st below at) tt none (inl (same_buffer e.engine.trees.log, refl, refl))
          (within_more e (with_begun e (e.engine.kept.last_txn + 1) e.sessions) [] (record { file = omega arith; node = omega arith }));
      near = tt;
      bounds = let within : e.engine.kept.commits ≤ e.engine.kept.last_txn = bounds in omega (arith, within);
      cause = record { never_falls = omega arith; fault = λ done. absurd (never_in_use t done) };
    }
      where
        never_in_use : (u : TxnId) → DatabaseInUse u ≡ DiskFault → ⊥
        never_in_use u done = absurd cc
