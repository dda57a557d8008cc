-- A call on records that is a transaction of its own, among others: what it changes is logged with its Commit, or not.
use mathlib.Core.Path.{fun_ext}
use Rattle.std.proofs.Common.{◌≡◌, ◌≢◌, ◌∙◌, ◌⊎◌, inl, inr, ℕ, ◌≤◌, ◌<◌, ◌+◌, Bool, false, cond, List, [], ◌∷◌, ◌++◌, length, Option, None, Some, Result, Ok, Err, refl, ap, sym, subst, arith}
use Rattle.std.specs.List.{AllByRecursion}
use Rattle.std.specs.declared.alloc.AllocError.{AllocError}
use Rattle.std.proofs.lemmas.Bool.{ltb-true}
use Rattle.je_disk.specs.DiskMeaning.{DiskMeaning}
use Rattle.je_disk.specs.Moments.{now}
use Rattle.je_order.specs.declared.name.Name.{Name}
use Rattle.je_order.specs.declared.txn_id.TxnId.{TxnId}
use Rattle.je_order.proofs.Lists.{all_weaker}
use Rattle.store_model.specs.declared.answer.Answer.{Answer}
use Rattle.store_model.specs.declared.answer.Answer.TheVariants.{Logged, LogFull, IdsEnded, DiskFault}
use Rattle.store_model.specs.declared.answer.Fault.TheVariants.{Disk}
use Rattle.store_model.specs.declared.call.Call.{Call}
use Rattle.store_model.specs.declared.call.Call.TheVariants.{Get, GetBoth, Put, Delete}
use Rattle.store_model.specs.declared.change.Change.{Change}
use Rattle.store_model.specs.declared.record_change.RecordChange.{RecordChange}
use Rattle.store_model.specs.declared.record_change.RecordChange.TheVariants.{Set, Unset}
use Rattle.store_model.specs.declared.store.TheConstants.{LAST_DATABASE, LAST_TXN}
use Rattle.store_model.specs.declared.victim.Victim.{Victim}
use Rattle.store_model.specs.Evaluation.{Outcome}
use Rattle.store_model.specs.Needs.{changed_name}
use Rattle.store_model.specs.Records.{Evaluated}
use Rattle.store_model.specs.Refusals.{made_by, next_txn}
use Rattle.store_model.specs.Store.{change_in}
use Rattle.je_answers.specs.declared.active.Active.{Active}
use Rattle.je_answers.specs.Alone.{IsAutoCommitted, committed_alone, drawn_alone, faulted_alone}
use Rattle.je_answers.specs.After.{after_changes, after_fate, answered, committed as commits, committed_if_any, ended, fate_of, faulted, moved, with_locks, with_outcome}
use Rattle.je_answers.specs.Events.{IsDone, IsLogged, auto_active, begun, due, log_limit}
use Rattle.je_answers.specs.Journal.{is_disk_fault, tried}
use Rattle.je_answers.specs.Locking.{all_got, first_blocked}
use Rattle.je_answers.specs.Standing.{Standing}
use Rattle.je_answers.specs.Views.{Target, changes_with, needs_in, with_names, with_numbers}
use Rattle.log_buffer.specs.Buffer.{disk_of as disk_below, end_of, has_failed}
use Rattle.log_replay.proofs.ListLaws.{all_to_map}
use Rattle.log_replay.specs.Rows.{Rows}
use Rattle.record_map.specs.Cells.{value_at}
use Rattle.record_tree.specs.Logged.{LogsTransaction}
use Rattle.record_tree.specs.Occupied.{IsFreeFor, write_in}
use Rattle.record_tree.specs.declared.tree_change.TreeChange.{TreeChange}
use Rattle.in_tree.specs.Limits.{HasRoomFor, commit_sizes}
use Rattle.in_tree.specs.Observed.{cells_of, has_tree_of, limit_in, waits_of}
use Rattle.active_txns.specs.Own.{AreCounted}
use Rattle.sessions.specs.declared.all_sessions.Sessions.{Sessions}
use Rattle.sessions.specs.AtStanding.{AreSessionsAt, owing}
use Rattle.standing_laws.specs.Laws.{IsOnlyOf}
use Rattle.standing_laws.specs.Right.{AreSound, HaveOwnWaits}
use Rattle.standing_laws.proofs.Moves.{sound_begun}
use Rattle.standing_laws.proofs.Stopped.{LeavesSame}
use Rattle.standing_laws.proofs.Writers.{writers-are_free}
use Rattle.standing_laws.proofs.NamedDatabases.{IsOfRecord}
use Rattle.standing_laws.proofs.CursorDatabases.{all_with}
use Rattle.sessions.proofs.CursorStores.{sessions_changed, under_changed}
use Rattle.txn_core.specs.declared.planned_changes.PlannedChanges.{PlannedChanges}
use Rattle.txn_core.specs.Known.{committed}
use Rattle.txn_core.specs.Planning.{IsPlannedLog, gone_by, is_index, makes_index}
use Rattle.txn_core.proofs.NoIndexes.{named_no_index}
use Rattle.txn_core.specs.Totals.{totals_of}
use Rattle.txn_core.specs.Transactions.{LeavesWrites}
use Rattle.txn_log.specs.Buffers.{HasAdded}
use Rattle.txn_log.specs.Committing.{MakesStore}
use Rattle.txn_log.specs.Own.{tree_of}
use Rattle.engine.specs.declared.engine.Engine.{Engine}
use Rattle.engine.specs.Contents.{HasLogged, known, rows_after, Checkpoints}
use Rattle.engine.specs.Limits.{IsWithin, limit_by, reach_after}
use Rattle.engine.specs.Steps.{HasAppended, LogsChanges, txn_of, CarriesTrees}
use Rattle.engine.specs.Whole.{EndsNear, LeavesCells, LeavesOthers, contents_of}
use Rattle.engine.proofs.CallLaws.{sound_at}
use Rattle.engine.proofs.PlannedCalls.{trees_logged}
use Rattle.engine.proofs.PlannedRows.{ArePlanned}
use Rattle.engine.proofs.StepLaws.{logged_at}
use Rattle.engine.proofs.SyncedStanding.{faulted_at}
use Rattle.environment.proofs.PlacesLaws.{gone_again, placed_again}
use Rattle.environment.specs.declared.environment.Environment.{Environment}
use Rattle.environment.specs.Auto.{IsAutoAt, IsLoggedAuto, alone_in, changes_auto, outcome_auto}
use Rattle.environment.specs.Calls.{IsOnRecords}
use Rattle.environment.specs.Changing.{IsRightIn}
use Rattle.environment.specs.Steps.{HasCome, HasNotCome, HasStepped, IsCallStep, StandsAt}
use Rattle.environment.specs.Valid.{IsValidWith, owed_by, fitting, KnowsDatabases}
use Rattle.environment.specs.Whole.{HasLimit, limit_found, reach_of}
use Rattle.environment.proofs.Answering.{owed_is}
use Rattle.environment.proofs.AutoEnds.{next, none_yet, outcome_is_auto, sessions_closed}
use Rattle.environment.proofs.ChangeLaws.{Changed}
use Rattle.environment.proofs.AutoLaws.{back, come_ready, near_fewer, own_back, own_gone, same_leaves, valid_leaves}
use Rattle.environment.proofs.AutoRows.{AreOnly, all_free, lone_valid, stays}
use Rattle.environment.proofs.CatalogEnds.{alone_at}
use Rattle.environment.proofs.Databases.{AreSameMaps, known_moved, known_leaves, still_known}
use Rattle.environment.proofs.CatalogLogged.{are_of, drawn_same, has_limit, logged_step, stands_on, tried_step, undrawn_same, with_engine, within_below}
use Rattle.environment.proofs.Standing.{sessions_faulted}

-- ---- what it changes

auto_is : (call : Call) (db : List ℕ) → IsOnRecords db call → IsAutoCommitted call
auto_is (Get name key rmw) db is = tt
auto_is (GetBoth name key value rmw) db is = tt
auto_is (Put name key value mode) db is = tt
auto_is (Delete name key) db is = tt
auto_is call db is = absurd is

head_of : Change → List Change → Change
head_of c [] = c
head_of c (x ∷ xs) = x

-- changes of records take no database out, and make none
no_gone : (rows : Rows) (cs : List Changed) (change : Change) (more : List Change) → with_names cs ≡ change ∷ more → gone_by rows change ≡ None
unfolding head_of
no_gone rows [] change more is = absurd cc
no_gone rows (c ∷ cs) change more is = ap (gone_by rows) (sym (ap (head_of change) is)) ∙ by_change c.1
  where
    by_change : (r : RecordChange) → gone_by rows (change_in c.0.1.name r) ≡ None
    by_change (Set at value) = refl
    by_change (Unset at) = refl

none_made : (cs : List Changed) → made_by (with_names cs) ≡ 0
none_made [] = refl
none_made (c ∷ cs) = by_change c.1 (none_made cs)
  where
    by_change : (r : RecordChange) → made_by (with_names cs) ≡ 0 → made_by (change_in c.0.1.name r ∷ with_names cs) ≡ 0
    by_change (Set at value) rest = rest
    by_change (Unset at) rest = rest

-- one that changes something is answered so, and leaves this
done_some : (l : List RecordChange) (limit : Option Answer) (st : Standing) (a : Active) (ev : Evaluated) (answer : Answer) → l ≢ [] → IsLogged (log_limit limit) (due st a ev) answer → IsDone l limit st a ev answer
done_some [] limit st a ev answer some is = absurd (some refl)
done_some (c ∷ l) limit st a ev answer some is = is

after_some : (l : List RecordChange) (old st : Standing) (a : Active) (call : Call) (g : Target) (ev : Evaluated) (answer : Answer) → l ≢ [] → after_fate (fate_of answer) old st a call g ev ≡ after_changes l old st a call g ev answer
after_some [] old st a call g ev answer some = absurd (some refl)
after_some (c ∷ l) old st a call g ev answer some = refl

module _ {D : Type 0} where
  -- an environment with another engine and other sessions
  abbrev pub with_both : Environment D → Engine D → Sessions → Environment D
  with_both e n s = record { engine = n; sessions = s; written = e.written }

module _ {D : Type 0} (meaning : DiskMeaning D) where
  -- other sessions stand at a standing that is as far
  restand : (most : ℕ) (e : Environment D) (s : Sessions) (st after : Standing) → StandsAt most meaning e st → LeavesSame st after → AreSessionsAt s after → HaveOwnWaits after.waiting →
      StandsAt most meaning (record { engine = e.engine; sessions = s; written = e.written }) after
  restand most e s st after at same sessions apart = record {
    file_max = at.file_max;
    fault = at.fault ∙ sym same.fault;
    last_txn = at.last_txn ∙ sym same.last_txn;
    last_db = at.last_db ∙ sym same.last_db;
    commits = at.commits ∙ sym same.commits;
    totals = at.totals ∙ ap totals_of (sym same.store);
    sessions_at = sessions;
    apart = apart;
    checkpoint = at.checkpoint ∙ sym same.checkpoint;
    databases = λ none. known_leaves st after e.engine.kept same (at.databases (sym same.fault ∙ none));
    valid = λ none. valid_leaves meaning.observable (now (meaning.history (disk_below e.engine.trees.log))) e.engine.trees.log (cells_of e.engine.trees) (has_tree_of e.engine.trees) (fitting e.engine.trees) e.engine.kept.since e.written.by_txn.entries st after same
        (at.valid (sym same.fault ∙ none));
  }

  module _ (most : ℕ) (e : Environment D) (st : Standing) (session line : ℕ) (call : Call) (g : Target) (planned : PlannedChanges) (may : IsAutoAt most meaning e st session call g)
      (its_log : IsLoggedAuto e.engine st session call g planned) (free : first_blocked (auto_active st session).txn (needs_in (begun st session) (auto_active st session) call g) st.locks.at ≡ None) where
    abbrev log : IsPlannedLog (known (contents_of e.engine)) (alone_in st) session call planned
    log = its_log.log

    pub below : e.engine.kept.last_txn < LAST_TXN
    below = let left = ltb-true st.last_txn LAST_TXN may.left in let at = may.at.last_txn in omega (arith, left, at)

    abbrev a_ : Active
    a_ = auto_active st session

    abbrev there_ : Standing
    there_ = begun st session

    abbrev ev_ : Evaluated
    ev_ = outcome_auto st session call g

    abbrev rows_ : Rows
    rows_ = committed (cells_of e.engine.trees)

    abbrev all_ : List Change
    all_ = log.change ∷ log.more

    abbrev cs_ : List Changed
    cs_ = changes_auto st session call g

    changes_eq : with_names cs_ ≡ all_
    changes_eq = sym (ap (λ (o : Outcome). o.changes) (outcome_is_auto meaning most e st session call g may)) ∙ log.changes

    pub no_index : is_index log.change ≡ false
    no_index = sym (ap makes_index changes_eq) ∙ named_no_index cs_

    some_ : ev_.changes ≢ []
    some_ none = filled (sym changes_eq ∙ ap (λ (l : List RecordChange). with_names (changes_with there_ a_ g l)) none)
      where
        filled : all_ ≡ [] → ⊥
        filled is = absurd cc

    none_own_yet : st.own a_.txn.0 ≡ []
    none_own_yet = none_yet meaning most e st session call g may

    next_ : next_txn st.last_txn ≡ st.last_txn + 1
    next_ = next meaning most e st session call g may

    none_gone : planned.gone ≡ None
    none_gone = log.gone_is ∙ no_gone rows_ cs_ log.change log.more changes_eq

    sound_there : AreSound there_
    sound_there = sound_begun st.last_txn st.actives st.own st.places st.waiting st.locks a_ may.sound (omega (arith, next_)) may.outside

    -- what holds of the changes holds of what is logged of them
    each_planned : (P : ℕ → Name → Type 0) → AllByRecursion (λ (c : ℕ × RecordChange). P c.0 (changed_name c.1)) (with_numbers cs_) → AllByRecursion (λ (c : TreeChange). P c.db c.name) planned.changes.items
    each_planned P all = subst (AllByRecursion (λ (c : TreeChange). P c.db c.name)) (sym its_log.own) (all_to_map tree_of (λ (c : TreeChange). P c.db c.name) (with_numbers cs_) all)

    only : AreOnly a_.txn.0 st.own planned.changes.items
    only = each_planned (λ d x. IsOnlyOf d x a_.txn.0 st.own) (writers-are_free there_ a_ call g sound_there free)

    above_all : AllByRecursion (λ (c : TreeChange). c.db ≢ 0) planned.changes.items
    above_all = each_planned (λ d x. d ≢ 0) (all_to_map (λ (c : Changed). (c.0.0, c.1)) (λ (c : ℕ × RecordChange). c.0 ≢ 0) cs_
        (all_weaker (IsRightIn st) (λ (c : Changed). c.0.0 ≢ 0) (λ c is. is.above) cs_ its_log.may.right))

    txn_is : txn_of (e.engine.kept.last_txn + 1) ≡ a_.txn
    txn_is = ap txn_of (ap (λ (n : ℕ). n + 1) may.at.last_txn ∙ sym next_)

    pub names_free : AllByRecursion (λ (c : TreeChange). IsFreeFor (txn_of (e.engine.kept.last_txn + 1)) (write_in (value_at c.name (cells_of e.engine.trees c.db)))) planned.changes.items
    names_free = subst (λ (t : TxnId). AllByRecursion (λ (c : TreeChange). IsFreeFor t (write_in (value_at c.name (cells_of e.engine.trees c.db)))) planned.changes.items) (sym txn_is)
        (all_free (cells_of e.engine.trees) st.own a_.txn planned.changes.items (may.at.valid may.valid).writes only)

    -- ---- how it comes out

    abbrev Found : Option Answer
    Found = limit_by (limit_in e.engine.trees planned.changes.items (owing st + 1)) e.engine.kept.last_node (length planned.changes.items)

    abbrev Logs_ : Engine D → Result Answer AllocError → Type 0
    Logs_ n result = LogsChanges meaning e.engine.trees.log n.trees.log (contents_of e.engine) (contents_of n) planned (limit_in e.engine.trees planned.changes.items (owing st + 1)) result

    abbrev Near_ : Engine D → Result Answer AllocError → Type 0
    Near_ n result = EndsNear e.engine.trees n.trees (length planned.changes.items) result

    fewer_owed : (s : Sessions) (after : Standing) → AreSessionsAt s after → owing after ≤ owing st → owed_by s ≤ owed_by e.sessions
    fewer_owed s after at less = let new = owed_is s after at in let old = owed_is e.sessions st may.at.sessions_at in omega (arith, new, old, less)

    near_at : (n : Engine D) (s : Sessions) (answer : Answer) → Logs_ n (Ok answer) → Near_ n (Ok answer) → owed_by s ≤ owed_by e.sessions → IsWithin (reach_of (with_both e n s)) (reach_after (reach_of e) all_)
    near_at n s answer logs near less =
        let first = near_fewer (with_engine e n) s n.kept.last_txn less in
        let second = within_below meaning e n (alone_in st) session call planned (limit_in e.engine.trees planned.changes.items (owing st + 1)) answer may.valid (auto_is call may.db may.records) log logs near
        (may.at.valid may.valid).works in
        let f1 = first.file in let n1 = first.node in let f2 = second.file in let n2 = second.node in
        record { file = omega (arith, f1, f2); node = omega (arith, n1, n2) }

    -- an answer, behind which it stands as it does
    abbrev After_ : Answer → Standing
    After_ answer = after_fate (fate_of answer) st there_ a_ call g ev_

    comes_by : (n : Engine D) (s : Sessions) (answer : Answer) (old after : Standing) → After_ answer ≡ after → Logs_ n (Ok answer) → Near_ n (Ok answer) → StandsAt most meaning (with_engine e n) old → LeavesSame old after →
        AreSessionsAt s after → HaveOwnWaits after.waiting → owing after ≤ owing st → IsLogged (log_limit Found) (due there_ a_ ev_) answer → Rattle.engine.specs.Steps.IsNumbered answer after.commits →
        after.fault ≡ cond (is_disk_fault answer) (Some Disk) None → IsCallStep meaning (is_disk_fault answer) e.engine n.trees.log (tried all_ (fate_of answer)) (tried all_ (fate_of answer)) →
        HasCome meaning most e (with_both e n s) st session line call answer []
    comes_by n s answer old after is logs near stands leaves sessions apart less answers numbered fault step =
        come_ready meaning most e (with_both e n s) st session line call g answer may.db ev_ may.records may.late may.outside may.target free refl
        (subst (λ (l : List Change).
        HasStepped meaning most e (with_both e n s) (owing st + 1) l l (λ limit. IsDone ev_.changes limit there_ a_ ev_ answer × (◌≡◌ {A = List Victim} [] []))
        (after_changes ev_.changes st there_ a_ call g ev_ answer) answer) (sym changes_eq)
        (subst (λ (x : Standing).
        HasStepped meaning most e (with_both e n s) (owing st + 1) all_ all_ (λ limit. IsDone ev_.changes limit there_ a_ ev_ answer × (◌≡◌ {A = List Victim} [] [])) x answer)
        (sym is ∙ after_some ev_.changes st there_ a_ call g ev_ answer some_) (record {
          limit = Found;
          has_limit = subst (λ (b : Bool). HasLimit e (owing st + 1) all_ (limit_by (limit_found b e.engine.trees planned.changes.items (owing st + 1)) e.engine.kept.last_node (length planned.changes.items))) no_index
              (has_limit e (owing st + 1) (alone_in st) session call planned log);
          answers = (done_some ev_.changes Found there_ a_ ev_ answer some_ answers, refl);
          here = restand most (with_engine e n) s old after stands leaves sessions apart;
          numbered = numbered;
          fault = fault;
          logged = step;
          near = near_at n s answer logs near (fewer_owed s after sessions less);
        })))

    -- where its transaction has ended
    abbrev Closed : Sessions → Type 0
    Closed s = AreSessionsAt s (ended a_ (with_locks a_ (all_got a_.txn (needs_in there_ a_ call g) st.locks.at) there_))

    back_actives : (ended a_ there_).actives ≡ st.actives
    back_actives = back session st.actives a_ refl may.outside

    -- it is refused
    refused : (n : Engine D) (s : Sessions) (answer : Answer) → Logs_ n (Ok answer) → Near_ n (Ok answer) → StandsAt most meaning (with_engine e n) (record st { last_txn = next_txn st.last_txn }) → Closed s →
        fate_of answer ≡ Rattle.je_answers.specs.After.IsRefused → is_disk_fault answer ≡ false → ((k : ℕ) → Rattle.engine.specs.Steps.IsNumbered answer k) → IsLogged (log_limit Found) (due there_ a_ ev_) answer →
        IsCallStep meaning false e.engine n.trees.log [] [] → HasCome meaning most e (with_both e n s) st session line call answer []
    refused n s answer logs near stands closed fate calm numbered answers step =
        let after : Standing = ended a_ (answered a_ call g there_) in
        let drawn : Standing = record st { last_txn = next_txn st.last_txn } in
        let own_is : after.own ≡ st.own = own_gone a_.txn.0 st.own none_own_yet in
        let leaves : LeavesSame drawn after = same_leaves drawn after refl refl refl refl refl refl refl own_is back_actives in
        let less : owing after ≤ owing drawn = leaves.owing in
        let sessions : AreSessionsAt s after = sessions_closed meaning most e st session call g may s [] after closed refl (λ u. u) refl own_is (λ n. refl) refl refl in
        comes_by n s answer drawn after (ap (λ (f : Rattle.je_answers.specs.After.Fate). after_fate f st there_ a_ call g ev_) fate) logs near stands leaves sessions may.at.apart less answers (numbered _)
        (may.valid ∙ ap (λ (b : Bool). cond b (Some Disk) None) (sym calm))
        (subst (λ (b : Bool). IsCallStep meaning b e.engine n.trees.log (tried all_ (fate_of answer)) (tried all_ (fate_of answer))) (sym calm)
        (subst (λ (f : Rattle.je_answers.specs.After.Fate). IsCallStep meaning false e.engine n.trees.log (tried all_ f) (tried all_ f)) (sym fate) step))

    -- it is logged
    low_of : planned.last_db ≤ LAST_DATABASE → ArePlanned rows_ st.last_db log.change log.more planned.changes.items None
    low_of low = subst (λ (o : Option ℕ). ArePlanned rows_ st.last_db log.change log.more planned.changes.items o) none_gone
        (subst (λ (x : ℕ). ArePlanned rows_ x log.change log.more planned.changes.items planned.gone) may.at.last_db
        (are_of meaning most e st session call planned may.at may.valid log low))

    valid_logged : (n : Engine D) → planned.last_db ≤ LAST_DATABASE → HasLogged (contents_of e.engine) (contents_of n) planned → LeavesOthers e.engine.trees n.trees planned (owing st + 1) →
        (h : HasAppended meaning e.engine.trees.log n.trees.log (txn_of (e.engine.kept.last_txn + 1)) planned.changes.items) →
        CarriesTrees meaning e.engine.trees.log h.entries (contents_of e.engine) (contents_of n) →
        IsValidWith meaning.observable (now (meaning.history (disk_below n.trees.log))) n.trees.log (cells_of n.trees) (has_tree_of n.trees) (fitting n.trees) n.kept.since e.written.by_txn.entries (commits all_ (record st { last_txn = next_txn st.last_txn }))
    valid_logged n low has leaves h carries =
        let t : TxnId = txn_of (e.engine.kept.last_txn + 1) in
        let v = may.at.valid may.valid in
        let number : t.0 ≡ st.last_txn + 1 = ap (λ (k : ℕ). k + 1) may.at.last_txn in
        let its : t.0 ≡ a_.txn.0 = ap (λ (x : TxnId). x.0) txn_is in
        let a : HasAdded meaning e.engine.trees.log n.trees.log (LogsTransaction t planned.changes.items) =
        record { entries = h.entries; logs = h.logs; grew = h.grew; room = record { max = e.engine.trees.log.max; entries_are = h.fits.entries_are; room = h.fits.room } } in
        lone_valid rows_ st t log.change log.more planned.changes.items (low_of low) above_all (subst (λ (k : ℕ). AreOnly k st.own planned.changes.items) (sym its) only) (ap st.own its ∙ none_own_yet) number
        meaning e.engine.trees.log n.trees.log (cells_of e.engine.trees) (cells_of n.trees) (has_tree_of e.engine.trees) (has_tree_of n.trees) (fitting e.engine.trees) (fitting n.trees) e.engine.kept.since n.kept.since e.written.by_txn.entries refl next_ v a carries (ap (λ (k : Checkpoints). k.since) has.checkpoints)
        (fun_ext has.rows ∙ ap (λ (o : Option ℕ). rows_after planned.changes.items o rows_) none_gone)
        (subst (λ (o : Option ℕ). LeavesWrites planned.changes.items o (cells_of e.engine.trees) (cells_of n.trees)) none_gone leaves.writes)
        (trees_logged (contents_of e.engine) (contents_of n) (alone_in st) session call planned (has_tree_of e.engine.trees) (has_tree_of n.trees)
        (sound_at most meaning.observable (now (meaning.history (disk_below e.engine.trees.log))) e.engine.trees.log (contents_of e.engine) (alone_in st) (alone_at most meaning e st may.at) may.valid) log (omega (arith, low)) has v.made leaves.trees)
        (λ k owed. subst (λ (m : ℕ). HasRoomFor n.trees.log (commit_sizes m)) owed (leaves.room (owing st) (omega arith)))

    abbrev Done_ : Standing
    Done_ = commits all_ (record st { last_txn = next_txn st.last_txn })

    -- what is known of databases stays
    known_still : (n : Engine D) → AreSameMaps e.engine.kept n.kept → KnowsDatabases st n.kept
    known_still n maps = known_moved st e.engine.kept n.kept maps (may.at.databases may.valid)

    known_logged : (n : Engine D) → planned.last_db ≤ LAST_DATABASE → HasLogged (contents_of e.engine) (contents_of n) planned → AreSameMaps e.engine.kept n.kept →
        (later_db : ℕ) → MakesStore (committed (cells_of n.trees)) later_db Done_ → KnowsDatabases Done_ n.kept
    known_logged n low has maps later_db makes =
        let catalog : committed (cells_of n.trees) 0 ≡ rows_ 0 = has.rows 0 ∙ ap (λ (o : Option ℕ). rows_after planned.changes.items o rows_ 0) none_gone ∙ stays planned.changes.items rows_ above_all in
        known_moved Done_ e.engine.kept n.kept maps (still_known rows_ (committed (cells_of n.trees)) st.last_db later_db st Done_ e.engine.kept (may.at.valid may.valid).makes makes catalog (may.at.databases may.valid))

    pub comes_logged : (n : Engine D) (s : Sessions) (commit : ℕ) → Logs_ n (Ok (Logged commit)) → Near_ n (Ok (Logged commit)) → LeavesOthers e.engine.trees n.trees planned (owing st + 1) → AreSameMaps e.engine.kept n.kept → Closed s →
        HasCome meaning most e (with_both e n s) st session line call (Logged commit) []
    comes_logged n s commit logs near leaves maps closed =
        let number : commit ≡ st.commits + 1 = logs.0 ∙ ap (λ (x : ℕ). x + 1) may.at.commits in
        let with_own_ : Standing = with_outcome a_ call g ev_ (answered a_ call g there_) in
        let after : Standing = ended a_ (commits all_ with_own_) in
        let own_is : after.own ≡ st.own = own_back a_.txn.0 (st.own a_.txn.0 ++ with_numbers (changes_with (answered a_ call g there_) a_ g ev_.changes)) st.own none_own_yet in
        let same : LeavesSame Done_ after = same_leaves Done_ after refl refl refl refl refl refl refl own_is back_actives in
        let less : owing after ≤ owing Done_ = same.owing in
        comes_by n s (Logged commit) Done_ after (ap (λ (l : List Change). ended a_ (committed_if_any l with_own_)) changes_eq) logs near
        (stands_on meaning most e n st (committed_alone all_ (drawn_alone (alone_in st))) may.at
        (sessions_changed e.sessions all_ st.last_db st (subst (AllByRecursion IsOfRecord) changes_eq (all_with cs_)) may.at.sessions_at)
        (logged_at meaning most e.engine.trees.log n.trees.log (contents_of e.engine) (contents_of n) (alone_in st) session call planned (alone_at most meaning e st may.at) may.valid below log logs.2 logs.1
        logs.4 logs.5)
        (λ valid. known_logged n logs.2 logs.1 maps Done_.last_db (valid_logged n logs.2 logs.1 leaves logs.4 logs.5).makes)
        (λ valid. valid_logged n logs.2 logs.1 leaves logs.4 logs.5))
        same (sessions_closed meaning most e st session call g may s [] after closed refl
        (under_changed s.cursors all_ st.store st.last_db st.numbers (subst (AllByRecursion IsOfRecord) changes_eq (all_with cs_))) refl own_is (gone_again a_.session (moved call ev_.place (st.places a_.session)) st.places) refl refl) may.at.apart less
        (subst (λ (l : Option Answer). IsLogged (log_limit l) (Logged (st.commits + 1)) (Logged commit)) (sym logs.3) (inl (ap Logged number))) number may.valid
        (logged_step meaning most e st session call planned may.at may.valid log logs.2 n logs.4)

    drawn_on : (n : Engine D) → Rattle.engine.specs.Contents.IsSame (Rattle.engine.specs.Contents.drawn_contents (contents_of e.engine)) (contents_of n) → Rattle.log_buffer.specs.Buffer.IsUnchanged e.engine.trees.log n.trees.log →
        Rattle.engine.specs.Whole.AreSameCells e.engine.trees n.trees → AreSameMaps e.engine.kept n.kept → StandsAt most meaning (with_engine e n) (record st { last_txn = next_txn st.last_txn })
    drawn_on n same log_same cells maps = drawn_same meaning most e n st may.at below same log_same cells (λ calm. known_still n maps)

    pub comes_full : (n : Engine D) (s : Sessions) → Logs_ n (Ok LogFull) → Near_ n (Ok LogFull) → Rattle.engine.specs.Whole.AreSameCells e.engine.trees n.trees → AreSameMaps e.engine.kept n.kept → Closed s →
        HasCome meaning most e (with_both e n s) st session line call LogFull []
    comes_full n s logs near cells maps closed =
        refused n s LogFull logs near (drawn_on n logs.1 logs.2 cells maps) closed refl refl (λ k. tt) (subst (λ (l : Option Answer). IsLogged (log_limit l) (Logged (st.commits + 1)) LogFull) (sym logs.0) refl) (inl (logs.2, refl, refl))

    pub comes_ended : (n : Engine D) (s : Sessions) → Logs_ n (Ok IdsEnded) → Near_ n (Ok IdsEnded) → Rattle.engine.specs.Whole.AreSameCells e.engine.trees n.trees → AreSameMaps e.engine.kept n.kept → Closed s → e.engine.kept.last_db ≤ LAST_DATABASE →
        HasCome meaning most e (with_both e n s) st session line call IdsEnded []
    comes_ended n s logs near cells maps closed few = refused n s IdsEnded logs near (drawn_on n logs.1 logs.2 cells maps) closed refl refl (λ k. tt) (by_limit logs.0) (inl (logs.2, refl, refl))
      where
        by_limit : (Found ≡ Some IdsEnded) ⊎ ((Found ≡ None) × (LAST_DATABASE < planned.last_db)) → IsLogged (log_limit Found) (Logged (st.commits + 1)) IdsEnded
        by_limit (inl is) = subst (λ (l : Option Answer). IsLogged (log_limit l) (Logged (st.commits + 1)) IdsEnded) (sym is) refl
        by_limit (inr past) =
            let made = ap made_by changes_eq in
            let none = none_made cs_ in
            let last = log.last_db in
            let over = past.1 in
            absurd (omega (arith, made, none, last, over, few))

    pub comes_failed : (n : Engine D) (s : Sessions) → Logs_ n (Ok DiskFault) → Near_ n (Ok DiskFault) → AreSessionsAt s (faulted st) →
        HasCome meaning most e (with_both e n s) st session line call DiskFault []
    comes_failed n s logs near back_at =
        let after : Standing = faulted st in
        let same : LeavesSame after after = same_leaves after after refl refl refl refl refl refl refl refl refl in
        comes_by n s DiskFault after after refl logs near
        (stands_on meaning most e n st (faulted_alone (alone_in st)) may.at (sessions_faulted e.sessions st st.begun may.at.sessions_at)
        (faulted_at most meaning.observable (now (meaning.history (disk_below e.engine.trees.log))) (now (meaning.history (disk_below n.trees.log))) e.engine.trees.log n.trees.log (contents_of e.engine) (contents_of n) (alone_in st) st.begun
        (alone_at most meaning e st may.at) logs.0 logs.3.tried.max)
        (λ valid. absurd cc)
        (λ valid. absurd cc))
        same back_at may.at.apart (omega arith)
        (subst (λ (l : Option Answer). IsLogged (log_limit l) (Logged (st.commits + 1)) DiskFault) (sym logs.2) (inr refl)) tt refl
        (tried_step meaning most e st session call planned may.at may.valid log logs.1 n logs.3)

    pub comes_not : (n : Engine D) (s : Sessions) (error : AllocError) → Logs_ n (Err error) → Near_ n (Err error) → Rattle.engine.specs.Whole.AreSameCells e.engine.trees n.trees → AreSameMaps e.engine.kept n.kept → AreSessionsAt s st →
        HasNotCome meaning most e (with_both e n s) st
    comes_not n s error logs near cells maps back_at =
        let same : LeavesSame st st = same_leaves st st refl refl refl refl refl refl refl refl refl in
        record {
          here = restand most (with_engine e n) s st st (undrawn_same meaning most e n st may.at logs.0 logs.1 cells (λ calm. known_still n maps)) same back_at may.at.apart;
          log = logs.1;
          near =
              let less : owed_by s ≤ owed_by e.sessions = fewer_owed s st back_at (omega arith) in
              let first = near_fewer (with_engine e n) s n.kept.last_txn less in
              let f1 = first.file in let n1 = first.node in
              let end_is : Rattle.engine.specs.Whole.end_file n.trees ≡ Rattle.engine.specs.Whole.end_file e.engine.trees = near in
              let node = logs.0.last_node in
              let below_ = Rattle.environment.proofs.CatalogLogged.near_by (has_failed e.engine.trees.log) (has_failed n.trees.log) ((end_of e.engine.trees.log).file + waits_of e.engine.trees) ((end_of n.trees.log).file + waits_of n.trees) (owed_by e.sessions) 0 (may.at.valid may.valid).works (omega (arith, end_is)) in
              record { file = omega (arith, f1, below_); node = omega (arith, n1, node) };
        }

    -- after a fault locks do not matter
    closed_faulted : (s : Sessions) → Closed s → AreSessionsAt s (faulted st)
    closed_faulted s at = record { actives = at.actives ∙ back_actives; own = subst (AreCounted s.txns.own.entries) (own_gone a_.txn.0 st.own none_own_yet) at.own; places = placed_again s.cursors st session may.sound may.outside at.places; waiting = at.waiting; locks = tt }

    -- an answer, behind which its transaction has ended
    pub comes_closed : (n : Engine D) (s : Sessions) (answer : Answer) → Logs_ n (Ok answer) → Near_ n (Ok answer) → LeavesCells e.engine.trees n.trees planned (owing st + 1) (Ok answer) → AreSameMaps e.engine.kept n.kept → Closed s →
        e.engine.kept.last_db ≤ LAST_DATABASE → HasCome meaning most e (with_both e n s) st session line call answer []
    comes_closed n s (Logged commit) logs near leaves maps closed few = comes_logged n s commit logs near leaves maps closed
    comes_closed n s LogFull logs near leaves maps closed few = comes_full n s logs near leaves maps closed
    comes_closed n s IdsEnded logs near leaves maps closed few = comes_ended n s logs near leaves maps closed few
    comes_closed n s DiskFault logs near leaves maps closed few = comes_failed n s logs near (closed_faulted s closed)
    comes_closed n s answer logs near leaves maps closed few = absurd logs

  -- what is told
  pub told_come : (most : ℕ) (e new : Environment D) (st : Standing) (session line : ℕ) (call : Call) (answer : Answer) (told : Answer) (victims : List Victim) → told ≡ answer → victims ≡ [] →
      HasCome meaning most e new st session line call answer [] → HasCome meaning most e new st session line call told victims
  told_come most e new st session line call answer told victims is none comes =
      subst (λ (v : List Victim). HasCome meaning most e new st session line call told v) (sym none)
      (subst (λ (x : Answer). HasCome meaning most e new st session line call x []) (sym is) comes)
