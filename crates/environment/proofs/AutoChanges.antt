-- A call on records that is a transaction of its own: its plan, and its changes.
use Rattle.std.proofs.Common.{◌≡◌, ◌≢◌, ◌+◌, ◌^◌, ◌∙◌, ◌==◌, ℕ, ◌<◌, true, false, true≢false, List, length, [], ◌∷◌, None, Result, Ok, Err, IfOk, ap, refl, sym, subst, arith}
use Rattle.std.specs.List.{AllByRecursion}
use Rattle.je_disk.specs.DiskMeaning.{DiskMeaning}
use Rattle.je_disk.specs.Moments.{now}
use Rattle.je_order.specs.declared.txn_id.TxnId.{TxnId}
use Rattle.log_entry.specs.Fields.{IsName}
use Rattle.log_replay.specs.Rows.{Row, Rows}
use Rattle.record_map.specs.Cells.{IsRising}
use Rattle.store_model.specs.declared.answer.Answer.{Answer}
use Rattle.store_model.specs.declared.call.Call.{Call}
use Rattle.store_model.specs.Evaluation.{answers}
use Rattle.store_model.specs.Records.{evaluation}
use Rattle.store_model.specs.Refusals.{database_refuses, index_refusal}
use Rattle.store_model.specs.Store.{Pair}
use Rattle.je_answers.specs.declared.active.Active.{Active}
use Rattle.je_answers.specs.Standing.{Standing}
use Rattle.je_answers.specs.Events.{auto_active, begun}
use Rattle.je_answers.specs.Views.{Target, view_of, with_names, with_numbers}
use Rattle.db_catalog.specs.declared.found_db.FoundDb.{FoundDb}
use Rattle.log_buffer.specs.Buffer.{disk_of as disk_below, end_of}
use Rattle.in_tree.specs.Observed.{cells_of, has_tree_of}
use Rattle.standing_laws.specs.Right.{AreSound}
use Rattle.standing_laws.proofs.Moves.{sound_begun}
use Rattle.txn_core.specs.Known.{Known, committed, known_of}
use Rattle.txn_core.specs.Planning.{IsPlannedLog, outcome_alone}
use Rattle.txn_core.specs.declared.planned_changes.PlannedChanges.{PlannedChanges}
use Rattle.txn_log.specs.Committing.{MakesStore}
use Rattle.txn_views.specs.Laws.{AreSeenBy}
use Rattle.txn_views.specs.Seen.{is_right_change, seen_rows}
use Rattle.txn_views.proofs.RightLaws.{changes-are_right}
use Rattle.environment.specs.declared.environment.Environment.{Environment}
use Rattle.environment.specs.Access.{AreThere, IsOnDb}
use Rattle.environment.specs.Auto.{IsAutoAt, IsAutoLog, IsLoggedAuto, alone_in, changes_auto, outcome_auto}
use Rattle.environment.specs.Changing.{MayMake}
use Rattle.environment.specs.Valid.{KnowsDatabases, active_number, fitting}
use Rattle.environment.specs.Writing.{IsValidAt}
use Rattle.environment.proofs.AutoEnds.{outcome_is_auto}
use Rattle.environment.proofs.AutoPlans.{planned_log}
use Rattle.environment.proofs.BeginLaws.{next_is, valid_begun}
use Rattle.environment.proofs.CallChanges.{may_make, one_key}
use Rattle.environment.proofs.IndexKeys.{index_key}
use Rattle.environment.proofs.ChangeLaws.{Changed}
use Rattle.environment.proofs.LateLaws.{may_wait}
use Rattle.environment.proofs.LoggableLaws.{own_loggable}
use Rattle.environment.proofs.OwnLaws.{not_refused_there}
use Rattle.environment.proofs.BesideLaws.{at_db, db_there}
use Rattle.environment.proofs.PlanLaws.{number_is, seen_on}
use Rattle.environment.proofs.SeenNames.{seen_named}

-- ---- its plan

-- what holds of a plan follows
pub so_planned : {X E : Type 0} (P Q : X → Type 0) (result : Result X E) → ((x : X) → P x → Q x) → IfOk result P → IfOk result Q
so_planned P Q (Ok x) step h = step x h
so_planned P Q (Err e) step h = tt

-- changes that are not none
pub some_by : {X : Type 0} (items own : List X) → (length items == 0) ≡ false → items ≡ own → own ≢ []
some_by items own filled is none = true≢false (ap (λ (l : List _). length l == 0) (sym (is ∙ none)) ∙ filled)

module _ {D : Type 0} (most : ℕ) (meaning : DiskMeaning D) (e : Environment D) (st : Standing) (session : ℕ) (call : Call) (db : List ℕ) (found : FoundDb) (g : Target)
    (may : IsAutoAt most meaning e st session call g) (on : IsOnDb st db found g) where
  abbrev a : Active
  a = auto_active st session

  abbrev there : Standing
  there = begun st session

  -- where its transaction begins all is sound, and valid
  pub sound_there : AreSound there
  sound_there = sound_begun st.last_txn st.actives st.own st.places st.waiting st.locks a may.sound (let next = next_is st.last_txn may.left in omega (arith, next)) may.outside

  pub valid_there : IsValidAt meaning e there
  valid_there = valid_begun meaning.observable (now (meaning.history (disk_below e.engine.trees.log))) e.engine.trees.log (cells_of e.engine.trees) (has_tree_of e.engine.trees) (fitting e.engine.trees) e.engine.kept.since e.written.by_txn.entries st a may.sound may.left refl
      (may.at.valid may.valid)

  pub on_there : IsOnDb there db found g
  on_there = record {
    over = on.over;
    indexes = on.indexes;
    number = on.number;
    kind = on.kind;
    name = on.name;
    is = on.is;
    there = on.there;
    named = on.named;
    above = on.above;
  }

  -- and its databases are known
  pub knows_there : KnowsDatabases there e.engine.kept
  knows_there = may.at.databases may.valid

  -- its number
  pub same_txn : a.txn ≡ record { 0 = e.engine.kept.last_txn + 1 }
  same_txn = ap (λ (n : ℕ). let t : TxnId = record { 0 = n } in t) (next_is st.last_txn may.left ∙ sym (ap (λ (n : ℕ). n + 1) may.at.last_txn))

  -- its changes may be made
  module _ (rising : (d : ℕ) → IsRising (cells_of e.engine.trees d)) where
    abbrev valid_ : IsValidAt meaning e st
    valid_ = may.at.valid may.valid

    there_ : AreThere st g
    there_ = db_there (committed (cells_of e.engine.trees)) st valid_.makes e.engine.kept (may.at.databases may.valid) db found g on

    seen_ : AreSeenBy st a g (cells_of e.engine.trees)
    seen_ = seen_on e.engine.trees st may.sound valid_.makes valid_.writes valid_.may rising a g (at_db st db found g on)

    named_ : AllByRecursion (λ (r : Row). IsName r.0) (seen_rows a.level a.txn (cells_of e.engine.trees g.db))
    named_ =
        seen_named valid_.log (end_of e.engine.trees.log) (cells_of e.engine.trees) st.last_txn st.last_db (active_number st.actives) st.own valid_.gives valid_.has.is_log valid_.writes may.sound.own_active
        g.database.name g.db (number_is (committed (cells_of e.engine.trees)) st valid_.makes (g.db, g.database) (at_db st db found g on)) on.above (rising g.db) a.level a.txn

    refused_none : (index_refusal call g.database.index ≡ None) × (database_refuses g.database.kind call ≡ None)
    refused_none = not_refused_there st session call db found None g (record {
      late = may.late;
      target = may.target;
      over = on.over;
      indexes = on.indexes;
      number = on.number;
      kind = on.kind;
      name = on.name;
      stands = may.stands;
      is = on.is;
      there = on.there;
      named = on.named;
      above = on.above;
    })

    refuses_none : database_refuses g.database.kind call ≡ None
    refuses_none = refused_none.1

    pub may_be_made : MayMake st (changes_auto st session call g)
    may_be_made =
        may_make st a g (outcome_auto st session call g).changes there_
        (subst (λ (p : List Pair). AllByRecursion (λ c. is_right_change g.database.kind c ≡ true) (evaluation g.database.kind call g.at p).changes) seen_.pairs
        (changes-are_right g.database.kind call g.at (seen_rows a.level a.txn (cells_of e.engine.trees g.db)) refuses_none seen_.right))
        (own_loggable st a call g (cells_of e.engine.trees) seen_ (rising g.db) named_ (may_wait call may.db may.records) refuses_none)
        (one_key st g g.over (outcome_auto st session call g).changes there_.over
        (λ i is dup. index_key g.database.kind call g.at (view_of st a g) i dup (may_wait call may.db may.records) (ap (index_refusal call) (sym is) ∙ refused_none.0)))

-- ---- what is logged of its changes

module _ {D : Type 0} (most : ℕ) (meaning : DiskMeaning D) (e : Environment D) (st : Standing) (session : ℕ) (call : Call) (g : Target) (may : IsAutoAt most meaning e st session call g) where
  abbrev rows : Rows
  rows = committed (cells_of e.engine.trees)

  abbrev known : Known
  known = known_of (cells_of e.engine.trees) e.engine.kept.totals e.engine.kept.last_db

  abbrev cs : List Changed
  cs = changes_auto st session call g

  -- none are told
  pub answers_it : (answer : Answer) → answer ≡ (outcome_auto st session call g).answer → with_numbers cs ≡ [] → outcome_alone (alone_in st) session call ≡ answers answer
  answers_it answer is none =
      outcome_is_auto meaning most e st session call g may ∙ by_list cs none
    where
      by_list : (l : List Changed) → with_numbers l ≡ [] → record { answer = (outcome_auto st session call g).answer; changes = with_names l } ≡ answers answer
      by_list [] empty = ap answers (sym is)
      by_list (c ∷ l) empty = absurd cc

  -- some are logged
  pub logs_it : (planned : PlannedChanges) → MayMake st cs → with_numbers cs ≢ [] → e.engine.kept.last_db < 2 ^ 32 → IsAutoLog rows e.engine.kept.totals e.engine.kept.last_db (with_numbers cs) planned →
      IsLoggedAuto e.engine st session call g planned
  logs_it planned made some few log = record {
    log = by_list cs refl made some log;
    own = log.changes;
    may = made;
  }
    where
      makes : MakesStore rows e.engine.kept.last_db st
      makes = subst (λ (n : ℕ). MakesStore rows n st) (sym may.at.last_db) (may.at.valid may.valid).makes

      by_list : (l : List Changed) → cs ≡ l → MayMake st l → with_numbers l ≢ [] → IsAutoLog rows e.engine.kept.totals e.engine.kept.last_db (with_numbers l) planned → IsPlannedLog known (alone_in st) session call planned
      by_list [] is can filled log = absurd (filled refl)
      by_list (c ∷ l) is can filled log =
          planned_log known (alone_in st) session call planned st c l makes can refl may.at.totals few
          (ap (λ (o : _). o.changes) (outcome_is_auto meaning most e st session call g may) ∙ ap with_names is) log
