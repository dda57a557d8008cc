-- A call goes on as the model does.
use Rattle.std.proofs.Common.{◌≡◌, ◌==◌, ◌^◌, nat_lt, ℕ, ◌+◌, ◌*◌, ◌<◌, ◌≤◌, Bool, true, List, [], ◌∷◌, Option, Some, None, Result, Ok, Err, IfOk, OnErr, length, refl, ap, ap₂, sym, ◌∙◌, subst, arith, ◌⊎◌, inl, inr}
use Rattle.std.specs.declared.alloc.AllocError.{AllocError}
use Rattle.je_disk.specs.DiskMeaning.{DiskMeaning}
use Rattle.je_disk.specs.States.{State}
use Rattle.je_disk.specs.Moments.{now}
use Rattle.store_model.specs.declared.answer.Answer.{Answer}
use Rattle.store_model.specs.declared.answer.Answer.TheVariants.{Logged, LogFull, IdsEnded, DiskFault}
use Rattle.store_model.specs.declared.call.Call.{Call}
use Rattle.store_model.specs.declared.change.Change.{Change}
use Rattle.store_model.specs.declared.event.Event.TheVariants.{Call as Called}
use Rattle.store_model.specs.declared.store.TheConstants.{LAST_DATABASE, LAST_TXN}
use Rattle.je_answers.specs.Standing.{Standing}
use Rattle.je_answers.specs.Alone.{Alone, IsAutoCommitted, alone, committed_alone, drawn_alone, faulted_alone}
use Rattle.je_answers.specs.After.{after_event}
use Rattle.je_answers.specs.Events.{IsAnswered}
use Rattle.je_answers.specs.Journal.{changes_of}
use Rattle.je_answers.specs.Refusals.{early_refusal}
use Rattle.je_answers.proofs.AloneLaws.{calls-stay_alone}
use Rattle.log_buffer.specs.declared.buffer.LogBuffer.{LogBuffer}
use Rattle.log_buffer.specs.Buffer.{IsUnchanged, disk_of, end_of}
use Rattle.log_replay.proofs.LoggedLaws.{IsSound}
use Rattle.record_tree.specs.Logged.{is_made, most_entries}
use Rattle.store_model.specs.Refusals.{made_by}
use Rattle.std.proofs.lemmas.Bool.{and_parts, eqb-true, ltb-true}
use Rattle.record_tree.specs.declared.tree_err.TreeErr.{TreeErr}
use Rattle.in_tree.specs.Observed.{cells_of, limit_in}
use Rattle.txn_core.specs.declared.planned_changes.PlannedChanges.{PlannedChanges}
use Rattle.txn_core.specs.Known.{committed}
use Rattle.txn_core.specs.Planning.{CanPlan, HasModel, IsPlannedLog}
use Rattle.txn_core.specs.Totals.{totals_of}
use Rattle.engine.specs.declared.engine.Engine.{Engine}
use Rattle.engine.specs.Contents.{Contents, IsSame, drawn_contents, known}
use Rattle.engine.specs.Environment.{AreAlone}
use Rattle.engine.specs.Limits.{IsWithin, limit_by, most_changed, reach_after}
use Rattle.engine.specs.Steps.{IsNumbered, LogsChanges}
use Rattle.engine.specs.Whole.{AreTrees, EndsNear, GoesOn, HasLimit, IsAt, LeavesTrees, contents_of, end_file, reach_of}
use Rattle.engine.proofs.AttemptLaws.{alone_changes}
use Rattle.engine.proofs.CallEnds.{EndsAlone, ended_ends, fault_ends, full_ends, ids_ends, logged_ends}
use Rattle.engine.proofs.CommittedRows.{trees_named}
use Rattle.engine.proofs.PlannedCalls.{logged_databases}
use Rattle.engine.proofs.ReachLaws.{bounded, planned_few}
use Rattle.engine.proofs.StepLaws.{drawn_at, logged_at, same_at}
use Rattle.engine.proofs.SyncedStanding.{faulted_at}
use Rattle.engine.proofs.TransactionGrowth.{sound_of}
use Rattle.engine.proofs.WholeLaws.{commits_at}

-- ---- what is asked of the plan

module _ {D : Type 0} where
  -- the records of a valid environment are right
  pub sound_at : (most : ℕ) (observable : Bool) (state : State) (buffer : LogBuffer D) (c : Contents) (p : Alone) → AreAlone most observable state buffer c p → p.fault ≡ None → IsSound c.rows c.last_db
  sound_at most observable state buffer c p at none = let v = at.valid none in sound_of v.log (end_of buffer) c v.gives

  -- they can be planned on
  pub can_plan : (most : ℕ) (observable : Bool) (state : State) (buffer : LogBuffer D) (c : Contents) (p : Alone) → AreAlone most observable state buffer c p → p.fault ≡ None → CanPlan (known c)
  can_plan most observable state buffer c p at none =
      let v = at.valid none in
      record {
        environment = v.gives.listed.environment;
        rising = v.gives.listed.rising;
        unused = v.gives.unused;
        numbers = v.gives.numbers;
        totals = at.totals ∙ ap totals_of (sym v.made);
      }

  -- they make the model's store
  pub model : (most : ℕ) (observable : Bool) (state : State) (buffer : LogBuffer D) (c : Contents) (p : Alone) → AreAlone most observable state buffer c p → p.fault ≡ None → c.last_txn < LAST_TXN → HasModel (known c) p
  model most observable state buffer c p at none below = record { store = (at.valid none).made; last_db = at.last_db; below = subst (λ n. n < LAST_TXN) at.last_txn below }

-- what a call changes
abbrev pub changes_at : Standing → ℕ → Call → List Change
changes_at st session call = changes_of (early_refusal st session call) st session call

-- ---- how a call ended

module _ {D : Type 0} where
  -- a call was answered under a limit, and the engine is where the model then stands
  pub record IsEnded (most : ℕ) (observable : Bool) (state : State) (new : Engine D) (limit : Option Answer) (p : Alone) (session : ℕ) (call : Call) (answer : Answer) : Type 0 where
    pub after : Alone
    pub ends : EndsAlone limit p session call answer after
    pub here : AreAlone most observable state new.trees.log (contents_of new) after
    pub trees : after.fault ≡ None → AreTrees new.trees

  -- it was, or there was no memory
  abbrev pub EndsBy : ℕ → Bool → State → Engine D → Option Answer → Alone → ℕ → Call → Result Answer AllocError → Type 0
  EndsBy most observable state new limit p session call (Ok answer) = IsEnded most observable state new limit p session call answer
  EndsBy most observable state new limit p session call (Err error) = AreAlone most observable state new.trees.log (contents_of new) p × AreTrees new.trees

  -- the limit that changes meet which were planned
  abbrev pub limit_planned : Engine D → PlannedChanges → Option Answer
  limit_planned engine planned = limit_by (limit_in engine.trees planned.changes.items 1) engine.kept.last_node (length planned.changes.items)

  pub has_limit : (engine : Engine D) (p : Alone) (session : ℕ) (call : Call) (planned : PlannedChanges) → p.fault ≡ None → IsAutoCommitted call → IsPlannedLog (known (contents_of engine)) p session call planned →
      HasLimit engine (changes_of (early_refusal (alone p) session call) (alone p) session call) (limit_planned engine planned)
  has_limit engine p session call planned none is log =
      subst (λ (cs : List Change). HasLimit engine cs (limit_planned engine planned)) (sym (alone_changes p session call none is ∙ log.changes))
      (record { planned = planned.changes.items; rows = log.rows 0; makes = made_later; is = refl })
    where
      made_later : engine.kept.last_db + made_by (log.change ∷ log.more) < 2 ^ 32 → (d : ℕ) → is_made d planned.changes.items ≡ true → engine.kept.last_db < d
      made_later low d made =
          let parts = and_parts (nat_lt engine.kept.last_db planned.last_db) (d == planned.last_db) (sym (log.made (subst (λ n. n < 2 ^ 32) (sym log.last_db) low) d) ∙ made) in
          let later = ltb-true engine.kept.last_db planned.last_db parts.0 in
          let is : d ≡ planned.last_db = eqb-true d planned.last_db parts.1 in
          omega (arith, later, is)

  module _ (meaning : DiskMeaning D) where
    drawn_along : (most : ℕ) (buffer other : LogBuffer D) (old new : Contents) (p : Alone) → AreAlone most meaning.observable (now (meaning.history (disk_of buffer))) buffer old p → old.last_txn < LAST_TXN →
        IsSame (drawn_contents old) new → IsUnchanged buffer other → AreAlone most meaning.observable (now (meaning.history (disk_of other))) other new (drawn_alone p)
    drawn_along most buffer other old new p at below drawn same =
        same_at meaning most buffer other (drawn_contents old) new (drawn_alone p)
        (drawn_at meaning most (now (meaning.history (disk_of buffer))) buffer old p at below) drawn same

    -- changes were to be logged
    pub logs_end : (most : ℕ) (old new : Engine D) (p : Alone) (session : ℕ) (call : Call) (planned : PlannedChanges) (result : Result Answer AllocError) →
        AreAlone most meaning.observable (now (meaning.history (disk_of old.trees.log))) old.trees.log (contents_of old) p → p.fault ≡ None → AreTrees old.trees → IsAutoCommitted call → old.kept.last_txn < LAST_TXN →
        old.kept.last_db ≤ LAST_DATABASE → IsPlannedLog (known (contents_of old)) p session call planned →
        LogsChanges meaning old.trees.log new.trees.log (contents_of old) (contents_of new) planned (limit_in old.trees planned.changes.items 1) result →
        LeavesTrees old.trees new.trees planned result →
        EndsBy most meaning.observable (now (meaning.history (disk_of new.trees.log))) new (limit_planned old planned) p session call result
    logs_end most old new p session call planned (Ok (Logged commit)) at none trees is below low log logs leaves =
        let state : State = now (meaning.history (disk_of old.trees.log)) in
        let after : Alone = committed_alone (log.change ∷ log.more) (drawn_alone p) in
        record {
          after = after;
          ends = subst (λ (n : ℕ). EndsAlone (limit_planned old planned) p session call (Logged n) after) (sym (logs.0 ∙ ap (λ n. n + 1) at.commits))
              (subst (λ (l : Option Answer). EndsAlone l p session call (Logged (p.commits + 1)) after) (sym logs.3)
              (logged_ends (known (contents_of old)) p session call planned none is (model most meaning.observable state old.trees.log (contents_of old) p at none below) log logs.2));
          here = logged_at meaning most old.trees.log new.trees.log (contents_of old) (contents_of new) p session call planned at none below log logs.2 logs.1 logs.4 logs.5;
          trees = λ valid. trees_named old.trees new.trees planned.changes.items planned.gone trees leaves.0 leaves.1
              (logged_databases (contents_of old) (contents_of new) p session call planned (sound_at most meaning.observable state old.trees.log (contents_of old) p at none) log (let few = logs.2 in omega (arith, few)) logs.1);
        }
    logs_end most old new p session call planned (Ok LogFull) at none trees is below low log logs leaves = record {
      after = drawn_alone p;
      ends = subst (λ (l : Option Answer). EndsAlone l p session call LogFull (drawn_alone p)) (sym logs.0) (full_ends (known (contents_of old)) p session call planned none is log);
      here = drawn_along most old.trees.log new.trees.log (contents_of old) (contents_of new) p at below logs.1 logs.2;
      trees = λ valid. leaves;
    }
    logs_end most old new p session call planned (Ok IdsEnded) at none trees is below low log logs leaves = record {
      after = drawn_alone p;
      ends = by_limit logs.0;
      here = drawn_along most old.trees.log new.trees.log (contents_of old) (contents_of new) p at below logs.1 logs.2;
      trees = λ valid. leaves;
    }
      where
        by_limit : (limit_planned old planned ≡ Some IdsEnded) ⊎ ((limit_planned old planned ≡ None) × (LAST_DATABASE < planned.last_db)) → EndsAlone (limit_planned old planned) p session call IdsEnded (drawn_alone p)
        by_limit (inl ended) =
            subst (λ (l : Option Answer). EndsAlone l p session call IdsEnded (drawn_alone p)) (sym ended) (ended_ends (known (contents_of old)) p session call planned none is log)
        by_limit (inr past) =
            subst (λ (l : Option Answer). EndsAlone l p session call IdsEnded (drawn_alone p)) (sym past.0)
            (ids_ends (known (contents_of old)) p session call planned none is
            (model most meaning.observable (now (meaning.history (disk_of old.trees.log))) old.trees.log (contents_of old) p at none below) log low past.1)
    logs_end most old new p session call planned (Ok DiskFault) at none trees is below low log logs leaves =
        let state : State = now (meaning.history (disk_of old.trees.log)) in
        record {
          after = faulted_alone p;
          ends = subst (λ (l : Option Answer). EndsAlone l p session call DiskFault (faulted_alone p)) (sym logs.2)
              (fault_ends (known (contents_of old)) p session call planned none is (model most meaning.observable state old.trees.log (contents_of old) p at none below) log logs.1);
          here = faulted_at most meaning.observable state (now (meaning.history (disk_of new.trees.log))) old.trees.log new.trees.log (contents_of old) (contents_of new) p p.begun at logs.0 logs.3.tried.max;
          trees = λ valid. absurd cc;
        }
    logs_end most old new p session call planned (Ok answer) at none trees is below low log logs leaves = absurd logs
    logs_end most old new p session call planned (Err error) at none trees is below low log logs leaves =
        (same_at meaning most old.trees.log new.trees.log (contents_of old) (contents_of new) p at logs.0 logs.1, leaves)

-- ---- where the model then stands

module _ {D : Type 0} where
  -- the event answers what it may under the limit, and the engine is where it leaves the model
  pub record IsGone (most : ℕ) (observable : Bool) (state : State) (new : Engine D) (limit : Option Answer) (st : Standing) (session line : ℕ) (call : Call) (answer : Answer) : Type 0 where
    pub answered : IsAnswered limit st (Called session line call answer [])
    pub here : IsAt most observable state new (after_event st (Called session line call answer []))

  is_gone : (most : ℕ) (observable : Bool) (state : State) (new : Engine D) (limit : Option Answer) (st : Standing) (p : Alone) (session line : ℕ) (call : Call) (answer : Answer) → st ≡ alone p → IsAutoCommitted call →
      IsEnded most observable state new limit p session call answer → IsGone most observable state new limit st session line call answer
  is_gone most observable state new limit st p session line call answer stands is ended =
      let stays = calls-stay_alone limit p session line call answer is in
      let then_ : after_event (alone p) (Called session line call answer []) ≡ alone ended.after = stays.leaves ∙ ap alone ended.ends.leaves in
      subst (λ (s : Standing). IsGone most observable state new limit s session line call answer) (sym stands) (record {
        answered = stays.answers ended.ends.answers;
        here = record {
          at = record { alone_at = ended.after; st_is = then_; here = ended.here };
          trees = λ valid. ended.trees (sym (ap (λ (s : Standing). s.fault) then_) ∙ valid);
        };
      })

  pub goes_on_by : (most : ℕ) (observable : Bool) (state : State) (old new : Engine D) (limit : Option Answer) (st : Standing) (p : Alone) (session line : ℕ) (call : Call) (result : Result Answer AllocError) → st ≡ alone p →
      IsAutoCommitted call → HasLimit old (changes_at (alone p) session call) limit → EndsBy most observable state new limit p session call result → GoesOn most observable state old new st session line call result
  goes_on_by most observable state old new limit st p session line call (Ok answer) stands is has ended =
      let gone = is_gone most observable state new limit st p session line call answer stands is ended in
      let changes : List Change = changes_at st session call in
      (limit, bounded old changes limit (subst (λ (s : Standing). HasLimit old (changes_at s session call) limit) (sym stands) has), gone.answered, gone.here)
  goes_on_by most observable state old new limit st p session line call (Err error) stands is has ended =
      record { at = record { alone_at = p; st_is = stands; here = ended.0 }; trees = λ valid. ended.1 }

  pub answers_exactly : (most : ℕ) (observable : Bool) (state : State) (old new : Engine D) (limit : Option Answer) (st : Standing) (p : Alone) (session line : ℕ) (call : Call) (result : Result Answer AllocError) → st ≡ alone p →
      IsAutoCommitted call → HasLimit old (changes_at (alone p) session call) limit → EndsBy most observable state new limit p session call result →
      IfOk result (λ answer. (l : Option Answer) × HasLimit old (changes_at st session call) l × IsAnswered l st (Called session line call answer []))
  answers_exactly most observable state old new limit st p session line call (Ok answer) stands is has ended =
      (limit, subst (λ (s : Standing). HasLimit old (changes_at s session call) limit) (sym stands) has, (is_gone most observable state new limit st p session line call answer stands is ended).answered)
  answers_exactly most observable state old new limit st p session line call (Err error) stands is has ended = tt

-- ---- how far it reaches

module _ {D : Type 0} (meaning : DiskMeaning D) where
  reach_same : (old new : Engine D) → end_file new.trees ≡ end_file old.trees → new.kept.last_node ≡ old.kept.last_node → reach_of new ≡ reach_of old
  reach_same old new end node = ap₂ (λ (f : ℕ) (n : ℕ). record { file = f; node = n }) end node

  within_none : (old new : Engine D) (changes : List Change) → end_file new.trees ≡ end_file old.trees → new.kept.last_node ≡ old.kept.last_node → IsWithin (reach_of new) (reach_after (reach_of old) changes)
  within_none old new changes end node = record { file = omega (arith, end); node = omega (arith, node) }

  -- so far with the changes that were planned
  logged_within : (old new : Engine D) (change : Change) (more : List Change) (planned : PlannedChanges) → length planned.changes.items ≤ most_changed (change ∷ more) →
      new.kept.last_node ≡ old.kept.last_node + length planned.changes.items * 66 → end_file new.trees ≤ end_file old.trees + (most_entries (length planned.changes.items) + 1) →
      IsWithin (reach_of new) (reach_after (reach_of old) (change ∷ more))
  logged_within old new change more planned few node near = record { file = omega (arith, near, few); node = omega (arith, node, few) }

  pub logs_grow : (old new : Engine D) (p : Alone) (session : ℕ) (call : Call) (planned : PlannedChanges) (found : Option TreeErr) (result : Result Answer AllocError) →
      p.fault ≡ None → IsAutoCommitted call → IsPlannedLog (known (contents_of old)) p session call planned →
      LogsChanges meaning old.trees.log new.trees.log (contents_of old) (contents_of new) planned found result →
      EndsNear old.trees new.trees (length planned.changes.items) result →
      IsWithin (reach_of new) (reach_after (reach_of old) (changes_of (early_refusal (alone p) session call) (alone p) session call))
  logs_grow old new p session call planned found (Ok (Logged commit)) none is log logs near =
      subst (λ (cs : List Change). IsWithin (reach_of new) (reach_after (reach_of old) cs)) (sym (alone_changes p session call none is ∙ log.changes))
      (logged_within old new log.change log.more planned (planned_few planned.changes.items old.kept.last_db (log.change ∷ log.more) (committed (cells_of old.trees)) (log.rows 0)) logs.1.last_node near)
  logs_grow old new p session call planned found (Ok LogFull) none is log logs near = within_none old new _ near logs.1.last_node
  logs_grow old new p session call planned found (Ok IdsEnded) none is log logs near = within_none old new _ near logs.1.last_node
  logs_grow old new p session call planned found (Ok DiskFault) none is log logs near = record { file = omega (arith, near); node = let node = logs.0.last_node in omega (arith, node) }
  logs_grow old new p session call planned found (Ok answer) none is log logs near = absurd logs
  logs_grow old new p session call planned found (Err error) none is log logs near = within_none old new _ near logs.0.last_node

  -- where there was no memory it reaches as far as it did
  pub logs_stay : (old new : Engine D) (planned : PlannedChanges) (found : Option TreeErr) (result : Result Answer AllocError) →
      LogsChanges meaning old.trees.log new.trees.log (contents_of old) (contents_of new) planned found result →
      EndsNear old.trees new.trees (length planned.changes.items) result → OnErr result (reach_of new ≡ reach_of old)
  logs_stay old new planned found (Ok answer) logs near = tt
  logs_stay old new planned found (Err error) logs near = reach_same old new near logs.0.last_node

  -- a commit has the model's number
  pub logs_numbered : (most : ℕ) (state : State) (old new : Engine D) (limit : Option Answer) (st : Standing) (p : Alone) (session line : ℕ) (call : Call) (planned : PlannedChanges) (found : Option TreeErr) (result : Result Answer AllocError) →
      st ≡ alone p → IsAutoCommitted call → EndsBy most meaning.observable state new limit p session call result →
      LogsChanges meaning old.trees.log new.trees.log (contents_of old) (contents_of new) planned found result →
      IfOk result (λ answer. IsNumbered answer (after_event st (Called session line call answer [])).commits)
  logs_numbered most state old new limit st p session line call planned found (Ok (Logged commit)) stands is ended logs =
      let gone = is_gone most meaning.observable state new limit st p session line call (Logged commit) stands is ended in
      logs.0 ∙ sym logs.1.commits ∙ commits_at most meaning.observable state new.trees.log (contents_of new) (after_event st (Called session line call (Logged commit) [])) gone.here.at
  logs_numbered most state old new limit st p session line call planned found (Ok answer) stands is ended logs = tt
  logs_numbered most state old new limit st p session line call planned found (Err error) stands is ended logs = tt
