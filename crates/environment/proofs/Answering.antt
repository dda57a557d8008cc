-- An environment goes on by a step.
use Rattle.std.proofs.Common.{◌≡◌, ◌*◌, ℕ, ◌≤◌, ◌<◌, ◌+◌, ◌⊎◌, inl, inr, Bool, true, false, cond, nat_lt, List, [], ◌∷◌, ◌++◌, Option, None, Some, Result, Ok, Err, OnErr, length, filter, refl, ap, sym, ◌∙◌, subst, arith}
use Rattle.std.specs.declared.alloc.AllocError.{AllocError}
use Rattle.std.proofs.lemmas.Bool.{ltb-true}
use Rattle.std.proofs.lemmas.List.{append-nil}
use Rattle.je_disk.specs.DiskMeaning.{DiskMeaning}
use Rattle.je_disk.specs.Moments.{History, now}
use Rattle.store_model.specs.declared.answer.Answer.{Answer}
use Rattle.store_model.specs.declared.answer.Answer.TheVariants.{IdsEnded}
use Rattle.store_model.specs.declared.answer.Fault.TheVariants.{Disk}
use Rattle.store_model.specs.declared.call.Call.{Call}
use Rattle.store_model.specs.declared.change.Change.{Change}
use Rattle.store_model.specs.declared.event.Event.{Event}
use Rattle.store_model.specs.declared.event.Event.TheVariants.{Call as Called}
use Rattle.store_model.specs.declared.victim.Victim.{Victim}
use Rattle.je_answers.specs.declared.active.Active.{Active}
use Rattle.je_answers.specs.Standing.{Standing, active_of}
use Rattle.je_answers.specs.After.{after_event, after_events}
use Rattle.je_answers.specs.Journal.{answers_some, attempt_of, is_disk_fault}
use Rattle.je_answers.specs.Written.{written_by as written_out}
use Rattle.log_file.specs.Log.{Log}
use Rattle.log_buffer.specs.declared.buffer.LogBuffer.{LogBuffer}
use Rattle.log_buffer.specs.Buffer.{disk_of as disk_below, end_of, has_failed}
use Rattle.record_tree.specs.declared.tree_change.TreeChange.{TreeChange}
use Rattle.record_tree.specs.declared.tree_err.TreeErr.{TreeErr}
use Rattle.record_tree.specs.declared.tree_err.TreeErr.TheVariants.{Fault as NoDisk, Full, IdsEnded as NoNumber, Memory}
use Rattle.record_tree.specs.Logged.{most_entries}
use Rattle.in_tree.specs.declared.logged_trees.LogTrees.{LogTrees}
use Rattle.in_tree.specs.Observed.{cells_of, waits_of}
use Rattle.in_tree.proofs.Far.{filling_is_far, full_is_far}
use Rattle.active_txns.specs.Own.{has_changes}
use Rattle.sessions.specs.declared.all_sessions.Sessions.{Sessions}
use Rattle.sessions.specs.AtStanding.{AreSessionsAt, owing}
use Rattle.standing_laws.proofs.StandingsStay.{standings_stay-right}
use Rattle.standing_laws.proofs.StandingsBare.{standings_stay-bare}
use Rattle.txn_core.specs.Known.{committed}
use Rattle.engine.specs.Guarded.{IsGuardedLog}
use Rattle.engine.specs.Syncs.{is_sync}
use Rattle.engine.specs.Limits.{IsBounded, IsWithin, last_number, limit_by, most_changed, most_logged, numbers_for, reach_after}
use Rattle.engine.proofs.GuardedCalls.{guarded_along}
use Rattle.engine.proofs.GuardedEvents.{guarded_idle, guarded_grown, guarded_tried}
use Rattle.engine.proofs.ReachLaws.{planned_few}
use Rattle.engine.specs.declared.engine.Engine.{Engine}
use Rattle.serial_replay.proofs.Attempts.{reached_goes-on}
use Rattle.sessions.proofs.Owns.{owing_is}
use Rattle.environment.specs.declared.environment.Environment.{Environment}
use Rattle.environment.specs.declared.outcome.Outcome.{Outcome}
use Rattle.environment.specs.Answering.{AnswersCall}
use Rattle.environment.specs.Calls.{called}
use Rattle.environment.specs.Limits.{owing_after, owing_with, written_call}
use Rattle.log_buffer.specs.Growth.{longer}
use Rattle.log_buffer.specs.Log.{HasLog}
use Rattle.crash_recovery.specs.Recovery.{RecoversLog}
use Rattle.store_model.specs.declared.record_change.RecordChange.{RecordChange}
use Rattle.environment.specs.Steps.{CallsTo, HasCalled, IsCallStep, IsLogStep, RecoversWith}
use Rattle.environment.specs.Valid.{owed_by}
use Rattle.environment.specs.Whole.{HasDone, HasLimit, IsAt, disk_of, end_file, limit_found, reach_of}
use Rattle.je_lsn.specs.Naming.{last_file}
use Rattle.txn_core.specs.Planning.{makes_index}

-- ---- what is owed

-- sessions owe as many Commits as the model's standing
pub owed_is : (s : Sessions) (st : Standing) → AreSessionsAt s st → owed_by s ≡ owing st
owed_is s st at = owing_is s.txns.own.entries st.own s.txns.actives.items st.actives at.own at.actives

-- one more at most with a call's changes
pub owed_with : (o : Option Active) (st : Standing) → owing_with o st ≤ owing st + 1
owed_with None st = omega arith
owed_with (Some a) st = by_test (has_changes (st.own a.txn.0))
  where
    by_test : (b : Bool) → cond b (owing st) (owing st + 1) ≤ owing st + 1
    by_test true = omega arith
    by_test false = omega arith

module _ {D : Type 0} where
  -- ---- the limit is a bound

  -- where there is no room the log ends far behind
  found_is_far : (fills : Bool) (trees : LogTrees D) (planned : List TreeChange) (owed : ℕ) → limit_found fills trees planned owed ≡ Some Full →
      (has_failed trees.log ≡ false) × (last_file < (end_of trees.log).file + (waits_of trees + (130 * length planned + owed)))
  found_is_far true trees planned owed full = filling_is_far trees planned owed full
  found_is_far false trees planned owed full = full_is_far trees planned owed full

  limit_bounded : (fills : Bool) (trees : LogTrees D) (s : Sessions) (node owed : ℕ) (changes : List Change) (planned : List TreeChange) → owed ≤ owed_by s + 1 → length planned ≤ most_changed changes →
      most_entries (most_changed changes) + 1 ≤ most_logged changes →
      IsBounded (record { file = end_file trees s; node = node }) changes (limit_by (limit_found fills trees planned owed) node (length planned))
  limit_bounded fills trees s node owed changes planned within few logged = by_found (limit_found fills trees planned owed) refl
    where
      ended_by : (b : Bool) → nat_lt last_number (node + numbers_for (length planned)) ≡ b → IsBounded (record { file = end_file trees s; node = node }) changes (cond b (Some IdsEnded) None)
      ended_by true e = let past = ltb-true last_number (node + numbers_for (length planned)) e in inr (inr (refl, omega (arith, past, few)))
      ended_by false e = inl refl

      ended : IsBounded (record { file = end_file trees s; node = node }) changes (cond (nat_lt last_number (node + numbers_for (length planned))) (Some IdsEnded) None)
      ended = ended_by (nat_lt last_number (node + numbers_for (length planned))) refl

      by_found : (found : Option TreeErr) → limit_found fills trees planned owed ≡ found → IsBounded (record { file = end_file trees s; node = node }) changes (limit_by found node (length planned))
      by_found None is = ended
      by_found (Some Full) is =
          let far = found_is_far fills trees planned owed is in
          let end : end_file trees s ≡ (end_of trees.log).file + waits_of trees + owed_by s = ap (λ (b : Bool). cond b 0 ((end_of trees.log).file + waits_of trees + owed_by s)) far.0 in
          let past = far.1 in
          inr (inl (refl, omega (arith, end, past, few, logged, within)))
      by_found (Some NoNumber) is = ended
      by_found (Some NoDisk) is = ended
      by_found (Some Memory) is = ended

  pub bounded : (e : Environment D) (owed : ℕ) (changes : List Change) (limit : Option Answer) → owed ≤ owed_by e.sessions + 1 → HasLimit e owed changes limit → IsBounded (reach_of e) changes limit
  bounded e owed [] limit within has = inl has
  bounded e owed (change ∷ more) limit within has =
      subst (IsBounded (reach_of e) (change ∷ more)) (sym has.is)
      (limit_bounded (makes_index (change ∷ more)) e.engine.trees e.sessions e.engine.kept.last_node owed (change ∷ more) has.planned within
      (planned_few has.planned e.engine.kept.last_db (change ∷ more) (committed (cells_of e.engine.trees)) has.rows) (omega arith))

  -- reaching no farther is reaching no farther with more changes
  pub within_more : (old new : Environment D) (changes : List Change) → IsWithin (reach_of new) (reach_of old) → IsWithin (reach_of new) (reach_after (reach_of old) changes)
  within_more old new changes is = let file = is.file in let node = is.node in record { file = omega (arith, file); node = omega (arith, node) }

  -- ---- a guarded run

  module _ (meaning : DiskMeaning D) where
    pub guarded_step : (st : Standing) (start : History) (old new : LogBuffer D) (journal : List Event) (event : Event) (more : List (List Change)) (log : Log) → meaning.observable ≡ true → is_sync event ≡ false →
        IsLogStep meaning (answers_some is_disk_fault event) old new more → attempt_of (after_events st journal) event ≡ more → written_out event ≡ 0 →
        (after_events st journal).fault ≡ None → (after_event (after_events st journal) event).fault ≡ cond (answers_some is_disk_fault event) (Some Disk) None →
        IsGuardedLog st log start (meaning.history (disk_below old)) old journal → (grown : Log) × IsGuardedLog st grown start (meaning.history (disk_below new)) new (journal ++ event ∷ [])
    guarded_step st start old new journal event more log observed apart step is durable none fault g = by_fault (answers_some is_disk_fault event) refl step
      where
        Goal : Type 0
        Goal = (grown : Log) × IsGuardedLog st grown start (meaning.history (disk_below new)) new (journal ++ event ∷ [])

        not_none : Some Disk ≡ None → ⊥
        not_none e = absurd cc

        by_fault : (b : Bool) → answers_some is_disk_fault event ≡ b → IsLogStep meaning b old new more → Goal
        by_fault false calm (inl idle) = (
          log,
          guarded_idle meaning.history st log start old new journal event apart idle.0 none (is ∙ idle.1) durable calm (fault ∙ ap (λ (b : Bool). cond b (Some Disk) None) calm ∙ sym none) g,
        )
        by_fault false calm (inr grown) = (
          _,
          guarded_grown meaning st log start old new journal event more grown.entries observed g
              (record { other = apart; more_is = is; durable = durable; before = none; after = fault ∙ ap (λ (b : Bool). cond b (Some Disk) None) calm; calm = calm })
              grown.grew
              (grown.recovers observed log (subst (λ (b : Bool). HasLog b (now (meaning.history (disk_below old))) old log) (sym observed) (g.works none).has) g.kept.first st.store g.base g.kept.logged g.kept.recovers),
        )
        by_fault true failed step_ = (
          _,
          guarded_tried meaning st log start old new journal event more step_.front observed g
              (record { other = apart; more_is = is; durable = durable; before = none; after = λ e. not_none (sym (fault ∙ ap (λ (b : Bool). cond b (Some Disk) None) failed) ∙ e) })
              step_.tried (by_either step_.recovers),
        )
          where
            has : HasLog meaning.observable (now (meaning.history (disk_below old))) old log
            has = subst (λ (b : Bool). HasLog b (now (meaning.history (disk_below old))) old log) (sym observed) (g.works none).has

            by_either : RecoversWith meaning old step_.front [] ⊎ RecoversWith meaning old step_.front more →
                RecoversLog g.kept.first st.store g.base g.kept.logged (longer old step_.front log) ⊎ RecoversLog g.kept.first st.store g.base (g.kept.logged ++ more) (longer old step_.front log)
            by_either (inl less) = inl (subst (λ (l : List (List Change)). RecoversLog g.kept.first st.store g.base l (longer old step_.front log)) (append-nil g.kept.logged)
                (less observed log has g.kept.first st.store g.base g.kept.logged g.kept.recovers))
            by_either (inr all) = inr (all observed log has g.kept.first st.store g.base g.kept.logged g.kept.recovers)

    -- what a call did to the log
    pub log_step : (b : Bool) (old : Engine D) (new : LogBuffer D) (wrote more : List (List Change)) → IsCallStep meaning b old new wrote more →
        IsLogStep meaning b old.trees.log new more
    log_step false old new wrote more (inl idle) = inl (idle.0, idle.1)
    log_step false old new wrote more (inr logged) = inr logged.1.grown
    log_step true old new wrote more failed = failed

    -- ---- a call of a session

    module _ (old new : Environment D) (session line : ℕ) (call : Call) (valid : old.engine.kept.fault ≡ None) where
      fault_none : (most : ℕ) (st : Standing) → IsAt most meaning.observable (now (meaning.history (disk_of old))) old st → st.fault ≡ None
      fault_none most st here = sym here.at.fault ∙ valid

      at_done : (most : ℕ) (st : Standing) (answer : Answer) (victims : List Victim) → IsAt most meaning.observable (now (meaning.history (disk_of old))) old st →
          HasCalled meaning most old new st session line call answer victims →
          HasDone most meaning.observable (now (meaning.history (disk_of new))) old new st (Called session line call answer victims)
      at_done most st answer victims here has =
          let owed = owed_is old.sessions st here.at.sessions_at in
          let with_ = owed_with (active_of session st.actives) st in
          let none = fault_none most st here in
          record {
            limit = has.limit;
            bounded = bounded old (owing_after st session) (written_call st session call) has.limit (omega (arith, owed, with_)) has.has_limit;
            answered = has.answers;
            here = record {
              at = has.here;
              right = λ after. standings_stay-right has.limit st (Called session line call answer victims) none (here.right none) has.answers;
              bare = λ after. standings_stay-bare has.limit st (Called session line call answer victims) none (here.right none) (here.bare none) has.answers;
              reached = reached_goes-on has.limit st (Called session line call answer victims) here.reached has.answers;
            };
          }

      pub answers_call : (result : Result Outcome AllocError) →
          ((most : ℕ) (st : Standing) → IsAt most meaning.observable (now (meaning.history (disk_of old))) old st → CallsTo meaning most old new st session line call result) →
          ((P : Unit {0}) → OnErr result (IsWithin (reach_of new) (reach_of old))) →
          AnswersCall meaning old new session line call result
      answers_call (Ok o) comes near = record {
        goes_on = λ most st here. at_done most st o.answer o.victims here (comes most st here);
        exact = λ most st here. let has = comes most st here in (has.limit, has.has_limit, has.answers);
        numbered = λ most st here. (comes most st here).numbered;
        grows = λ most st here. (comes most st here).near;
        crash = λ observed most st start journal here is.
            let has = comes most (after_events st journal) here in
            guarded_step st start old.engine.trees.log new.engine.trees.log journal (called session line call o) _ is.0 observed refl (log_step (is_disk_fault o.answer) old.engine new.engine.trees.log _ _ has.logged) refl refl (fault_none most (after_events st journal) here) has.fault is.1;
        appends = λ most st here. (comes most st here).logged;
        stays = tt;
      }
      answers_call (Err error) comes near = record {
        goes_on = λ most st here. let has = comes most st here in record { at = has.here; right = here.right; bare = here.bare; reached = here.reached };
        exact = λ most st here. tt;
        numbered = λ most st here. tt;
        grows = λ most st here. within_more old new (written_call st session call) (comes most st here).near;
        crash = λ observed most st start journal here is.
            let has = comes most (after_events st journal) here in
            (is.0, guarded_along meaning.history st is.0 start old.engine.trees.log new.engine.trees.log journal has.log is.1 (fault_none most (after_events st journal) here));
        appends = λ most st here. tt;
        stays = near tt;
      }
