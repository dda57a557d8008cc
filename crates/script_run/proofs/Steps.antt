-- Steps of maintenance, and the syncs that they ask for.
use Rattle.std.proofs.Common.{◌≡◌, ◌≢◌, ℕ, Bool, true, false, [], ◌∷◌, ◌++◌, Option, None, Some, refl, ap, sym, ◌∙◌, subst, inl, inr, ⊎_elim}
use Rattle.std.specs.Option.{is_some}
use Rattle.store_model.specs.declared.answer.Answer.{Answer}
use Rattle.store_model.specs.declared.answer.Answer.TheVariants.{Done, Durable, DiskFault, Invalid}
use Rattle.store_model.specs.declared.answer.Fault.{Fault}
use Rattle.store_model.specs.declared.event.Event.TheVariants.{SyncBegin, SyncEnd, Turn}
use Rattle.store_model.specs.declared.step.Step.{Step}
use Rattle.store_model.specs.declared.step.Step.TheVariants.{Sync as SyncStep}
use Rattle.je_answers.specs.Standing.{Standing}
use Rattle.je_answers.specs.After.{after_event}
use Rattle.je_answers.specs.Events.{IsAnswered, IsSyncEnded, IsTurned}
use Rattle.je_answers.specs.Journal.{first_ready}
use Rattle.script_run.specs.declared.recorded.Recorded.{Recorded}
use Rattle.script_run.specs.Maintenance.{HasSyncFailed, IsTurnInPlace}
use Rattle.script_run.specs.UnderWay.{Beginning, HasSynced, IsCalm, MayTurn, last_event, standing}
use Rattle.script_run.proofs.RunLaws.{last_pushed, standing_push}

-- a step that is done was given to a valid environment
turned_by : (fault : Option Fault) (limit : Option Answer) (step : Step) (in_checkpoint : Bool) (answer : Answer) → IsTurned fault limit step in_checkpoint answer → answer ≡ Done → fault ≡ None
turned_by None limit step in_checkpoint answer turned is = refl
turned_by (Some first) limit step in_checkpoint answer turned is = (let wrong : Done ≡ Invalid first = sym is ∙ turned in cc)

turned_valid : (limit : Option Answer) (st : Standing) (line : ℕ) (step : Step) (answer : Answer) → IsAnswered limit st (Turn line step answer) → answer ≡ Done → st.fault ≡ None
turned_valid limit st line step answer answered is = turned_by st.fault limit step st.in_checkpoint answer answered is

-- whether an environment is invalid
none_or : (fault : Option Fault) → is_some fault ≡ false → fault ≡ None
none_or None h = refl
none_or (Some first) h = cc

not_none : (fault : Option Fault) → is_some fault ≡ true → fault ≡ None → ⊥
not_none fault h is = (let wrong : false ≡ true = sym (ap is_some is) ∙ h in cc)

module _ {D : Type 0} where
  -- a sync that began and ended
  pub synced_by : (p : Beginning) (x m y : Recorded D) (answer : Answer) → m.journal.items ≡ x.journal.items ++ SyncBegin Done ∷ [] → y.journal.items ≡ m.journal.items ++ SyncEnd answer ∷ [] →
      IsSyncEnded None (Some (standing p x).commits) answer → HasSynced p x y
  synced_by p x m y answer begun ended h = ⊎_elim
      (λ (e : answer ≡ Durable commits). inl (subst (λ (s : Standing). (last_event y ≡ Some (SyncEnd (Durable s.commits))) × (first_ready s ≡ first_ready (standing p x))) (sym (stands (Durable commits) e)) (last (Durable commits) e, refl)))
      (λ (e : answer ≡ DiskFault). inr (inr (last DiskFault e), ap (λ (s : Standing). is_some s.fault) (stands DiskFault e)))
      h
    where
      commits : ℕ
      commits = (standing p x).commits

      stands : (a : Answer) → answer ≡ a → standing p y ≡ after_event (after_event (standing p x) (SyncBegin Done)) (SyncEnd a)
      stands a e =
          standing_push p m y (SyncEnd answer) ended ∙ ap (λ (s : Standing). after_event s (SyncEnd answer)) (standing_push p x m (SyncBegin Done) begun)
          ∙ ap (λ (b : Answer). after_event (after_event (standing p x) (SyncBegin Done)) (SyncEnd b)) e

      last : (a : Answer) → answer ≡ a → last_event y ≡ Some (SyncEnd a)
      last a e = last_pushed m y (SyncEnd answer) ended ∙ ap (λ (b : Answer). Some (SyncEnd b)) e

  -- a step that asks for no sync may be taken, and so may one of an invalid environment
  pub turns_alone : (p : Beginning) (step : Step) (x : Recorded D) → (step ≡ SyncStep → ⊥) → IsCalm p x → MayTurn p step x
  turns_alone p step x other calm = record { calm = inl calm; synced = λ is valid. absurd (other is) }

  pub turns_invalid : (p : Beginning) (step : Step) (x : Recorded D) (fault : Option Fault) → fault ≡ (standing p x).fault → is_some fault ≡ true → IsCalm p x → MayTurn p step x
  turns_invalid p step x fault is some calm = record { calm = inl calm; synced = λ asks valid. absurd (not_none fault some (is ∙ valid)) }

  -- and so may one behind its sync
  pub turns_synced : (p : Beginning) (step : Step) (x y : Recorded D) → step ≡ SyncStep → IsCalm p x → HasSynced p x y → MayTurn p step y
  turns_synced p step x y asks calm = λ synced. ⊎_elim
      (λ (done : (last_event y ≡ Some (SyncEnd (Durable (standing p y).commits))) × (first_ready (standing p y) ≡ first_ready (standing p x))).
      record { calm = inl (done.1 ∙ calm); synced = λ is valid. done.0 })
      (λ (failed : HasSyncFailed (last_event y) × (is_some (standing p y).fault ≡ true)).
      record { calm = inr (asks, failed.0); synced = λ is valid. absurd (not_none (standing p y).fault failed.1 valid) })
      synced

  -- a valid environment, by what it tells
  pub valid_by : (p : Beginning) (x : Recorded D) (fault : Option Fault) → fault ≡ (standing p x).fault → is_some fault ≡ false → (standing p x).fault ≡ None
  valid_by p x fault is none = sym is ∙ none_or fault none

  -- the event of a step that may be taken stands in its place
  pub turn_in_place : (p : Beginning) (x : Recorded D) (line : ℕ) (step : Step) (answer : Answer) (limit : Option Answer) → line ≢ 0 → MayTurn p step x → IsAnswered limit (standing p x) (Turn line step answer) →
      IsTurnInPlace (last_event x) (standing p x) line step answer
  turn_in_place p x line step answer limit some may answered = record {
    given = some;
    calm = may.calm;
    synced = λ is done. may.synced is (turned_valid limit (standing p x) line step answer answered done);
  }
