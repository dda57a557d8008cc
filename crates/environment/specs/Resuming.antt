-- What a call that waited comes to when it goes on.
use Rattle.std.specs.Prelude.{ℕ, ◌≡◌, ◌++◌, ◌∷◌, [], List, Option, Some, true, Result, Ok, Err, IfOk, OnErr}
use Rattle.std.specs.declared.alloc.AllocError.{AllocError}
use Rattle.je_disk.specs.DiskMeaning.{DiskMeaning}
use Rattle.je_disk.specs.Moments.{History, now}
use Rattle.store_model.specs.declared.answer.Answer.{Answer}
use Rattle.store_model.specs.declared.event.Event.{Event}
use Rattle.store_model.specs.declared.event.Event.TheVariants.{End}
use Rattle.je_answers.specs.declared.wait.Wait.{Wait}
use Rattle.je_answers.specs.Standing.{Standing, wait_of}
use Rattle.je_answers.specs.After.{after_event, after_events, after_session}
use Rattle.je_answers.specs.Events.{IsAnswered, resumed}
use Rattle.je_answers.specs.Journal.{attempt_of}
use Rattle.je_answers.specs.Locking.{was_granted_in}
use Rattle.standing_laws.specs.Right.{AreRight}
use Rattle.engine.specs.Limits.{IsWithin, reach_after}
use Rattle.engine.specs.Steps.{IsNumbered}
use Rattle.environment.specs.declared.environment.Environment.{Environment}
use Rattle.environment.specs.declared.outcome.Outcome.{Outcome}
use Rattle.environment.specs.Calls.{MayResume, SettlesBy, resumed_by}
use Rattle.environment.specs.Limits.{owing_after, written_resumed}
use Rattle.environment.specs.Steps.{Appends, HasCalled, HasNotCome}
use Rattle.environment.specs.Valid.{AreBare}
use Rattle.environment.specs.Whole.{GoesOn, GoesOnSafely, HasLimit, IsAt, IsGuarded, disk_of, reach_of}

-- a session's call waits and may go on, where no fault has come
pub record MayGoOn (st : Standing) (session : ℕ) (w : Wait) : Type 0 where
  pub right : AreRight st
  pub bare : AreBare st
  pub its : wait_of session st.waiting ≡ Some w
  pub granted : was_granted_in w.txn st.locks ≡ true

module _ {D : Type 0} where
  -- the call was made again, or there was no memory and its session was ended
  abbrev pub GoesAgain : DiskMeaning D → ℕ → Environment D → Environment D → Standing → Wait → ℕ → Result Outcome AllocError → Type 0
  GoesAgain meaning most old new st w session (Ok o) = HasCalled meaning most old new (resumed st w) session w.line w.call o.answer o.victims
  GoesAgain meaning most old new st w session (Err error) = HasNotCome meaning most old new (after_session session st)

  -- a session's call went on, or its session was ended, for all that an environment may stand at
  pub record ResumesCall (meaning : DiskMeaning D) (old new : Environment D) (session : ℕ) (result : Result Outcome AllocError) : Type 0 where
    pub goes_on : (most : ℕ) (st : Standing) (line : ℕ) → IsAt most meaning.observable (now (meaning.history (disk_of old))) old st → MayResume st session line
        → GoesOn most meaning.observable (now (meaning.history (disk_of new))) old new st (resumed_by session line) (after_event st (End session)) result
    pub exact : (most : ℕ) (st : Standing) (line : ℕ) → IsAt most meaning.observable (now (meaning.history (disk_of old))) old st → MayResume st session line
        → IfOk result (λ o. (limit : Option Answer) × HasLimit old (owing_after st session) (written_resumed (wait_of session st.waiting) st session) limit × IsAnswered limit st (resumed_by session line o))
    pub numbered : (most : ℕ) (st : Standing) (line : ℕ) → IsAt most meaning.observable (now (meaning.history (disk_of old))) old st → MayResume st session line
        → IfOk result (λ o. IsNumbered o.answer (after_event st (resumed_by session line o)).commits)
    pub grows : (most : ℕ) (st : Standing) (line : ℕ) → IsAt most meaning.observable (now (meaning.history (disk_of old))) old st → MayResume st session line
        → IsWithin (reach_of new) (reach_after (reach_of old) (written_resumed (wait_of session st.waiting) st session))
    pub crash : meaning.observable ≡ true → (most : ℕ) (st : Standing) (start : History) (journal : List Event) (line : ℕ)
        → IsAt most meaning.observable (now (meaning.history (disk_of old))) old (after_events st journal) → MayResume (after_events st journal) session line
        → IsGuarded most st start (meaning.history (disk_of old)) old journal
        → GoesOnSafely most st start (meaning.history (disk_of new)) new journal (resumed_by session line) (journal ++ End session ∷ []) result
    pub appends : (most : ℕ) (st : Standing) (line : ℕ) → IsAt most meaning.observable (now (meaning.history (disk_of old))) old st → MayResume st session line
        → IfOk result (λ o. Appends meaning old new (written_resumed (wait_of session st.waiting) st session) (attempt_of st (resumed_by session line o)) o.answer)
    pub stays : OnErr result (IsWithin (reach_of new) (reach_of old))
    pub settles : (most : ℕ) (st : Standing) (line : ℕ) → IsAt most meaning.observable (now (meaning.history (disk_of old))) old st → MayResume st session line
        → SettlesBy st (resumed_by session line) (End session) result
