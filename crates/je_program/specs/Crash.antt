-- What a crash leaves of a whole program.
use Rattle.std.specs.Prelude.{ℕ, ◌≡◌, take, List, true}
use Rattle.je_disk.specs.States.{synced_crash_states}
use Rattle.je_disk.specs.Moments.{History, now}
use Rattle.store_model.specs.declared.event.Event.{Event}
use Rattle.store_model.specs.Store.{store_after}
use Rattle.store_model.specs.Indexes.{AreIndexed}
use Rattle.je_answers.specs.Standing.{Standing}
use Rattle.je_answers.specs.Journal.{attempts_of}
use Rattle.engine.specs.Crash.{ImagesMean, IsSafeRun, KeepsEntry}
use Rattle.je_program.specs.declared.cause.Cause.{Cause}
use Rattle.je_program.specs.Run.{is_run_through}
use Rattle.script_run.specs.Events.{final_store}

-- A program's run began, with the model at `st`, at the end of the sync with which the files at entry were opened, and was safe from there on; before it the files
-- of entry were kept. Where the script was run through, each image at the end means the final store. Whatever first of the attempted commits an image has, each index
-- has the pairs of its primary's records there, so that it can be opened.
pub record IsSafeProgram (old history : History) (st : Standing) (journal : List Event) (cause : Cause) : Type 0 where
  pub start : History
  pub stable : (now start).crash_states ≡ synced_crash_states (now start).reads
  pub before : KeepsEntry old start
  pub run : IsSafeRun st start history journal
  pub indexed : (k : ℕ) → AreIndexed (store_after st.store (take k (attempts_of st journal)))
  pub ends : is_run_through cause ≡ true → ImagesMean start.moment history history.moment (final_store st journal)
