-- A run of an environment that threads share.
use Rattle.std.specs.Prelude.{ℕ, ◌≡◌, List, Option, true, option_map}
use Rattle.je_disk.specs.DiskMeaning.{DiskMeaning}
use Rattle.je_disk.specs.Moments.{History, now}
use Rattle.store_model.specs.declared.answer.Answer.{Answer}
use Rattle.store_model.specs.declared.event.Event.{Event}
use Rattle.je_answers.specs.Standing.{Standing}
use Rattle.je_answers.specs.After.{AnswersAsModel, after_events}
use Rattle.environment.specs.declared.environment.Environment.{Environment}
use Rattle.environment.specs.Whole.{CanGoOn, IsAt, IsGuarded, disk_of}
use Rattle.shared_store.specs.declared.sync_out.SyncOut.{SyncOut}

module _ {D : Type 0} (meaning : DiskMeaning D) where
  -- An environment has had a journal of events since it was opened: each was answered as the model answers it where it then stood, the environment is where
  -- the journal leaves the model, and on an observable disk a crash leaves what the journal allows. The sync that is out covers the commits that were there as it
  -- began.
  pub record HasRun (environment : Environment D) (out : Option SyncOut) : Type 0 where
    pub most : ℕ
    pub st : Standing
    pub start : History
    pub journal : List Event
    pub here : IsAt most meaning.observable (now (meaning.history (disk_of environment))) environment (after_events st journal)
    pub limits : List (Option Answer)
    pub answers : AnswersAsModel st limits journal
    pub guarded : meaning.observable ≡ true → IsGuarded most st start (meaning.history (disk_of environment)) environment journal
    pub bounds : CanGoOn environment
    pub sync : (after_events st journal).begun ≡ option_map (λ o. o.commits) out
