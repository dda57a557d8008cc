-- What holds of every journal.
use Rattle.std.specs.Prelude.{◌≡◌, ◌+◌, ◌++◌, ◌∷◌, [], List, Option, option_to_list, length}
use Rattle.store_model.specs.declared.change.Change.{Change}
use Rattle.store_model.specs.declared.answer.Answer.{Answer}
use Rattle.store_model.specs.declared.event.Event.{Event}
use Rattle.store_model.specs.Store.{store_after}
use Rattle.je_answers.specs.Standing.{Standing}
use Rattle.je_answers.specs.Events.{IsAnswered}
use Rattle.je_answers.specs.After.{AnswersAsModel, after_events}
use Rattle.je_answers.specs.Journal.{commits_of, attempts_of}

-- a journal that answers as the model, and one more event that does
abbrev pub JournalsGoOn : Type 0
JournalsGoOn = (st : Standing) (limits : List (Option Answer)) (events : List Event) (limit : Option Answer) (event : Event) →
    AnswersAsModel st limits events → IsAnswered limit (after_events st events) event →
    AnswersAsModel st (limits ++ limit ∷ []) (events ++ event ∷ [])

-- a journal leaves the store changed by its commits, in order, and has counted them
pub record CommitsMakeTheStore (st : Standing) (events : List Event) : Type 0 where
  pub store : (after_events st events).store ≡ store_after st.store (commits_of st events)
  pub count : (after_events st events).commits ≡ st.commits + length (commits_of st events)

-- the attempted commits are the commits, and perhaps one more
abbrev pub AttemptsGoOn : Standing → List Event → Type 0
AttemptsGoOn st events = (more : Option (List Change)) × (attempts_of st events ≡ commits_of st events ++ option_to_list more)
