-- Standings that journals lead to, and what their commits leave of indexes.
use Rattle.std.specs.Prelude.{ℕ, ◌≡◌, take, List, Option}
use Rattle.std.specs.List.{AllByRecursion}
use Rattle.store_model.specs.declared.answer.Answer.{Answer}
use Rattle.store_model.specs.declared.event.Event.{Event}
use Rattle.store_model.specs.Store.{IsStore, all_changed, store_after}
use Rattle.store_model.specs.Indexes.{AreIndexed}
use Rattle.je_answers.specs.Standing.{Standing}
use Rattle.je_answers.specs.Alone.{Alone, alone}
use Rattle.je_answers.specs.Events.{IsAnswered}
use Rattle.je_answers.specs.After.{after_event, after_events, AnswersAsModel}
use Rattle.je_answers.specs.Journal.{attempt_of, attempts_of}
use Rattle.serial_replay.specs.Laws.{IsIndexedAt}
use Rattle.je_answers.specs.Numbers.{HaveNumbers}

-- a beginning, where no transaction is under way: a right store with numbers, whose indexes have the pairs of their primaries' records
pub record IsBeginning (p : Alone) : Type 0 where
  pub store : IsStore p.store
  pub numbers : HaveNumbers p.store p.last_db p.numbers
  pub indexed : AreIndexed p.store

-- a standing that a journal leads to from one
pub record IsReached (st : Standing) : Type 0 where
  pub start : Alone
  pub begins : IsBeginning start
  pub limits : List (Option Answer)
  pub journal : List Event
  pub answers : AnswersAsModel (alone start) limits journal
  pub is : st ≡ after_events (alone start) journal

abbrev pub BeginningsAreReached : Type 0
BeginningsAreReached = (p : Alone) → IsBeginning p → IsReached (alone p)

abbrev pub ReachedGoesOn : Type 0
ReachedGoesOn = (limit : Option Answer) (st : Standing) (event : Event) → IsReached st → IsAnswered limit st event → IsReached (after_event st event)

abbrev pub ReachedIsIndexed : Type 0
ReachedIsIndexed = (st : Standing) → IsReached st → IsIndexedAt st

-- ---- what is attempted

-- what an event is to commit leaves indexes right too, whether it was committed or the disk failed, after which it may be in the log
abbrev pub AttemptsAreIndexed : Type 0
AttemptsAreIndexed = (limit : Option Answer) (st : Standing) (event : Event) → IsReached st → IsAnswered limit st event →
    AllByRecursion (λ changes. AreIndexed (all_changed changes st.store)) (attempt_of st event)

-- and so do the first of all attempts of a journal, however many of them
abbrev pub FrontsAreIndexed : Type 0
FrontsAreIndexed = (p : Alone) (limits : List (Option Answer)) (journal : List Event) → IsBeginning p → AnswersAsModel (alone p) limits journal →
    (k : ℕ) → AreIndexed (store_after p.store (take k (attempts_of (alone p) journal)))
