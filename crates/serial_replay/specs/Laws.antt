-- What holds of every journal.
use Rattle.std.specs.Prelude.{◌≡◌, ◌∷◌, [], List, Option, None}
use Rattle.std.specs.List.{AllByRecursion}
use Rattle.store_model.specs.declared.store.Store.{Store}
use Rattle.store_model.specs.declared.answer.Answer.{Answer}
use Rattle.store_model.specs.declared.event.Event.{Event}
use Rattle.store_model.specs.Store.{IsStore}
use Rattle.store_model.specs.Indexes.{AreIndexed, HasNoIndex}
use Rattle.je_answers.specs.Numbers.{HaveNumbers}
use Rattle.je_answers.specs.Standing.{Standing}
use Rattle.je_answers.specs.Alone.{Alone, alone}
use Rattle.je_answers.specs.After.{after_event, AnswersAsModel}
use Rattle.indexed_standings.specs.Indexed.{AreIndexedFor}
use Rattle.serial_replay.specs.Replay.{ReplaysSerially}
use Rattle.serial_replay.specs.Cycles.{NeverWaitInCycle}

-- ---- isolation

-- where no transaction is under way at the beginning, answers as the model lets them be keep what each level promises
abbrev pub JournalsReplay : Type 0
JournalsReplay = (p : Alone) (limits : List (Option Answer)) (journal : List Event) → IsStore p.store → HaveNumbers p.store p.last_db p.numbers → AreIndexed p.store →
    AnswersAsModel (alone p) limits journal → ReplaysSerially (alone p) journal

-- and after no event does anybody wait in a cycle
abbrev pub CyclesNeverStand : Type 0
CyclesNeverStand = (p : Alone) (limits : List (Option Answer)) (journal : List Event) → AnswersAsModel (alone p) limits journal → NeverWaitInCycle (alone p) journal

-- ---- indexes

-- each index has the pairs of its primary's records; and until a fault, with which each call is refused, each transaction sees it so, at every level
pub record IsIndexedAt (st : Standing) : Type 0 where
  pub store : AreIndexed st.store
  pub seen : st.fault ≡ None → AllByRecursion (AreIndexedFor st) st.actives

-- so it is now and after each event of a journal
abbrev pub StaysIndexed : Standing → List Event → Type 0
StaysIndexed st [] = IsIndexedAt st
StaysIndexed st (event ∷ events) = IsIndexedAt st × StaysIndexed (after_event st event) events

abbrev pub IndexesStay : Type 0
IndexesStay = (p : Alone) (limits : List (Option Answer)) (journal : List Event) → IsStore p.store → HaveNumbers p.store p.last_db p.numbers → AreIndexed p.store →
    AnswersAsModel (alone p) limits journal → StaysIndexed (alone p) journal

-- a store without indexes
abbrev pub NoneIsIndexed : Type 0
NoneIsIndexed = (store : Store) → HasNoIndex store → AreIndexed store
