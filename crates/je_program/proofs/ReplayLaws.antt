-- The transactions of a run replay, none of them wait in a cycle, and each index keeps up, whatever a crash leaves.
use Rattle.std.proofs.Common.{ℕ, Bool, take, List, Option, sym, subst}
use Rattle.je_disk.specs.States.{Files}
use Rattle.store_model.specs.declared.answer.Answer.{Answer}
use Rattle.store_model.specs.declared.event.Event.{Event}
use Rattle.store_model.specs.declared.store.Store.{Store}
use Rattle.store_model.specs.Indexes.{AreIndexed}
use Rattle.store_model.specs.Store.{store_after}
use Rattle.je_answers.specs.Standing.{Standing}
use Rattle.je_answers.specs.Alone.{alone}
use Rattle.je_answers.specs.After.{AnswersAsModel}
use Rattle.je_answers.specs.Journal.{attempts_of}
use Rattle.engine.specs.Opening.{StartsAt}
use Rattle.serial_replay.specs.Replay.{ReplaysSerially}
use Rattle.serial_replay.specs.Cycles.{NeverWaitInCycle}
use Rattle.serial_replay.specs.Laws.{StaysIndexed}
use Rattle.serial_replay.specs.Reached.{IsBeginning}
use Rattle.serial_replay.proofs.Replaying.{journals-replay, indexes-stay}
use Rattle.serial_replay.proofs.Attempts.{fronts_are-indexed}
use Rattle.serial_replay.proofs.CycleEvents.{cycles_never-stand}
use Rattle.environment.proofs.ReachedLaws.{starts_begins}

module _ (observable : Bool) (files : Files) (opening : Store) (st : Standing) (limits : List (Option Answer)) (journal : List Event) (starts : StartsAt observable files opening st) (answers : AnswersAsModel st limits journal) where
  model : AnswersAsModel (alone starts.alone_at) limits journal
  model = subst (λ (s : Standing). AnswersAsModel s limits journal) starts.st_is answers

  begins : IsBeginning starts.alone_at
  begins = starts_begins observable files opening st starts

  pub run_replays : ReplaysSerially st journal
  run_replays = subst (λ (s : Standing). ReplaysSerially s journal) (sym starts.st_is) (journals-replay starts.alone_at limits journal begins.store begins.numbers begins.indexed model)

  pub run_stays_indexed : StaysIndexed st journal
  run_stays_indexed = subst (λ (s : Standing). StaysIndexed s journal) (sym starts.st_is) (indexes-stay starts.alone_at limits journal begins.store begins.numbers begins.indexed model)

  pub run_fronts_indexed : (k : ℕ) → AreIndexed (store_after st.store (take k (attempts_of st journal)))
  run_fronts_indexed k =
      subst (λ (s : Standing). AreIndexed (store_after s.store (take k (attempts_of s journal)))) (sym starts.st_is)
      (fronts_are-indexed starts.alone_at limits journal begins model k)

  pub run_never_cycles : NeverWaitInCycle st journal
  run_never_cycles = subst (λ (s : Standing). NeverWaitInCycle s journal) (sym starts.st_is) (cycles_never-stand starts.alone_at limits journal model)
