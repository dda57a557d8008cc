-- An environment that was opened stands at a beginning, from which journals lead on.
use Rattle.std.proofs.Common.{◌≡◌, ◌⊎◌, ◌∙◌, ℕ, Bool, List, Option, None, Some, refl, sym, subst}
use Rattle.je_disk.specs.States.{Files}
use Rattle.store_model.specs.declared.store.Store.{Store}
use Rattle.store_model.specs.Indexes.{AreIndexed}
use Rattle.store_model.specs.Store.{IsStore}
use Rattle.store_model.specs.declared.answer.Answer.{Answer}
use Rattle.store_model.specs.declared.answer.Answer.TheVariants.{Durable, DiskFault}
use Rattle.store_model.specs.declared.answer.Fault.{Fault}
use Rattle.je_answers.specs.Standing.{Standing}
use Rattle.je_answers.specs.Events.{IsSyncEnded}
use Rattle.engine.specs.Opening.{AreNumbers, StartsAt}
use Rattle.je_answers.specs.Numbers.{HaveNumbers}
use Rattle.serial_replay.specs.Reached.{IsBeginning, IsReached}
use Rattle.serial_replay.proofs.Attempts.{beginnings_are-reached}
use Rattle.environment.proofs.RightStores.{meaning_right}

opening_numbers : (store : Store) (last_db : ℕ) (numbers : List ℕ → ℕ) → AreNumbers store last_db numbers → HaveNumbers store last_db numbers
opening_numbers store last_db numbers k = record { none = k.none; allocated = k.allocated; apart = k.apart }

pub starts_begins : (observable : Bool) (files : Files) (opening : Store) (st : Standing) → (starts : StartsAt observable files opening st) → IsBeginning starts.alone_at
starts_begins observable files opening st starts = record {
  store = subst IsStore (starts.means_store ∙ sym starts.store) (meaning_right starts.held starts.meaning starts.means);
  numbers = subst (λ (s : Store). HaveNumbers s starts.alone_at.last_db starts.alone_at.numbers) (sym starts.store)
      (opening_numbers opening starts.alone_at.last_db starts.alone_at.numbers starts.numbers);
  indexed = subst AreIndexed (sym starts.store) (starts.indexed.indexed refl);
}

pub starts_reached : (observable : Bool) (files : Files) (opening : Store) (st : Standing) → StartsAt observable files opening st → IsReached st
starts_reached observable files opening st starts =
    subst IsReached (sym starts.st_is) (beginnings_are-reached starts.alone_at (starts_begins observable files opening st starts))

-- a sync that is out may end
pub ends_by : (st : Standing) (commits : ℕ) (answer : Answer) → st.fault ≡ None → st.begun ≡ Some commits → (answer ≡ Durable commits) ⊎ (answer ≡ DiskFault) → IsSyncEnded st.fault st.begun answer
ends_by st commits answer none out is =
    subst (λ (f : Option Fault). IsSyncEnded f st.begun answer) (sym none) (subst (λ (n : Option ℕ). IsSyncEnded None n answer) (sym out) is)
