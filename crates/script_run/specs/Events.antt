-- The events of a run: what each may be, what follows it, and how far they reach.
use Rattle.std.specs.Prelude.{◌≡◌, ◌⊎◌, ◌∷◌, [], ◌++◌, List, Option, None, Some}
use Rattle.store_model.specs.declared.store.Store.{Store}
use Rattle.store_model.specs.declared.durability.Durability.{Durability}
use Rattle.store_model.specs.declared.answer.Answer.TheVariants.{Durable, DiskFault}
use Rattle.store_model.specs.declared.event.Event.{Event}
use Rattle.store_model.specs.declared.event.Event.TheVariants.{SyncEnd}
use Rattle.je_answers.specs.Standing.{Standing}
use Rattle.je_answers.specs.After.{after_event, after_events}
use Rattle.je_answers.specs.Journal.{IsFollowed, IsSyncedAtOnce}
use Rattle.engine.specs.Limits.{Reach}
use Rattle.environment.specs.Limits.{reach_behind}

-- the store that a run leaves
abbrev pub final_store : Standing → List Event → Store
final_store st journal = (after_events st journal).store

-- how far a log and its trees may reach behind a journal
abbrev pub reach_by : Reach → Standing → List Event → Reach
reach_by reach st [] = reach
reach_by reach st (event ∷ events) = reach_by (reach_behind reach st event) (after_event st event) events

-- ---- what is awaited

-- what the end of a journal waits for: nothing, what the durability of its last commit asks for, or the end of a sync
pub data Awaited : Type 0 where
  Nothing : Awaited
  Follow : Durability → Awaited
  Ending : Awaited

abbrev pub awaited_of : Option Durability → Awaited
awaited_of None = Nothing
awaited_of (Some durability) = Follow durability

-- events that come later are what is awaited
abbrev pub IsMet : Awaited → Standing → List Event → Type 0
IsMet Nothing st later = Unit {0}
IsMet (Follow durability) st later = IsFollowed durability st.commits later
IsMet Ending st later = (more : List Event) × ((later ≡ SyncEnd (Durable st.commits) ∷ more) ⊎ (later ≡ SyncEnd DiskFault ∷ more))

-- while something is awaited the environment is valid, and a sync is of all commits so far
abbrev pub IsFresh : Awaited → Standing → Type 0
IsFresh Nothing st = Unit {0}
IsFresh (Follow durability) st = st.fault ≡ None
IsFresh Ending st = (st.fault ≡ None) × (st.begun ≡ Some st.commits)

-- each commit of some events is followed by what its durability asks for, where these come behind them
abbrev pub AreSyncedBefore : Standing → List Event → List Event → Type 0
AreSyncedBefore st [] later = Unit {0}
AreSyncedBefore st (event ∷ events) later = IsSyncedAtOnce st event (events ++ later) × AreSyncedBefore (after_event st event) events later
