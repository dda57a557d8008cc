-- The events of a load.
use Rattle.std.specs.Prelude.{◌≡◌, ◌≤◌, ℕ, List, [], ◌∷◌, Some, Bool, true, false, length, filter}
use Rattle.store_model.specs.declared.call.Call.{Call}
use Rattle.store_model.specs.declared.call.Call.TheVariants.{Begin, Commit, Create, Put}
use Rattle.store_model.specs.declared.event.Event.{Event}
use Rattle.store_model.specs.declared.event.Event.TheVariants.{Call as Called, Resume}
use Rattle.je_answers.specs.declared.active.Active.{Active}
use Rattle.je_answers.specs.Standing.{Standing, active_of}
use Rattle.je_answers.specs.After.{after_event}
use Rattle.je_answers.specs.Journal.{attempts_of}

-- a session is in a transaction that it began
pub record IsInTxn (session : ℕ) (st : Standing) : Type 0 where
  pub active : Active
  pub is : active_of session st.actives ≡ Some active
  pub own : active.is_auto ≡ false

-- a call of a load: a put stands in a transaction
abbrev pub IsLoadCall : ℕ → Standing → Call → Type 0
IsLoadCall session st (Create db kind) = Unit {0}
IsLoadCall session st (Begin level durability wait) = Unit {0}
IsLoadCall session st (Put db key value mode) = IsInTxn session st
IsLoadCall session st Commit = Unit {0}
IsLoadCall session st call = ⊥

-- no call of a load waits
abbrev pub IsLoadEvent : Standing → Event → Type 0
IsLoadEvent st (Called session line call answer victims) = IsLoadCall session st call
IsLoadEvent st (Resume session line answer victims) = ⊥
IsLoadEvent st event = Unit {0}

-- each event of a journal that goes on from a standing is one of a load
abbrev pub AreLoadEvents : Standing → List Event → Type 0
AreLoadEvents st [] = Unit {0}
AreLoadEvents st (event ∷ events) = IsLoadEvent st event × AreLoadEvents (after_event st event) events

-- the calls that may commit
abbrev pub is_committing : Call → Bool
is_committing (Create db kind) = true
is_committing Commit = true
is_committing call = false

-- whether an event may commit
abbrev pub may_commit : Event → Bool
may_commit (Called session line call answer victims) = is_committing call
may_commit event = false

-- the events of a load attempt at most as many commits as calls that may commit
abbrev pub LoadsAttemptFew : Type 0
LoadsAttemptFew = (st : Standing) (journal : List Event) → AreLoadEvents st journal → length (attempts_of st journal) ≤ length (filter may_commit journal)
