-- Where a run ends its sessions.
use Rattle.std.specs.Prelude.{ℕ, ◌≡◌, ◌≤◌, ◌<◌, ◌⊎◌, ◌++◌, [], ◌∷◌, List, None, Bool, true, false, length, slice_index_or}
use Rattle.std.specs.Option.{is_some}
use Rattle.std.specs.List.{AllByRecursion}
use Rattle.store_model.specs.declared.event.Event.{Event}
use Rattle.store_model.specs.declared.event.Event.TheVariants.{End}
use Rattle.je_answers.specs.declared.active.Active.{Active}
use Rattle.je_answers.specs.Standing.{Standing, active_of}
use Rattle.je_answers.specs.After.{after_event}
use Rattle.je_answers.specs.Journal.{first_ready, lines_of}
use Rattle.script_run.specs.Lines.{of_session}

-- a session was stopped, since a call of it found no memory
abbrev pub IsStopped : List Bool → ℕ → Type 0
IsStopped stopped session = slice_index_or stopped session false ≡ true

-- an end of a session that was not stopped is of one past this number
abbrev pub IsEndPast : List Bool → ℕ → Event → Type 0
IsEndPast stopped session (End other) = IsStopped stopped other ⊎ (session < other)
IsEndPast stopped session event = Unit {0}

-- a session ends at the end of a script: it has a transaction, no call may go on, no line is given any more, and sessions that end later so have greater numbers
pub record IsLastEnd (stopped : List Bool) (st : Standing) (session : ℕ) (later : List Event) : Type 0 where
  pub under_way : is_some (active_of session st.actives) ≡ true
  pub calm : first_ready st ≡ None
  pub lines : lines_of later ≡ []
  pub rising : AllByRecursion (IsEndPast stopped session) later

-- a session that ends gives no line any more; it was stopped, or it ends at the end of the script
abbrev pub IsEndInPlace : List Bool → Standing → Event → List Event → Type 0
IsEndInPlace stopped st (End session) later = (of_session session (lines_of later) ≡ []) × (IsStopped stopped session ⊎ IsLastEnd stopped st session later)
IsEndInPlace stopped st event later = Unit {0}

-- each session of a journal ends where it may
abbrev pub AreEndsInPlace : List Bool → Standing → List Event → Type 0
AreEndsInPlace stopped st [] = Unit {0}
AreEndsInPlace stopped st (event ∷ events) = IsEndInPlace stopped st event events × AreEndsInPlace stopped (after_event st event) events

-- ---- while lines are given

-- a session that ends was stopped, and gives no line any more
abbrev pub IsEndStopped : List Bool → Event → List Event → Type 0
IsEndStopped stopped (End session) later = (of_session session (lines_of later) ≡ []) × IsStopped stopped session
IsEndStopped stopped event later = Unit {0}

abbrev pub AreEndsStopped : List Bool → List Event → Type 0
AreEndsStopped stopped [] = Unit {0}
AreEndsStopped stopped (event ∷ events) = IsEndStopped stopped event events × AreEndsStopped stopped events

-- ---- while calls go on

-- an event is no end, or one of a session that was stopped
abbrev pub IsOfStopped : List Bool → Event → Type 0
IsOfStopped stopped (End session) = IsStopped stopped session
IsOfStopped stopped event = Unit {0}

-- a journal gained events that no line gave, of which each end is of a session that was stopped
pub record HasGained (stopped : List Bool) (old new : List Event) : Type 0 where
  pub more : List Event
  pub is : new ≡ old ++ more
  pub lines : lines_of more ≡ []
  pub ends : AllByRecursion (IsOfStopped stopped) more

-- a journal gained events, of which lines gave so many at most
pub record HasGrown (most : ℕ) (old new : List Event) : Type 0 where
  pub more : List Event
  pub is : new ≡ old ++ more
  pub lines : length (lines_of more) ≤ most

-- ---- while sessions are ended, by rising number

-- an end of a session that was not stopped is of one below this number
abbrev pub IsEndBelow : List Bool → ℕ → Event → Type 0
IsEndBelow stopped bound (End other) = IsStopped stopped other ⊎ (other < bound)
IsEndBelow stopped bound event = Unit {0}

pub record AreEndsBelow (bound : ℕ) (stopped : List Bool) (st : Standing) (journal : List Event) : Type 0 where
  pub in_place : AreEndsInPlace stopped st journal
  pub below : AllByRecursion (IsEndBelow stopped bound) journal

-- ---- transactions under way

-- each transaction under way is of such a session
abbrev pub AreOf : (ℕ → Type 0) → List Active → Type 0
AreOf P actives = AllByRecursion (λ a. P a.session) actives
