-- Which lines of a script a run has given.
use Rattle.std.specs.Prelude.{ℕ, ◌≡◌, ◌==◌, ◌++◌, List, Bool, true, false, filter, slice_index_or}
use Rattle.store_model.specs.declared.event.Event.{Event}
use Rattle.store_model.specs.declared.plan.ScriptLine.{ScriptLine}
use Rattle.store_model.specs.declared.plan.ScriptLine.TheVariants.{Session, Maintenance}
use Rattle.je_answers.specs.Journal.{lines_of}

-- whether a line is of a session, and the lines of one session
abbrev pub is_of_session : ℕ → ScriptLine → Bool
is_of_session session (Session s line call) = s == session
is_of_session session (Maintenance line step) = false

-- the lines of one session
abbrev pub of_session : ℕ → List ScriptLine → List ScriptLine
of_session session lines = filter (is_of_session session) lines

-- whether a line is a step of maintenance, and the lines that are
abbrev pub is_of_maintenance : ScriptLine → Bool
is_of_maintenance (Session session line call) = false
is_of_maintenance (Maintenance line step) = true

-- the lines that are steps of maintenance
abbrev pub of_maintenance : List ScriptLine → List ScriptLine
of_maintenance lines = filter is_of_maintenance lines

-- the first of these lines, up to some
abbrev pub AreFirstLines : List ScriptLine → List ScriptLine → Type 0
AreFirstLines front lines = (rest : List ScriptLine) × (lines ≡ front ++ rest)

-- the journal has the lines that were given: each session's without those behind one that found no memory, and so the steps of maintenance
pub record HasGiven (journal : List Event) (memory_ended : Bool) (stopped : List Bool) (steps_stopped : Bool) (lines : List ScriptLine) : Type 0 where
  pub all : memory_ended ≡ false → lines_of journal ≡ lines
  pub none_stopped : memory_ended ≡ false → (session : ℕ) → slice_index_or stopped session false ≡ false
  pub each : (session : ℕ) → slice_index_or stopped session false ≡ false → of_session session (lines_of journal) ≡ of_session session lines
  pub front : (session : ℕ) → AreFirstLines (of_session session (lines_of journal)) (of_session session lines)
  pub steps_going : memory_ended ≡ false → steps_stopped ≡ false
  pub steps : steps_stopped ≡ false → of_maintenance (lines_of journal) ≡ of_maintenance lines
  pub front_steps : AreFirstLines (of_maintenance (lines_of journal)) (of_maintenance lines)
