-- Where a run pauses, and which lines one has then.
use Rattle.std.specs.Prelude.{◌≡◌, ◌⊎◌, ◌++◌, [], List, Bool, true, false}
use Rattle.std.specs.List.{list_any}
use Rattle.store_model.specs.declared.event.Event.{Event}
use Rattle.store_model.specs.declared.plan.ScriptLine.{ScriptLine}
use Rattle.load_laws.specs.Given.{StopsAtRefusal, is_refused}
use Rattle.script_run.specs.declared.pause.Pause.{Pause}
use Rattle.script_run.specs.declared.pause.Pause.TheVariants.{Never, AtRefusal}
use Rattle.script_run.specs.declared.running.Running.{Running}
use Rattle.script_run.specs.Running.{HasLines}

-- whether a run pauses behind an event
abbrev pub pauses : Pause → Event → Bool
pauses Never event = false
pauses (AtRefusal kept) event = is_refused kept event

-- behind a call at which it pauses no line is given
abbrev pub StopsAt : Pause → List Event → Type 0
StopsAt Never journal = Unit {0}
StopsAt (AtRefusal kept) journal = StopsAtRefusal kept journal

-- A run was given the first of these lines, and of them it has those that it may have; behind a call at which it pauses it has none. There are lines
-- that it was not given only where it paused.
pub record HasLinesUntil {D : Type 0} (pause : Pause) (x : Running D) (lines : List ScriptLine) : Type 0 where
  pub front : List ScriptLine
  pub rest : List ScriptLine
  pub parts : lines ≡ front ++ rest
  pub given : HasLines x front
  pub stops : StopsAt pause x.recorded.journal.items
  pub paused : (rest ≡ []) ⊎ (list_any (pauses pause) x.recorded.journal.items ≡ true)
