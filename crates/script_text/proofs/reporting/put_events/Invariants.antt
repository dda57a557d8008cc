use Rattle.std.proofs.Common.{◌≡◌, ◌≤◌, ◌+◌, ◌++◌, ℕ, List, [], take, drop}
use Rattle.text_out.specs.OutBuffer.{Adds, point}
use Rattle.script_text.specs.Report.{NoneWaits, commits_in, events_text, none_begun}
use Rattle.script_text.proofs.reporting.put_events.Given as goal

abbrev pub invariant-loop-at : goal.invariant-loop-at
invariant-loop-at g l =
    (l.first ≤ l.at) × NoneWaits none_begun (take l.first l.events) (drop l.first (take l.at l.events))
    × ((done : List ℕ) × Adds (point (g.K.Sink.written l.initial.out) (g.K.Sink.faults l.initial.out) l.initial.buffer) (point (g.K.Sink.written l.out) (g.K.Sink.faults l.out) l.buffer) done
    × (done ++ events_text (take l.at l.events) (drop l.at l.events) ≡ events_text [] l.events))
    × (l.commits ≤ l.at) × (l.commits + commits_in (take l.at l.events) (drop l.at l.events) ≡ commits_in [] l.events)
