use Rattle.std.proofs.Common.{length, take, ◌-◌, ◌≤◌}
use Rattle.je_io.specs.Sink.{Gains}
use Rattle.je_io.proofs.writing.write_all.Given as goal

abbrev pub invariant-loop-done : goal.invariant-loop-done
invariant-loop-done g l =
    (l.done ≤ length l.bytes) × Gains (g.K.Sink.written l.initial.output) (g.K.Sink.written l.output) (take l.done l.bytes) × (g.K.Sink.faults l.initial.output ≤ g.K.Sink.faults l.output)

abbrev pub decreases-loop-done : goal.decreases-loop-done
decreases-loop-done g l = length l.bytes - l.done
