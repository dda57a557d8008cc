use Rattle.std.proofs.Common.{◌-◌, ◌≤◌}
use Rattle.text_out.specs.OutBuffer.{Adds, point}
use Rattle.check_printer.specs.CheckText.{gap_lines}
use Rattle.check_printer.proofs.printing.put_gap.Given as goal

-- the files below this one were sent
abbrev pub invariant-loop-file : goal.invariant-loop-file
invariant-loop-file g l =
    (l.fn.first.0 ≤ l.file) × (l.file - l.fn.first.0 ≤ l.past.0 - l.fn.first.0)
    × Adds (point (g.K.Sink.written l.initial.out) (g.K.Sink.faults l.initial.out) l.initial.buffer) (point (g.K.Sink.written l.out) (g.K.Sink.faults l.out) l.buffer) (gap_lines l.fn.first.0 (l.file - l.fn.first.0))

abbrev pub decreases-loop-file : goal.decreases-loop-file
decreases-loop-file g l = l.past.0 - l.file
