use Rattle.std.proofs.Common.{take}
use Rattle.std.specs.List.{flat_map}
use Rattle.text_out.specs.OutBuffer.{Adds, point}
use Rattle.check_printer.specs.CheckText.{finding_lines}
use Rattle.check_printer.proofs.printing.put_findings.Given as goal

-- those so far were sent
abbrev pub invariant-loop-k : goal.invariant-loop-k
invariant-loop-k g l =
    Adds (point (g.K.Sink.written l.initial.out) (g.K.Sink.faults l.initial.out) l.initial.buffer) (point (g.K.Sink.written l.out) (g.K.Sink.faults l.out) l.buffer) (flat_map finding_lines (take l.k l.findings))
