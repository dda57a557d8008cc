use Rattle.std.proofs.Common.{take}
use Rattle.std.specs.List.{flat_map}
use Rattle.text_out.specs.OutBuffer.{Adds, point}
use Rattle.use_printer.specs.UseText.{file_use_line}
use Rattle.use_printer.proofs.printing.put_files.Given as goal

-- those so far were sent
abbrev pub invariant-loop-file : goal.invariant-loop-file
invariant-loop-file g l =
    Adds (point (g.K.Sink.written l.initial.out) (g.K.Sink.faults l.initial.out) l.initial.buffer) (point (g.K.Sink.written l.out) (g.K.Sink.faults l.out) l.buffer) (flat_map file_use_line (take l.file-index l.files))
