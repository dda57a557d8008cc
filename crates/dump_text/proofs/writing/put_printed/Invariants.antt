use Rattle.std.proofs.Common.{take}
use Rattle.std.specs.List.{flat_map}
use Rattle.text_out.specs.OutBuffer.{Adds, point}
use Rattle.dump_text.specs.Values.{printed_byte}
use Rattle.dump_text.proofs.writing.put_printed.Given as goal

abbrev pub invariant-loop-byte : goal.invariant-loop-byte
invariant-loop-byte g l =
    Adds (point (g.K.Sink.written l.initial.out) (g.K.Sink.faults l.initial.out) l.initial.buffer) (point (g.K.Sink.written l.out) (g.K.Sink.faults l.out) l.buffer) (flat_map printed_byte (take l.byte-index l.bytes))
