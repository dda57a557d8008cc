use Rattle.std.proofs.Common.{take}
use Rattle.text_out.specs.OutBuffer.{Adds, point}
use Rattle.text_out.proofs.out_buffer.OutBuffer.put_each.Given as goal

abbrev pub invariant-loop-byte : goal.invariant-loop-byte
invariant-loop-byte g l =
    Adds (point (g.K.Sink.written l.initial.out) (g.K.Sink.faults l.initial.out) l.initial.self) (point (g.K.Sink.written l.out) (g.K.Sink.faults l.out) l.self) (take l.byte-index l.bytes)
