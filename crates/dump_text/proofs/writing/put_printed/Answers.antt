use Rattle.std.proofs.Common.{ap}
use Rattle.std.specs.List.{flat_map}
use Rattle.std.proofs.lemmas.List.{take_all}
use Rattle.text_out.specs.OutBuffer.{point}
use Rattle.text_out.proofs.BufferedText.{adds_none, adds_same, adds_then, next_text_or}
use Rattle.dump_text.specs.Values.{printed_byte}
use Rattle.dump_text.proofs.writing.put_printed.Goals as goal

pub loop-byte-init : goal.loop-byte-init
loop-byte-init g c = adds_none (point (g.K.Sink.written c.args.out.now) (g.K.Sink.faults c.args.out.now) c.args.buffer.now)

pub loop-byte-preserved : goal.loop-byte-preserved
loop-byte-preserved g c =
    adds_same _ _ (next_text_or printed_byte c.args.bytes.now c.loop-byte.byte-index 0 c.loop-byte-test.true) (adds_then c.loop-byte.invariant c.put_printed_byte.ensures)

pub returns : goal.returns
returns g c = adds_same _ _ (ap (flat_map printed_byte) (take_all c.loop-byte.byte-index c.args.bytes.now c.loop-byte-test.false)) c.loop-byte.invariant
