use Rattle.std.proofs.Common.{sym}
use Rattle.std.proofs.lemmas.List.{take_all, take_more}
use Rattle.text_out.specs.OutBuffer.{point}
use Rattle.text_out.proofs.BufferedText.{adds_none, adds_same, adds_then}
use Rattle.text_out.proofs.out_buffer.OutBuffer.put_each.Goals as goal

pub loop-byte-init : goal.loop-byte-init
loop-byte-init g c = adds_none (point (g.K.Sink.written c.args.out.now) (g.K.Sink.faults c.args.out.now) c.args.self.now)

pub loop-byte-preserved : goal.loop-byte-preserved
loop-byte-preserved g c =
    adds_same _ _ (sym (take_more c.args.bytes.now c.loop-byte.byte-index 0 c.loop-byte-test.true)) (adds_then c.loop-byte.invariant c.put_byte.ensures)

pub returns : goal.returns
returns g c = adds_same _ _ (take_all c.loop-byte.byte-index c.args.bytes.now c.loop-byte-test.false) c.loop-byte.invariant
