use Rattle.std.proofs.Common.{ap}
use Rattle.std.specs.List.{flat_map}
use Rattle.std.proofs.lemmas.List.{take_all}
use Rattle.text_out.specs.OutBuffer.{point}
use Rattle.text_out.proofs.BufferedText.{adds_none, adds_same, adds_then, next_text}
use Rattle.log_printer.specs.LogLines.{log_line_text}
use Rattle.log_printer.proofs.printing.put_lines.Goals as goal

pub loop-k-init : goal.loop-k-init
loop-k-init g c = adds_none (point (g.K.Sink.written c.args.out.now) (g.K.Sink.faults c.args.out.now) c.args.buffer.now)

pub loop-k-preserved : goal.loop-k-preserved
loop-k-preserved g c =
    adds_same _ _ (next_text log_line_text c.args.lines.now c.loop-k.k c.index-lines-k.result c.loop-k-test.true c.index-lines-k.is)
    (adds_then c.loop-k.invariant c.put_line.ensures)

pub returns : goal.returns
returns g c = adds_same _ _ (ap (flat_map log_line_text) (take_all c.loop-k.k c.args.lines.now c.loop-k-test.false)) c.loop-k.invariant
