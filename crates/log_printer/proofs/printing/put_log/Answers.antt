use Rattle.std.proofs.Common.{ap}
use Rattle.std.specs.List.{flat_map}
use Rattle.std.proofs.lemmas.List.{take_all}
use Rattle.text_out.specs.OutBuffer.{point}
use Rattle.text_out.proofs.BufferedText.{adds_none, adds_same, adds_then, next_text}
use Rattle.log_printer.specs.LogLines.{lines_text}
use Rattle.log_printer.proofs.printing.put_log.Goals as goal

pub loop-k-init : goal.loop-k-init
loop-k-init g c = adds_none (point (g.K.Sink.written c.args.out.now) (g.K.Sink.faults c.args.out.now) c.args.buffer.now)

pub loop-k-preserved : goal.loop-k-preserved
loop-k-preserved g c =
    adds_same _ _ (next_text lines_text c.args.files.now c.loop-k.k c.index-files-k.result c.loop-k-test.true c.index-files-k.is)
    (adds_then c.loop-k.invariant c.put_file.ensures)

pub returns : goal.returns
returns g c = adds_same _ _ (ap (flat_map lines_text) (take_all c.loop-k.k c.args.files.now c.loop-k-test.false)) c.loop-k.invariant
