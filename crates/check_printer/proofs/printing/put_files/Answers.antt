use Rattle.std.proofs.Common.{ap}
use Rattle.std.specs.List.{flat_map}
use Rattle.std.proofs.lemmas.List.{take_all}
use Rattle.text_out.specs.OutBuffer.{point}
use Rattle.text_out.proofs.BufferedText.{adds_none, adds_same, adds_then, next_text_or}
use Rattle.check_printer.specs.CheckText.{file_line}
use Rattle.check_printer.proofs.printing.put_files.Goals as goal

pub loop-run-init : goal.loop-run-init
loop-run-init g c = adds_none (point (g.K.Sink.written c.args.out.now) (g.K.Sink.faults c.args.out.now) c.args.buffer.now)

pub loop-run-preserved : goal.loop-run-preserved
loop-run-preserved g c =
    adds_same _ _ (next_text_or file_line c.args.files.now c.loop-run.run-index _ c.loop-run-test.true)
    (adds_then c.loop-run.invariant c.put_file.ensures)

pub returns : goal.returns
returns g c = adds_same _ _ (ap (flat_map file_line) (take_all c.loop-run.run-index c.args.files.now c.loop-run-test.false)) c.loop-run.invariant
