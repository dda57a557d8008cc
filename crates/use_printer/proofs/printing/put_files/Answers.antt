use Rattle.std.proofs.Common.{ap}
use Rattle.std.specs.List.{flat_map}
use Rattle.std.proofs.lemmas.List.{take_all}
use Rattle.text_out.specs.OutBuffer.{point}
use Rattle.text_out.proofs.BufferedText.{adds_none, adds_same, adds_then, next_text_or}
use Rattle.use_printer.specs.UseText.{file_use_line}
use Rattle.use_printer.proofs.printing.put_files.Goals as goal

pub loop-file-init : goal.loop-file-init
loop-file-init g c = adds_none (point (g.K.Sink.written c.args.out.now) (g.K.Sink.faults c.args.out.now) c.args.buffer.now)

pub loop-file-preserved : goal.loop-file-preserved
loop-file-preserved g c =
    adds_same _ _ (next_text_or file_use_line c.args.files.now c.loop-file.file-index _ c.loop-file-test.true)
    (adds_then c.loop-file.invariant c.put_file.ensures)

pub returns : goal.returns
returns g c = adds_same _ _ (ap (flat_map file_use_line) (take_all c.loop-file.file-index c.args.files.now c.loop-file-test.false)) c.loop-file.invariant
