use Rattle.std.proofs.Common.{ap}
use Rattle.std.specs.List.{flat_map}
use Rattle.std.proofs.lemmas.List.{take_all}
use Rattle.text_out.specs.OutBuffer.{point}
use Rattle.text_out.proofs.BufferedText.{adds_none, adds_same, adds_then, next_text}
use Rattle.check_printer.specs.CheckText.{finding_lines}
use Rattle.check_printer.proofs.printing.put_findings.Goals as goal

pub loop-k-init : goal.loop-k-init
loop-k-init g c = adds_none (point (g.K.Sink.written c.args.out.now) (g.K.Sink.faults c.args.out.now) c.args.buffer.now)

pub loop-k-preserved : goal.loop-k-preserved
loop-k-preserved g c =
    adds_same _ _ (next_text finding_lines c.args.findings.now c.loop-k.k c.index-findings-k.result c.loop-k-test.true c.index-findings-k.is)
    (adds_then c.loop-k.invariant c.put_finding.ensures)

pub returns : goal.returns
returns g c = adds_same _ _ (ap (flat_map finding_lines) (take_all c.loop-k.k c.args.findings.now c.loop-k-test.false)) c.loop-k.invariant
