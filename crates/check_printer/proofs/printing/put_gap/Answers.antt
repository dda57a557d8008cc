use Rattle.std.proofs.Common.{◌≡◌, ◌-◌, ap, codes, arith}
use Rattle.text_out.specs.OutBuffer.{point}
use Rattle.text_out.proofs.BufferedText.{adds_none, adds_same, adds_then}
use Rattle.check_printer.specs.CheckText.{gap_lines, place_line}
use Rattle.check_printer.proofs.GapLines.{gap_next}
use Rattle.check_printer.proofs.printing.put_gap.Goals as goal

pub loop-file-init : goal.loop-file-init
loop-file-init g c =
    let none : 0 ≡ c.args.first.0 - c.args.first.0 = omega arith in (
      omega arith,
      omega arith,
      adds_same _ _ (ap (gap_lines c.args.first.0) none) (adds_none (point (g.K.Sink.written c.args.out.now) (g.K.Sink.faults c.args.out.now) c.args.buffer.now)),
    )

pub loop-file-preserved : goal.loop-file-preserved
loop-file-preserved g c = (
  omega (arith, c.loop-file.invariant.0),
  omega (arith, c.loop-file.invariant.0, c.loop-file-test.true),
  adds_same _ _ (gap_next c.args.first.0 c.loop-file.file c.loop-file.invariant.0) (adds_then c.loop-file.invariant.2 (adds_same _ _ (ap (place_line (codes "missing ")) c.new.ensures) c.put_place.ensures)),
)

pub returns : goal.returns
returns g c =
    let all : c.loop-file.file - c.args.first.0 ≡ c.args.past.0 - c.args.first.0 = omega (arith, c.loop-file.invariant.0, c.loop-file.invariant.1, c.loop-file-test.false) in
    adds_same _ _ (ap (gap_lines c.args.first.0) all) c.loop-file.invariant.2
