use Rattle.std.proofs.Common.{[], refl, length-take, arith}
use Rattle.hex.specs.Hex.{encode_lower}
use Rattle.text_out.specs.OutBuffer.{point}
use Rattle.text_out.proofs.HexDigits.{digits_cut}
use Rattle.text_out.proofs.BufferedText.{adds_none, adds_same, adds_then}
use Rattle.text_out.proofs.digits.put_digits.Goals as goal

pub loop-rest-init : goal.loop-rest-init
loop-rest-init g c = ([], adds_none (point (g.K.Sink.written c.args.out.now) (g.K.Sink.faults c.args.out.now) c.args.buffer.now), refl)

pub slice_bounds-put_piece-end : goal.slice_bounds-put_piece-end
slice_bounds-put_piece-end g c = omega (arith, c.loop-rest-test.true, length-take 32 c.loop-rest.rest.now)

pub put_piece-requires : goal.put_piece-requires
put_piece-requires g c = omega (arith, c.loop-rest-test.true, length-take 32 c.loop-rest.rest.now)

pub loop-rest-preserved : goal.loop-rest-preserved
loop-rest-preserved g c =
    let kept = c.loop-rest.invariant in
    (_, adds_then kept.1 c.put_piece.ensures, digits_cut 32 c.loop-rest.rest.now kept.0 (encode_lower c.args.bytes.now) kept.2)

pub returns : goal.returns
returns g c = adds_same _ _ c.loop-rest.invariant.2 (adds_then c.loop-rest.invariant.1 c.put_piece-2.ensures)
