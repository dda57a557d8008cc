use Rattle.std.proofs.Common.{◌*◌, ◌+◌, slice_index, arith}
use Rattle.std.proofs.lemmas.List.{length-set}
use Rattle.hex.proofs.Pairs.{decode_start, decode_step}
use Rattle.script_text.proofs.HexValues.{all_decoded, no_first, no_second, pair_is, stops_at}
use Rattle.script_text.proofs.bytes.decode.Goals as goal

pub loop-i-init : goal.loop-i-init
loop-i-init c = (c.requires, decode_start c.args.digits.now c.args.into.now)

pub returns-in_default : goal.returns-in_default
returns-in_default c =
    let digits = c.args.digits.now in
    let i = c.loop-i.i in
    stops_at digits c.loop-i.into i _ c.loop-i.invariant.0 (omega (arith, c.loop-i-test.true)) (no_first (slice_index digits (2 * i)) (slice_index digits (2 * i + 1)) (2 * i) c.in_default.ensures.value) c.loop-i.invariant.1

pub returns-in_default-digit_value : goal.returns-in_default-digit_value
returns-in_default-digit_value c =
    let digits = c.args.digits.now in
    let i = c.loop-i.i in
    stops_at digits c.loop-i.into i _ c.loop-i.invariant.0 (omega (arith, c.loop-i-test.true))
    (no_second (slice_index digits (2 * i)) (slice_index digits (2 * i + 1)) (2 * i) c.in-Some.high c.in-Some.ensures.value c.in_default-digit_value.ensures.value) c.loop-i.invariant.1

pub loop-i-preserved : goal.loop-i-preserved
loop-i-preserved c =
    let digits = c.args.digits.now in
    let i = c.loop-i.i in
    let high = c.in-Some.high in
    let low = c.in-Some-digit_value.low in
    let twice = c.loop-i.invariant.0 in (
      omega (arith, twice, length-set c.loop-i.into i (high * 16 + low)),
      decode_step digits c.loop-i.into i (high * 16 + low) (omega (arith, twice, c.loop-i-test.true)) (omega (arith, c.loop-i-test.true))
          (pair_is (slice_index digits (2 * i)) (slice_index digits (2 * i + 1)) (2 * i) high low c.in-Some.ensures.value c.in-Some-digit_value.ensures.value) c.loop-i.invariant.1,
    )

pub returns : goal.returns
returns c = all_decoded c.args.digits.now c.loop-i.into c.loop-i.i c.loop-i.invariant.0 (omega (arith, c.loop-i-test.false)) c.loop-i.invariant.1
