use Rattle.std.proofs.Common.{arith}
use Rattle.je_bytes.proofs.AdlerSums.{sum_of-next, running_sum_of-next}
use Rattle.je_bytes.proofs.checksum.sums_after.Goals as goal

pub loop-byte-preserved : goal.loop-byte-preserved
loop-byte-preserved c =
    let small = c.type_inv.block c.loop-byte.byte-index in
    record {
      sum = sum_of-next c.loop-byte.a c.loop-byte.byte-index _ c.args.block.now c.loop-byte-test.true c.loop-byte.invariant.sum;
      running = running_sum_of-next c.loop-byte.a c.loop-byte.b c.loop-byte.byte-index _ c.args.block.now c.loop-byte-test.true c.loop-byte.invariant.running;
      sum_bound = omega (arith, small);
      running_bound = omega (arith, small);
    }
