use Rattle.std.proofs.Common.{◌+◌, ◌%◌, refl, ap, ◌∙◌, zero-add, arith}
use Rattle.je_bytes.specs.Adler.{adler32_of, sum_of, running_sum_of}
use Rattle.je_bytes.proofs.AdlerSums.{sum_of-block, running_sum_of-block}
use Rattle.je_bytes.proofs.checksum.adler32.Goals as goal

pub loop-rest-preserved : goal.loop-rest-preserved
loop-rest-preserved c =
    let rest = c.loop-rest.rest.now in
    let first = c.sums_after.ensures.first ∙ ap (λ block. (c.loop-rest.a + sum_of block) % 65521) c.split_at.ensures.front in
    let second = c.sums_after.ensures.second ∙ ap (λ block. (c.loop-rest.b + running_sum_of c.loop-rest.a block) % 65521) c.split_at.ensures.front in
    record {
      sum = ap (λ after. (c.sums_after.result.0 + sum_of after) % 65521) c.split_at.ensures.back
          ∙ sum_of-block c.loop-rest.a c.sums_after.result.0 2048 rest first ∙ c.loop-rest.invariant.sum;
      running = ap (λ after. (c.sums_after.result.1 + running_sum_of c.sums_after.result.0 after) % 65521) c.split_at.ensures.back
          ∙ running_sum_of-block c.loop-rest.a c.loop-rest.b c.sums_after.result.0 c.sums_after.result.1 2048 rest first second ∙ c.loop-rest.invariant.running;
      sum_bound = omega (arith, c.sums_after.ensures.first);
      running_bound = omega (arith, c.sums_after.ensures.second);
    }

pub returns : goal.returns
unfolding adler32_of
returns c = omega (arith, c.sums_after-a.ensures.first, c.sums_after-a.ensures.second, c.loop-rest.invariant.sum, c.loop-rest.invariant.running)

pub loop-rest-init : goal.loop-rest-init
loop-rest-init c = record {
  sum = refl;
  running = ap (λ n. n % 65521) (zero-add (running_sum_of 1 c.args.bytes.now));
  sum_bound = omega arith;
  running_bound = omega arith;
}

pub sums_after-requires-clause-short : goal.sums_after-requires-clause-short
sums_after-requires-clause-short c = omega (arith, c.split_at.ensures.front_len)

pub sums_after-a-requires-clause-short : goal.sums_after-a-requires-clause-short
sums_after-a-requires-clause-short c = c.loop-rest-test.false
