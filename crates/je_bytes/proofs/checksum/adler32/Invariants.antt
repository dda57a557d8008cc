use Rattle.std.proofs.Common.{◌≡◌, ◌+◌, ◌%◌, ◌<◌, length}
use Rattle.je_bytes.specs.Adler.{sum_of, running_sum_of}
use Rattle.je_bytes.proofs.checksum.adler32.Given as goal

abbrev pub invariant-loop-rest : goal.invariant-loop-rest
invariant-loop-rest l = record {
  sum : (l.a + sum_of l.rest) % 65521 ≡ (1 + sum_of l.bytes) % 65521;
  running : (l.b + running_sum_of l.a l.rest) % 65521 ≡ running_sum_of 1 l.bytes % 65521;
  sum_bound : l.a < 65521;
  running_bound : l.b < 65521;
}

abbrev pub decreases-loop-rest : goal.decreases-loop-rest
decreases-loop-rest l = length l.rest
