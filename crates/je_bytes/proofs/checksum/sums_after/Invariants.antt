use Rattle.std.proofs.Common.{◌≡◌, ◌+◌, ◌*◌, ◌≤◌, drop}
use Rattle.je_bytes.specs.Adler.{sum_of, running_sum_of}
use Rattle.je_bytes.proofs.checksum.sums_after.Given as goal

abbrev pub invariant-loop-byte : goal.invariant-loop-byte
invariant-loop-byte l = record {
  sum : l.a + sum_of (drop l.byte-index l.block) ≡ l.first + sum_of l.block;
  running : l.b + running_sum_of l.a (drop l.byte-index l.block) ≡ l.second + running_sum_of l.first l.block;
  sum_bound : l.a ≤ 65520 + 255 * l.byte-index;
  running_bound : l.b ≤ 65520 + 587760 * l.byte-index;
}
