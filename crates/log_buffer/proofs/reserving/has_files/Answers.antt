use Rattle.std.proofs.Common.{ap, arith, rules}
use Rattle.log_buffer.specs.declared.log_pos.LogPos.{LogPos}
use Rattle.log_buffer.proofs.LogPositions.{passes}
use Rattle.log_buffer.proofs.reserving.has_files.Goals as goal

pub returns-then-pos-gt-LAST_FILE : goal.returns-then-pos-gt-LAST_FILE
returns-then-pos-gt-LAST_FILE c = (
  search rules,
  λ le.
      let past = c.if-pos-gt-LAST_FILE.true in
      let within = c.loop-size-test.true in
      let all = ap (λ (p : LogPos). p.file) c.loop-size.invariant.all in
      let p = passes c.args.file_max c.loop-size.end c.placed-pos.result c.args.sizes.now c.loop-size.size-index (omega arith) c.placed-pos.ensures in
      absurd (omega (arith, all)),
)
