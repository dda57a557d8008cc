use Rattle.std.proofs.Common.{◌≡◌, ◌<◌, ◌≤◌, ◌+◌, suc, length, arith}
use Rattle.db_tree.specs.Waiting.{waiting_of, count_lows}
use Rattle.db_tree.proofs.LoadingLaws.{more_then}
use Rattle.db_tree.proofs.loading.raise_to.Goals as goal

pub loop-i-preserved : goal.loop-i-preserved
loop-i-preserved c =
    let at : length c.loop-i.levels ≡ c.loop-i.i = c.loop-i.invariant.height in
    let within : c.loop-i.i < c.args.level + 1 = c.loop-i-test.true in
    let level : c.args.level < 256 = c.requires in
    let height : length c.raise_one.new.levels ≡ suc (length c.loop-i.levels) = c.in_ok-raise_one.ensures.height in
    let made : c.loop-i.made ≤ c.loop-i.i = c.loop-i.invariant.made in
    let before : count_lows (waiting_of c.loop-i.levels) ≤ count_lows (waiting_of c.args.levels.now) + c.loop-i.made = c.loop-i.invariant.few in
    let after : count_lows (waiting_of c.raise_one.new.levels) ≤ count_lows (waiting_of c.loop-i.levels) + 1 = c.in_ok-raise_one.ensures.few in
    record {
      height = omega (arith, height, at);
      more = λ low. more_then c.args.levels.now c.loop-i.levels c.raise_one.new.levels c.args.level low (c.loop-i.invariant.more low) (c.in_ok-raise_one.ensures.more c.args.level low (omega (arith, at, within)));
      made = omega (arith, made);
      bound = omega (arith, made, within, level);
      few = omega (arith, before, after);
    }
