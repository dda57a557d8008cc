use Rattle.std.proofs.Common.{rules, ◌≡◌, ◌<◌, ◌/◌, ◌^◌, ◌+◌, ◌-◌, drop, [], slice_set, arith}
use Rattle.std.proofs.lemmas.Grind.{common_steps}
use Rattle.text_out.proofs.DigitSteps.{onto_none, onto_step, fewer_before}
use Rattle.text_out.proofs.hexadecimal.write_hexadecimal.Goals as goal

pub loop-rest-init : goal.loop-rest-init
loop-rest-init c =
    let empty : drop 8 (slice_set c.args.into.now 7 c.digit_of.result) ≡ [] = grind (arith, common_steps) in
    record {
      within = search rules;
      len = search rules;
      few = search rules;
      first = search rules;
      last = onto_none c.args.number _ empty;
    }

pub loop-rest-preserved : goal.loop-rest-preserved
loop-rest-preserved c =
    let inv = c.loop-rest.invariant in
    let smaller : c.loop-rest.rest / 16 < 16 ^ (c.loop-rest.start - 1 + 1) = fewer_before c.loop-rest.rest c.loop-rest.start (search rules) inv.few in
    record {
      within = search rules;
      len = search rules;
      few = smaller;
      first = search rules;
      last = onto_step c.loop-rest.start c.loop-rest.rest 0 c.digit_of-in-loop-rest.result c.args.number c.loop-rest.into (search rules) (search rules) (search rules) inv.first inv.last;
    }
