use Rattle.std.proofs.Common.{◌<◌, ◌≤◌, ◌∙◌, length, arith}
use Rattle.active_txns.proofs.MarkSteps.{mark_here, mark_ends, marked_alone}
use Rattle.active_txns.proofs.marking.mark_in.Goals as goal

pub returns-then-actives-at-clause-first : goal.returns-then-actives-at-clause-first
returns-then-actives-at-clause-first c =
    let within : c.loop-at.at < length c.loop-at.actives = omega (arith, c.loop-at-test.true, c.loop-at.auto.actives) in
    mark_here c.args.session c.args.cycle c.loop-at.actives c.args.actives.now c.loop-at.at c.index-actives-at.result c.index-actives-at-then-actives-at.result within c.if-actives-at.true c.loop-at.invariant

pub returns-then-actives-at-clause-marked : goal.returns-then-actives-at-clause-marked
returns-then-actives-at-clause-marked c =
    let within : c.loop-at.at < length c.loop-at.actives = omega (arith, c.loop-at-test.true, c.loop-at.auto.actives) in
    λ own line. mark_here c.args.session c.args.cycle c.loop-at.actives c.args.actives.now c.loop-at.at c.index-actives-at.result c.index-actives-at-then-actives-at.result within c.if-actives-at.true c.loop-at.invariant
    ∙ marked_alone c.args.session line c.args.cycle c.args.actives.now own

pub returns-clause-first : goal.returns-clause-first
returns-clause-first c =
    let past : length c.loop-at.actives ≤ c.loop-at.at = omega (arith, c.loop-at-test.false, c.loop-at.auto.actives) in
    mark_ends c.args.session c.args.cycle c.loop-at.actives c.args.actives.now c.loop-at.at past c.loop-at.invariant

pub returns-clause-marked : goal.returns-clause-marked
returns-clause-marked c =
    let past : length c.loop-at.actives ≤ c.loop-at.at = omega (arith, c.loop-at-test.false, c.loop-at.auto.actives) in
    λ own line. mark_ends c.args.session c.args.cycle c.loop-at.actives c.args.actives.now c.loop-at.at past c.loop-at.invariant
    ∙ marked_alone c.args.session line c.args.cycle c.args.actives.now own
