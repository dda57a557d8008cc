use Rattle.std.proofs.Common.{sym, ◌∙◌}
use Rattle.sessions.proofs.Ends.{ending_goes_on, ending_ends, ending_less}
use Rattle.sessions.proofs.ending.end_autos.Goals as goal

pub loop-session-smaller : goal.loop-session-smaller
loop-session-smaller c =
    ending_less c.args.victims.now c.loop-session.sessions c.end_one.new.sessions _ c.in-Some.session c.in-Some.txn c.actives.ensures (sym c.in-Some.is ∙ c.first_auto.ensures) c.end_one.ensures.actives

pub loop-session-preserved : goal.loop-session-preserved
loop-session-preserved c =
    ending_goes_on c.args.victims.now c.args.sessions.now c.loop-session.sessions c.end_one.new.sessions _ c.in-Some.session c.in-Some.txn c.actives.ensures (sym c.in-Some.is ∙ c.first_auto.ensures) c.end_one.ensures.stands c.loop-session.invariant

pub returns : goal.returns
returns c = record {
  stands = ending_ends c.args.victims.now c.args.sessions.now c.loop-session.sessions _ c.actives.ensures (sym c.in_default.is ∙ c.first_auto.ensures) c.loop-session.invariant;
}
