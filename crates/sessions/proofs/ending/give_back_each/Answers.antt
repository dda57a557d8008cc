use Rattle.sessions.proofs.Backs.{back_more}
use Rattle.sessions.proofs.ending.give_back_each.Goals as goal

pub loop-active-preserved : goal.loop-active-preserved
loop-active-preserved c =
    back_more c.args.victims.now c.args.actives.now c.loop-active.active-index c.active-item.result _ _ _ c.loop-active-test.true c.active-item.is c.give_back_of.ensures c.loop-active.invariant
