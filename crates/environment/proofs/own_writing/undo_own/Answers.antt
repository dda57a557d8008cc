use Rattle.std.proofs.Common.{true}
use Rattle.environment.proofs.own_writing.undo_own.Goals as goal

pub give_up-requires : goal.give_up-requires
give_up-requires c =
    let r = c.requires in
    (true, r.0, r.1, r.3, r.4, c.set_back_own.ensures.taken true r.0 r.1 r.3 r.2 r.5.counts_are r.5.taken)

pub returns : goal.returns
returns c a needs more st is p = c.give_up.ensures.stands true a needs st is (c.set_back_own.ensures.taken true a needs st more p.counts_are p.taken)
