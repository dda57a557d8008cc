use Rattle.std.proofs.Common.{true}
use Rattle.environment.proofs.own_writing.take_back.Goals as goal

pub answered-requires : goal.answered-requires
answered-requires c =
    let r = c.requires in
    (r.0, r.1, r.3, r.4, r.5, c.set_back_own.ensures.taken true r.0 r.1 r.3 r.2 r.6.counts_are r.6.taken)

pub returns : goal.returns
returns c a needs more st is level p = c.answered.ensures.stands a needs st is level (c.set_back_own.ensures.taken true a needs st more p.counts_are p.taken)
