use Rattle.embed_example.proofs.Answering.{usable_after}
use Rattle.embed_example.proofs.session.Session.answer.Goals as goal

-- src/session.rt:53:23
pub returns-in_err-outcome : goal.returns-in_err-outcome
returns-in_err-outcome g c =
    let usable = c.requires.here in
    record { here = usable_after _ _ _ _ _ c.step.result (c.step.ensures.goes_on usable.most usable.st usable.here) c.step.ensures.bounds }

-- src/session.rt:48:5
pub returns : goal.returns
returns g c =
    let usable = c.requires.here in
    record { here = usable_after _ _ _ _ _ c.step.result (c.step.ensures.goes_on usable.most usable.st usable.here) c.step.ensures.bounds }
