use Rattle.jalibsuk.proofs.Usables.{usable_after}
use Rattle.jalibsuk.proofs.asking.ask.Goals as goal

-- src/asking.rt:19:1
pub returns-in-Ok-clause-usable : goal.returns-in-Ok-clause-usable
returns-in-Ok-clause-usable g c =
    let u = c.requires.usable in
    usable_after _ _ _ _ _ c.step.result (c.step.ensures.goes_on u.most u.st u.here) c.step.ensures.bounds

-- src/asking.rt:19:1
pub returns-in-Err-clause-usable : goal.returns-in-Err-clause-usable
returns-in-Err-clause-usable g c =
    let u = c.requires.usable in
    usable_after _ _ _ _ _ c.step.result (c.step.ensures.goes_on u.most u.st u.here) c.step.ensures.bounds
