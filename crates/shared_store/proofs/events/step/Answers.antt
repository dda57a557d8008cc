use Rattle.std.proofs.Common.{refl}
use Rattle.je_answers.specs.After.{after_events}
use Rattle.environment.specs.Calls.{called}
use Rattle.shared_store.proofs.RunLaws.{stepped}
use Rattle.shared_store.proofs.events.step.Goals as goal

pub returns : goal.returns
returns g c = λ out run.
    stepped g.D.Disk.meaning c.args.environment.now c.step.new.self out run (called c.args.session 1 c.args.call.now) (λ o. refl) c.step.result
    (c.step.ensures.goes_on run.most (after_events run.st run.journal) run.here)
    (λ observed. c.step.ensures.crash observed run.most run.st run.start run.journal run.here (run.guarded observed)) c.step.ensures.bounds
