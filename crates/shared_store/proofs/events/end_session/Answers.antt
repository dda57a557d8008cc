use Rattle.std.proofs.Common.{refl}
use Rattle.store_model.specs.declared.event.Event.TheVariants.{End}
use Rattle.je_answers.specs.After.{after_events}
use Rattle.shared_store.proofs.RunLaws.{run_on}
use Rattle.shared_store.proofs.events.end_session.Goals as goal

pub returns : goal.returns
returns g c = λ out run.
    run_on g.D.Disk.meaning c.args.environment.now c.end_session.new.self out run (End c.args.session) refl (c.end_session.ensures.goes_on run.most (after_events run.st run.journal) run.here)
    (λ observed. c.end_session.ensures.crash observed run.most run.st run.start run.journal run.here (run.guarded observed)) (c.end_session.ensures.bounds run.bounds)
