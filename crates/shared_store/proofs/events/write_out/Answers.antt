use Rattle.std.proofs.Common.{refl}
use Rattle.store_model.specs.declared.event.Event.TheVariants.{WriteOut}
use Rattle.je_answers.specs.After.{after_events}
use Rattle.shared_store.proofs.RunLaws.{run_on}
use Rattle.shared_store.proofs.events.write_out.Goals as goal

pub returns : goal.returns
returns g c = λ out run.
    run_on g.D.Disk.meaning c.args.environment.now c.write_out.new.self out run (WriteOut c.write_out.result) refl (c.write_out.ensures.goes_on run.most (after_events run.st run.journal) run.here)
    (λ observed. c.write_out.ensures.crash observed run.most run.st run.start run.journal run.here (run.guarded observed)) (c.write_out.ensures.bounds run.bounds)
