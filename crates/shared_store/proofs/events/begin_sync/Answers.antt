use Rattle.je_answers.specs.After.{after_events}
use Rattle.shared_store.proofs.RunLaws.{begun_sync, failed_sync, is_valid}
use Rattle.shared_store.proofs.events.begin_sync.Goals as goal

pub returns-in_err-job-clause-failed : goal.returns-in_err-job-clause-failed
returns-in_err-job-clause-failed g c = λ out run none.
    let valid = is_valid _ _ c.is_some.ensures c.if-is_some.false (c.fault.ensures run.most (after_events run.st run.journal) run.here) in
    failed_sync g.D.Disk.meaning c.args.environment.now c.sync_begin.new.self out run valid (c.in_err-job.ensures.begins run.most (after_events run.st run.journal) run.here valid)
    (λ observed. c.in_err-job.ensures.crash observed run.most run.st run.start run.journal valid (run.guarded observed)) (c.sync_begin.ensures.bounds run.bounds)

pub returns-clause-begun : goal.returns-clause-begun
returns-clause-begun g c = λ out run.
    let valid = is_valid _ _ c.is_some.ensures c.if-is_some.false (c.fault.ensures run.most (after_events run.st run.journal) run.here) in
    begun_sync g.D.Disk.meaning c.args.environment.now c.sync_begin.new.self out run (record { number = c.number-number.result; commits = c.commits-commits.result }) valid
    (c.commits-commits.ensures run.most (after_events run.st run.journal) run.here)
    (c.in_ok-job.ensures.begins run.most (after_events run.st run.journal) run.here valid)
    (λ observed. c.in_ok-job.ensures.crash observed run.most run.st run.start run.journal valid (run.guarded observed)) (c.sync_begin.ensures.bounds run.bounds)
