use Rattle.je_answers.specs.After.{after_events}
use Rattle.shared_store.proofs.RunLaws.{ended_sync, is_valid}
use Rattle.shared_store.proofs.events.end_sync.Goals as goal

pub returns-in-Durable : goal.returns-in-Durable
returns-in-Durable g c =
    let run = c.requires in
    let valid = is_valid _ _ c.is_some.ensures c.if-is_some.false (c.fault.ensures run.most (after_events run.st run.journal) run.here) in
    ended_sync g.D.Disk.meaning c.args.environment.now c.sync_end.new.self c.args.out run c.sync_end.result valid
    (c.sync_end.ensures.ends run.most (after_events run.st run.journal) run.here valid run.sync)
    (λ observed. c.sync_end.ensures.crash observed run.most run.st run.start run.journal run.here valid run.sync (run.guarded observed)) (c.sync_end.ensures.bounds run.bounds)

pub returns-in_default : goal.returns-in_default
returns-in_default g c =
    let run = c.requires in
    let valid = is_valid _ _ c.is_some.ensures c.if-is_some.false (c.fault.ensures run.most (after_events run.st run.journal) run.here) in
    ended_sync g.D.Disk.meaning c.args.environment.now c.sync_end.new.self c.args.out run c.sync_end.result valid
    (c.sync_end.ensures.ends run.most (after_events run.st run.journal) run.here valid run.sync)
    (λ observed. c.sync_end.ensures.crash observed run.most run.st run.start run.journal run.here valid run.sync (run.guarded observed)) (c.sync_end.ensures.bounds run.bounds)
