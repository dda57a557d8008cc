use Rattle.std.proofs.Common.{refl}
use Rattle.environment.specs.Calls.{resumed_by}
use Rattle.je_answers.specs.After.{after_events}
use Rattle.shared_store.proofs.RunLaws.{resumed}
use Rattle.shared_store.proofs.events.resume_next.Goals as goal

pub resume-requires-clause-here : goal.resume-requires-clause-here
resume-requires-clause-here g c =
    let run = c.requires.1 in
    (run.most, after_events run.st run.journal, c.in_ok-session._line, run.here, c.in_ok-session.ensures.may run.most (after_events run.st run.journal) run.here)

pub returns : goal.returns
returns g c = λ out run.
    let may = c.in_ok-session.ensures.may run.most (after_events run.st run.journal) run.here in
    let line = c.in_ok-session._line in
    resumed g.D.Disk.meaning c.args.environment.now c.resume.new.self out run c.in_ok-session.session (resumed_by c.in_ok-session.session line) (λ o. refl) c.resume.result
    (c.resume.ensures.goes_on run.most (after_events run.st run.journal) line run.here may)
    (λ observed. c.resume.ensures.crash observed run.most run.st run.start run.journal line run.here may (run.guarded observed)) c.resume.ensures.bounds
