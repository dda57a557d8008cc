use Rattle.script_run.proofs.Ending.{none_alike, none_then}
use Rattle.script_run.proofs.EndLaws.{gained_then}
use Rattle.script_run.proofs.Standings.{settles_then}
use Rattle.script_run.proofs.recorded.Recorded.go_on.Goals as goal

pub returns-clause-goes_on : goal.returns-clause-goes_on
returns-clause-goes_on g c = λ p under next. c.follow.ensures.goes_on p (c.in_ok-awaited.ensures.goes_on p under next)

pub returns-clause-settles : goal.returns-clause-settles
returns-clause-settles g c = λ p under next.
    settles_then p c.in_ok-awaited.awaited c.args.self.now c.resume.new.self c.follow.new.self (c.in_ok-awaited.ensures.settles p under next) (c.follow.ensures.alike p).waiting c.follow.ensures.none

pub returns-clause-begins_none : goal.returns-clause-begins_none
returns-clause-begins_none g c = λ p under next.
    none_then p c.args.self.now c.resume.new.self c.follow.new.self (c.in_ok-awaited.ensures.begins_none p under next) (none_alike p c.resume.new.self c.follow.new.self (c.follow.ensures.alike p))

pub returns-clause-gained : goal.returns-clause-gained
returns-clause-gained g c = λ stopped was.
    gained_then stopped c.args.self.now.journal.items c.resume.new.self.journal.items c.follow.new.self.journal.items (c.in_ok-awaited.ensures.gained stopped tt) (c.follow.ensures.gained stopped)
