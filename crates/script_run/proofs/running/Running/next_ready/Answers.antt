use Rattle.script_run.specs.UnderWay.{standing}
use Rattle.script_run.proofs.Resting.{next_is, none_is}
use Rattle.script_run.proofs.running.Running.next_ready.Goals as goal

pub returns-clause-next : goal.returns-clause-next
returns-clause-next g c = λ p under.
    let x = c.args.self.now.recorded in
    next_is p x c.next_ready.result (c.next_ready.ensures.first p.most (standing p x) under.running.here) (c.next_ready.ensures.may p.most (standing p x) under.running.here)

pub returns-clause-none : goal.returns-clause-none
returns-clause-none g c = λ p under none halted.
    let x = c.args.self.now.recorded in
    none_is p x c.next_ready.result (c.next_ready.ensures.first p.most (standing p x) under.running.here) none
