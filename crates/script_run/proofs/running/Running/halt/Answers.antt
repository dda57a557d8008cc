use Rattle.std.proofs.Common.{true, true≢false}
use Rattle.script_run.proofs.GivenLaws.{all_fewer, given_fewer}
use Rattle.script_run.proofs.running.Running.halt.Goals as goal

pub returns-clause-given : goal.returns-clause-given
returns-clause-given g c = λ lines has.
    let x = c.args.self.now in
    given_fewer x.recorded.journal.items x.memory_ended x.stopped c.all_sessions-self.result x.steps_stopped true lines
    (λ s running. all_fewer x.stopped c.all_sessions-self.result s c.requires.flags.sessions c.all_sessions-self.ensures.each running) (λ going. absurd (true≢false going)) has
