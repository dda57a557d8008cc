use Rattle.je_answers.proofs.AloneLaws.{calls-stay_alone}
use Rattle.je_answers.proofs.laws.calls_stay_alone.Goals as goal

pub returns : goal.returns
returns c = calls-stay_alone
