use Rattle.std.proofs.Common.{refl}
use Rattle.jalibsuk.proofs.env.Env.shut.Goals as goal

pub returns-clause-gives : goal.returns-clause-gives
returns-clause-gives g c = c.give_call.ensures.gives _ refl
