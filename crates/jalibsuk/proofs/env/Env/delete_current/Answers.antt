use Rattle.std.proofs.Common.{refl}
use Rattle.jalibsuk.proofs.env.Env.delete_current.Goals as goal

pub returns-clause-calls : goal.returns-clause-calls
returns-clause-calls g c = (c.give_call.result, c.give_call.ensures.gives _ refl, c.done_of.ensures)
