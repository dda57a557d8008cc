use Rattle.jalibsuk.proofs.env.Env.insert_at.Goals as goal

pub returns-clause-calls : goal.returns-clause-calls
returns-clause-calls g c = (c.give_call.result, c.give_call.ensures.gives _ c.put_at-call.ensures, c.done_of.ensures)
