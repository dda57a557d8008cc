use Rattle.jalibsuk.proofs.env.Env.close_cursor.Goals as goal

pub returns-clause-calls : goal.returns-clause-calls
returns-clause-calls g c = (c.shut.result, c.shut.ensures.gives, c.done_of.ensures)
