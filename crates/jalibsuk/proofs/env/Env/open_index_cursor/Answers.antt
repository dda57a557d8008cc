use Rattle.jalibsuk.proofs.env.Env.open_index_cursor.Goals as goal

pub returns-clause-opens : goal.returns-clause-opens
returns-clause-opens g c = c.open_cursor.ensures.opens
