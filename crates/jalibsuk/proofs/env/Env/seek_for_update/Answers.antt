use Rattle.jalibsuk.proofs.env.Env.seek_for_update.Goals as goal

pub returns-clause-calls : goal.returns-clause-calls
returns-clause-calls g c = (c.move_cursor.result, c.move_cursor.ensures.gives, c.found_of.ensures)
