use Rattle.jalibsuk.proofs.env.Env.seek_index.Goals as goal

pub returns-clause-calls : goal.returns-clause-calls
returns-clause-calls g c = (c.move_cursor.result, c.move_cursor.ensures.gives, c.found_in_index_of.ensures)
