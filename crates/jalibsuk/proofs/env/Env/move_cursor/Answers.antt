use Rattle.jalibsuk.proofs.env.Env.move_cursor.Goals as goal

pub returns-clause-gives : goal.returns-clause-gives
returns-clause-gives g c = c.give_call.ensures.gives _ c.cur-call.ensures
