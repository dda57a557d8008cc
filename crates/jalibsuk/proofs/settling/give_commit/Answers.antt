use Rattle.jalibsuk.proofs.settling.give_commit.Goals as goal

pub returns-clause-asked : goal.returns-clause-asked
returns-clause-asked g c = (c.ask-answered.result, c.ask-answered.ensures.stepped, c.stage_of-stage.ensures)
