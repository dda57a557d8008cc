use Rattle.jalibsuk.proofs.checkpointing.end_checkpoint.Goals as goal

pub returns-clause-ends : goal.returns-clause-ends
returns-clause-ends g c = (c.turn.result, c.turn.ensures.turned, c.checkpoint_ended.ensures)
