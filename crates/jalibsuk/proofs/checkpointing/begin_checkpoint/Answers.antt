use Rattle.jalibsuk.proofs.checkpointing.begin_checkpoint.Goals as goal

pub returns-clause-begins : goal.returns-clause-begins
returns-clause-begins g c = (c.turn.result, c.turn.ensures.turned, c.checkpoint_begun.ensures)
