use Rattle.store_model.specs.declared.step.Step.TheVariants.{Begin, Finish}
use Rattle.jalibsuk.specs.Methods.{Syncs}
use Rattle.jalibsuk.specs.Checkpointed.{FlushesAll, InTurn, Turns, checkpoint_begun, checkpoint_ended}
use Rattle.jalibsuk.proofs.CheckpointLaws.{done_in_turn, stopped_in_turn}
use Rattle.jalibsuk.proofs.checkpointing.checkpoint.Goals as goal

pub returns-in-Ok-clause-checkpoints : goal.returns-in-Ok-clause-checkpoints
returns-in-Ok-clause-checkpoints g c =
    done_in_turn (Turns g.D.Disk.meaning Begin checkpoint_begun) (InTurn (FlushesAll g.D.Disk.meaning) (InTurn (Turns g.D.Disk.meaning Finish checkpoint_ended) (Syncs g.D.Disk.meaning))) _ _ _ _ _ _ c.in-Ok.is
    c.begin_checkpoint.ensures.begins c.flush_and_end.ensures.flushes

pub returns-in-Err-clause-checkpoints : goal.returns-in-Err-clause-checkpoints
returns-in-Err-clause-checkpoints g c =
    stopped_in_turn (Turns g.D.Disk.meaning Begin checkpoint_begun) (InTurn (FlushesAll g.D.Disk.meaning) (InTurn (Turns g.D.Disk.meaning Finish checkpoint_ended) (Syncs g.D.Disk.meaning))) _ _ _ _ c.in-Err.is
    c.begin_checkpoint.ensures.begins
