use Rattle.store_model.specs.declared.step.Step.TheVariants.{Finish}
use Rattle.jalibsuk.specs.Methods.{Syncs}
use Rattle.jalibsuk.specs.Checkpointed.{Turns, checkpoint_ended}
use Rattle.jalibsuk.proofs.CheckpointLaws.{done_in_turn, stopped_in_turn}
use Rattle.jalibsuk.proofs.checkpointing.end_and_sync.Goals as goal

pub returns-in-Ok-clause-ends : goal.returns-in-Ok-clause-ends
returns-in-Ok-clause-ends g c =
    done_in_turn (Turns g.D.Disk.meaning Finish checkpoint_ended) (Syncs g.D.Disk.meaning) _ _ _ _ _ _ c.in-Ok.is c.end_checkpoint.ensures.ends c.sync_all.ensures.syncs

pub returns-in-Err-clause-ends : goal.returns-in-Err-clause-ends
returns-in-Err-clause-ends g c = stopped_in_turn (Turns g.D.Disk.meaning Finish checkpoint_ended) (Syncs g.D.Disk.meaning) _ _ _ _ c.in-Err.is c.end_checkpoint.ensures.ends
