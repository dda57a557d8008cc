use Rattle.store_model.specs.declared.step.Step.TheVariants.{Finish}
use Rattle.jalibsuk.specs.Methods.{Syncs}
use Rattle.jalibsuk.specs.Checkpointed.{FlushesAll, InTurn, Turns, checkpoint_ended}
use Rattle.jalibsuk.proofs.CheckpointLaws.{done_in_turn, stopped_in_turn}
use Rattle.jalibsuk.proofs.checkpointing.flush_and_end.Goals as goal

pub returns-in-Ok-clause-flushes : goal.returns-in-Ok-clause-flushes
returns-in-Ok-clause-flushes g c =
    done_in_turn (FlushesAll g.D.Disk.meaning) (InTurn (Turns g.D.Disk.meaning Finish checkpoint_ended) (Syncs g.D.Disk.meaning)) _ _ _ _ _ _ c.in-Ok.is c.flush_all.ensures.flushes c.end_and_sync.ensures.ends

pub returns-in-Err-clause-flushes : goal.returns-in-Err-clause-flushes
returns-in-Err-clause-flushes g c =
    stopped_in_turn (FlushesAll g.D.Disk.meaning) (InTurn (Turns g.D.Disk.meaning Finish checkpoint_ended) (Syncs g.D.Disk.meaning)) _ _ _ _ c.in-Err.is c.flush_all.ensures.flushes
