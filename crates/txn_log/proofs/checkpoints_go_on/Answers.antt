use Rattle.txn_log.proofs.CheckpointLaws.{neutrals_are_given, neutrals_are_recovered, tried_neutrals_are_recovered, end_is_given, end_is_recovered, tried_end_is_recovered}
use Rattle.txn_log.proofs.checkpoints_go_on.Goals as goal

pub returns-clause-neutrals : goal.returns-clause-neutrals
returns-clause-neutrals g c = neutrals_are_given g.D.Disk.meaning

pub returns-clause-neutrals_recover : goal.returns-clause-neutrals_recover
returns-clause-neutrals_recover g c = neutrals_are_recovered g.D.Disk.meaning

pub returns-clause-neutrals_tried : goal.returns-clause-neutrals_tried
returns-clause-neutrals_tried g c = tried_neutrals_are_recovered g.D.Disk.meaning

pub returns-clause-end : goal.returns-clause-end
returns-clause-end g c = end_is_given g.D.Disk.meaning

pub returns-clause-end_recovers : goal.returns-clause-end_recovers
returns-clause-end_recovers g c = end_is_recovered g.D.Disk.meaning

pub returns-clause-end_tried : goal.returns-clause-end_tried
returns-clause-end_tried g c = tried_end_is_recovered g.D.Disk.meaning
