use Rattle.txn_log.proofs.StayingLaws.{may_stay, may_stay_elsewhere}
use Rattle.txn_log.proofs.own_changes_stay.Goals as goal

pub returns : goal.returns
returns c = record { records = may_stay; elsewhere = may_stay_elsewhere }
