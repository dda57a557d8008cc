use Rattle.txn_log.proofs.CommittingLaws.{own_may_be_committed}
use Rattle.txn_log.proofs.CountLaws.{records_are_counted, had_go_on, had_stay}
use Rattle.txn_log.proofs.own_changes_are_committed.Goals as goal

pub returns : goal.returns
returns c = record { committed = own_may_be_committed; counted = records_are_counted; go_on = had_go_on; stay = had_stay }
