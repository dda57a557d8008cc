use Rattle.txn_log.proofs.Giving.{changes_give, transaction_gives}
use Rattle.txn_log.proofs.Recovering.{changes_recover_same, transaction_is_recovered}
use Rattle.txn_log.proofs.logs_go_on.Goals as goal

pub returns : goal.returns
returns c = record { changes = changes_give; changes_recover = changes_recover_same; transaction = transaction_gives; transaction_recovers = transaction_is_recovered }
