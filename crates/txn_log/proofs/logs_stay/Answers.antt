use Rattle.txn_log.proofs.Giving.{still_gives, gives_same}
use Rattle.txn_log.proofs.logs_stay.Goals as goal

pub returns : goal.returns
returns c = record { still = still_gives; same = gives_same }
