use Rattle.active_txns.proofs.OwnMaps.{are_pushed}
use Rattle.active_txns.proofs.active_txns.ActiveTxns.push.Goals as goal
