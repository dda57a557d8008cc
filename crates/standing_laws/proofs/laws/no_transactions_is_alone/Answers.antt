use Rattle.standing_laws.proofs.AloneRight.{no_transactions-is_alone}
use Rattle.standing_laws.proofs.laws.no_transactions_is_alone.Goals as goal

pub returns : goal.returns
returns c = no_transactions-is_alone
