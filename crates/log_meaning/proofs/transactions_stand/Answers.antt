use Rattle.log_meaning.proofs.Appending.{lone_are_free, changes_stand, transactions_stand, neutrals_stand, stands_alike}
use Rattle.log_meaning.proofs.transactions_stand.Goals as goal

pub returns : goal.returns
returns c = record { lone = lone_are_free; changes = changes_stand; whole = transactions_stand; neutrals = neutrals_stand; alike = stands_alike }
