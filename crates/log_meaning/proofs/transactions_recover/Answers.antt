use Rattle.log_meaning.proofs.Recovering.{checkpoints_stay, changes_recover, transactions_recover, neutrals_recover, commits_recover}
use Rattle.log_meaning.proofs.transactions_recover.Goals as goal

pub returns : goal.returns
returns c = record { checkpoint = checkpoints_stay; changes = changes_recover; whole = transactions_recover; neutrals = neutrals_recover; commits = commits_recover }
