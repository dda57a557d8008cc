use Rattle.log_replay.proofs.CountLaws.{counts_are_changed}
use Rattle.log_replay.proofs.TransactionLaws.{transactions_are_kept, stores_are_changed, numbers_are_changed}
use Rattle.log_replay.proofs.laws.transactions_are_kept.Goals as goal

pub returns-clause-kept : goal.returns-clause-kept
returns-clause-kept c = transactions_are_kept

pub returns-clause-store : goal.returns-clause-store
returns-clause-store c = stores_are_changed

pub returns-clause-numbers : goal.returns-clause-numbers
returns-clause-numbers c = numbers_are_changed

pub returns-clause-counts : goal.returns-clause-counts
returns-clause-counts c = counts_are_changed
