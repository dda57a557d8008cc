use Rattle.txn_log.proofs.BufferLaws.{changes_are_given, changes_are_recovered, tried_changes_are_recovered, transaction_is_given, commit_is_recovered, tried_commit_is_recovered}
use Rattle.txn_log.proofs.buffers_go_on.Goals as goal

pub returns-clause-changes : goal.returns-clause-changes
returns-clause-changes g c = changes_are_given g.D.Disk.meaning

pub returns-clause-changes_recover : goal.returns-clause-changes_recover
returns-clause-changes_recover g c = changes_are_recovered g.D.Disk.meaning

pub returns-clause-changes_tried : goal.returns-clause-changes_tried
returns-clause-changes_tried g c = tried_changes_are_recovered g.D.Disk.meaning

pub returns-clause-transaction : goal.returns-clause-transaction
returns-clause-transaction g c = transaction_is_given g.D.Disk.meaning

pub returns-clause-transaction_recovers : goal.returns-clause-transaction_recovers
returns-clause-transaction_recovers g c = commit_is_recovered g.D.Disk.meaning

pub returns-clause-transaction_tried : goal.returns-clause-transaction_tried
returns-clause-transaction_tried g c = tried_commit_is_recovered g.D.Disk.meaning
