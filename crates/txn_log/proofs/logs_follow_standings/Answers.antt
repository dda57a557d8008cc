use Rattle.txn_log.proofs.AtStandingLaws.{named_are_on, changes_leave_log, transaction_leaves_log, own_commit_leaves_log, lone_commit_leaves_log}
use Rattle.txn_log.proofs.logs_follow_standings.Goals as goal

pub returns-clause-named : goal.returns-clause-named
returns-clause-named g c = named_are_on

pub returns-clause-changes : goal.returns-clause-changes
returns-clause-changes g c = changes_leave_log g.D.Disk.meaning

pub returns-clause-transaction : goal.returns-clause-transaction
returns-clause-transaction g c = transaction_leaves_log g.D.Disk.meaning

pub returns-clause-own : goal.returns-clause-own
returns-clause-own g c = own_commit_leaves_log g.D.Disk.meaning

pub returns-clause-lone : goal.returns-clause-lone
returns-clause-lone g c = lone_commit_leaves_log g.D.Disk.meaning
