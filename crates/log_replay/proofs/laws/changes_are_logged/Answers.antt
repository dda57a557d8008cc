use Rattle.log_replay.proofs.TransactionLaws.{changed_by_any, logged_as_entries, records_may_be_logged, records_are_logged, entries_follow, sizes_of_any_numbers}
use Rattle.log_replay.proofs.laws.changes_are_logged.Goals as goal

pub returns-clause-any : goal.returns-clause-any
returns-clause-any c = changed_by_any

pub returns-clause-entries : goal.returns-clause-entries
returns-clause-entries c = logged_as_entries

pub returns-clause-follow : goal.returns-clause-follow
returns-clause-follow c = entries_follow

pub returns-clause-sizes : goal.returns-clause-sizes
returns-clause-sizes c = sizes_of_any_numbers

pub returns-clause-may : goal.returns-clause-may
returns-clause-may c = records_may_be_logged

pub returns-clause-records : goal.returns-clause-records
returns-clause-records c = records_are_logged
