use Rattle.crash_recovery.proofs.Commits.{kept_are_within, commits_stay, all_are_committed}
use Rattle.crash_recovery.proofs.commits_are_counted.Goals as goal

pub returns : goal.returns
returns c = record { within = kept_are_within; stay = commits_stay; all = all_are_committed }
