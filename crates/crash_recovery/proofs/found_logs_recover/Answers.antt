use Rattle.crash_recovery.proofs.FoundLogs.{found_logs_recover}
use Rattle.crash_recovery.proofs.found_logs_recover.Goals as goal

pub returns : goal.returns
returns c = found_logs_recover
