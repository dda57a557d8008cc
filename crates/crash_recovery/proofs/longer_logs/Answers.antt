use Rattle.crash_recovery.proofs.RisingLsns.{logs_lie_below, appended_rise}
use Rattle.crash_recovery.proofs.LongerLogs.{longer_is_named, longer_recovers}
use Rattle.crash_recovery.proofs.longer_logs.Goals as goal

pub returns : goal.returns
returns c = record { below = logs_lie_below; rise = appended_rise; named = longer_is_named; recovers = longer_recovers }
