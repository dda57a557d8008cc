use Rattle.std.proofs.Common.{length, ◌-◌}
use Rattle.log_file.specs.Scanning.{IsScanned}
use Rattle.log_file.proofs.scanning.scan_behind.Given as goal

abbrev pub invariant-loop-entries : goal.invariant-loop-entries
invariant-loop-entries l = IsScanned l.bytes l.entries.items l.at l.last

abbrev pub decreases-loop-entries : goal.decreases-loop-entries
decreases-loop-entries l = length l.bytes - l.at
