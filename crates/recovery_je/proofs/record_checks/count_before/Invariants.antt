use Rattle.std.proofs.Common.{◌≡◌, ◌++◌, map, take, drop}
use Rattle.check_laws.specs.Parts.{put_by_number}
use Rattle.recovery_je.specs.Checking.{as_found}
use Rattle.recovery_je.proofs.record_checks.count_before.Given as goal

abbrev pub invariant-loop-other : goal.invariant-loop-other
invariant-loop-other l =
    (l.before ≡ l.other-index)
    × (put_by_number (as_found l.database) (map as_found l.databases) ≡ map as_found (take l.other-index l.databases) ++ put_by_number (as_found l.database) (map as_found (drop l.other-index l.databases)))
