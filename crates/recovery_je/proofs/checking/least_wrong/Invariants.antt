use Rattle.std.proofs.Common.{◌≡◌, drop, map, option_map}
use Rattle.log_replay.proofs.WrongLaws.{lesser_of_both}
use Rattle.recovery_je.specs.Checking.{as_found, wrong_among}
use Rattle.recovery_je.proofs.checking.least_wrong.Given as goal

abbrev pub invariant-loop-database : goal.invariant-loop-database
invariant-loop-database g l =
    lesser_of_both (option_map as_found l.found) (wrong_among (g.T.Loads.stored l.trees) (map as_found (drop l.database-index l.databases)))
    ≡ wrong_among (g.T.Loads.stored l.trees) (map as_found l.databases)
