use Rattle.std.proofs.Common.{◌≡◌, ◌+◌, ◌≤◌, [], take, drop}
use Rattle.script_text.specs.Report.{commits_in}
use Rattle.script_text.proofs.counting.commits_of.Given as goal

-- the commits so far and those to come are all
abbrev pub invariant-loop-at : goal.invariant-loop-at
invariant-loop-at l = (l.commits ≤ l.at) × (l.commits + commits_in (take l.at l.events) (drop l.at l.events) ≡ commits_in [] l.events)
