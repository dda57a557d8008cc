use Rattle.std.proofs.Common.{◌≡◌, ◌≤◌, ◌*◌, take}
use Rattle.check_printer.specs.CheckText.{count_all_lines}
use Rattle.check_printer.proofs.printing.count_findings.Given as goal

-- the lines of those so far
abbrev pub invariant-loop-k : goal.invariant-loop-k
invariant-loop-k l = (l.count ≡ count_all_lines (take l.k l.findings)) × (l.count ≤ l.k * 4294967296)
