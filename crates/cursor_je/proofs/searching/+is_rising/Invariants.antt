use Rattle.std.proofs.Common.{length}
use Rattle.cursor_je.proofs.searching.+is_rising.Given as goal

-- the records that are left
abbrev pub decreases-is_rising : goal.decreases-is_rising
decreases-is_rising l = length l.pairs.now
