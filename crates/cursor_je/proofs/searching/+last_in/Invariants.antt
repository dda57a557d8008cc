use Rattle.std.proofs.Common.{length}
use Rattle.cursor_je.proofs.searching.+last_in.Given as goal

-- the records that are left
abbrev pub decreases-last_in : goal.decreases-last_in
decreases-last_in l = length l.pairs.now
