use Rattle.std.proofs.Common.{length}
use Rattle.cursor_je.proofs.searching.+first_in.Given as goal

-- the records that are left
abbrev pub decreases-first_in : goal.decreases-first_in
decreases-first_in l = length l.pairs.now
