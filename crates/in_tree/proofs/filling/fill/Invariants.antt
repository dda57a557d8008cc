use Rattle.std.proofs.Common.{drop}
use Rattle.in_tree.proofs.FillRows.{RowsLeft}
use Rattle.in_tree.proofs.filling.fill.Given as goal

-- the changes so far are in the tree
abbrev pub invariant-loop-row : goal.invariant-loop-row
invariant-loop-row l = RowsLeft l.fanout l.txn l.number l.rows (drop l.row-index l.rows) l.filled l.initial.place l.place
