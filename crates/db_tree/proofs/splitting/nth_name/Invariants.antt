use Rattle.std.proofs.Common.{◌≡◌}
use Rattle.std.specs.List.{slice_get}
use Rattle.db_tree.proofs.splitting.nth_name.Given as goal

abbrev pub invariant-loop-name : goal.invariant-loop-name
invariant-loop-name l = slice_get l.name-iterator l.left ≡ slice_get l.initial.name-iterator l.initial.left
