use Rattle.std.proofs.Common.{◌≡◌, ◌+◌, nat_le, drop}
use Rattle.std.specs.List.{count_by}
use Rattle.log_trees.specs.Placed.{Placed}
use Rattle.recovery_je.specs.LogRead.{entries_of_files}
use Rattle.recovery_je.proofs.redo_count.count_files.Given as goal

abbrev pub invariant-loop-file : goal.invariant-loop-file
invariant-loop-file l =
    l.count + count_by (λ (p : Placed). nat_le l.redo p.0) (entries_of_files (drop l.file-index l.files)) ≡ count_by (λ (p : Placed). nat_le l.redo p.0) (entries_of_files l.files)
