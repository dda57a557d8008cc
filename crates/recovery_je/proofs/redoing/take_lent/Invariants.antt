use Rattle.std.proofs.Common.{◌<◌, ◌^◌, ℕ, List, drop}
use Rattle.std.specs.List.{AllByRecursion}
use Rattle.log_trees.specs.Placed.{Placed}
use Rattle.recovery_je.specs.LogRead.{entries_of_files}
use Rattle.recovery_je.specs.Putting.{IsIn, FitsRedo}
use Rattle.recovery_je.proofs.FitLaws.{AreLeft}
use Rattle.recovery_je.proofs.RedoingLaws.{IsTaking}
use Rattle.recovery_je.proofs.redoing.take_lent.Given as goal

abbrev pub invariant-loop-file : goal.invariant-loop-file
invariant-loop-file g l = record {
  redo : IsTaking l.redo (entries_of_files l.files) (entries_of_files (drop l.file-index l.files)) (g.T.Loads.stored l.initial.going.trees) l.initial.going.waiting (g.T.Loads.stored l.going.trees) l.going.waiting;
  fits : (es : List Placed) (base : ℕ) → base < 2 ^ 64 → AllByRecursion (IsIn es base) (entries_of_files l.files) → FitsRedo g.T.Loads.fits es base l.initial.going.trees l.initial.going.waiting →
      AreLeft (FitsRedo g.T.Loads.fits es base l.going.trees l.going.waiting) (IsIn es base) (λ (p : Placed). Unit {0}) (entries_of_files (drop l.file-index l.files));
}
