use Rattle.std.proofs.Common.{◌<◌, ◌^◌, ℕ, List, drop}
use Rattle.std.specs.List.{AllByRecursion}
use Rattle.log_trees.specs.Placed.{Placed}
use Rattle.recovery_je.specs.LogRead.{AreStanding}
use Rattle.recovery_je.specs.Putting.{IsIn, FitsRedo}
use Rattle.recovery_je.proofs.FitLaws.{AreLeft}
use Rattle.recovery_je.proofs.RedoingLaws.{IsTaking}
use Rattle.recovery_je.proofs.redoing.take_each.Given as goal

abbrev pub invariant-loop-at : goal.invariant-loop-at
invariant-loop-at g l = (all : List Placed) → AreStanding l.number.0 l.bytes l.offsets all → record {
  left : List Placed;
  standing : AreStanding l.number.0 l.bytes (drop l.at-index l.offsets) left;
  redo : IsTaking l.redo all left (g.T.Loads.stored l.initial.going.trees) l.initial.going.waiting (g.T.Loads.stored l.going.trees) l.going.waiting;
  fits : (es : List Placed) (base : ℕ) → base < 2 ^ 64 → AllByRecursion (IsIn es base) all → FitsRedo g.T.Loads.fits es base l.initial.going.trees l.initial.going.waiting →
      AreLeft (FitsRedo g.T.Loads.fits es base l.going.trees l.going.waiting) (IsIn es base) (λ (p : Placed). Unit {0}) left;
}
