use Rattle.std.proofs.Common.{◌≡◌, ℕ, List, true, drop}
use Rattle.log_trees.specs.Placed.{Placed}
use Rattle.record_tree.specs.Stored.{AreStoredStill}
use Rattle.recovery_je.proofs.FinishLaws.{IsMaking}
use Rattle.recovery_je.proofs.finishing.make_missing.Given as goal

abbrev pub invariant-loop-number : goal.invariant-loop-number
invariant-loop-number g l = record {
  making : IsMaking l.numbers (drop l.number-index l.numbers) (g.T.Loads.has_tree l.trees);
  same : AreStoredStill (g.T.Loads.stored l.initial.trees) (g.T.Loads.stored l.trees);
  fits : (es : List Placed) (base : ℕ) → g.T.Loads.fits l.initial.trees es base → g.T.Loads.fits l.trees es base;
  others : (d : ℕ) → g.T.Loads.has_tree l.initial.trees d ≡ true → g.T.Loads.has_tree l.trees d ≡ true;
}
