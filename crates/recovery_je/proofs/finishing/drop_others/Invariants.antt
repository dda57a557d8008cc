use Rattle.std.proofs.Common.{ℕ, List}
use Rattle.log_trees.specs.Placed.{Placed}
use Rattle.std.specs.Vec.Iter.{into_iter_items}
use Rattle.recovery_je.proofs.FinishLaws.{IsDropping}
use Rattle.recovery_je.proofs.finishing.drop_others.Given as goal

abbrev pub invariant-loop-db : goal.invariant-loop-db
invariant-loop-db g l = record {
  dropping : IsDropping l.numbers (into_iter_items l.db-iterator) (g.T.Loads.has_tree l.initial.trees) (g.T.Loads.has_tree l.trees) (g.T.Loads.stored l.initial.trees) (g.T.Loads.stored l.trees);
  fits : (es : List Placed) (base : ℕ) → g.T.Loads.fits l.initial.trees es base → g.T.Loads.fits l.trees es base;
}
