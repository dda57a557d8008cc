use Rattle.std.proofs.Common.{◌≤◌, ℕ, sym, subst, ◌∙◌}
use Rattle.std.proofs.lemmas.Option.{none-some}
use Rattle.std.proofs.Math.Nat.{le_refl}
use Rattle.db_tree.specs.Stored.{AreQuiet}
use Rattle.in_tree.proofs.Checked.{none_there, no_tree}
use Rattle.in_tree.proofs.StoredLaws.{none_quiet}
use Rattle.in_tree.proofs.Waits.{none_wait}
use Rattle.in_tree.proofs.loaded_trees.LoadedTrees.new.Goals as goal

pub invariant_of-result : goal.invariant_of-result
invariant_of-result c = record {
  formed = record {
    quiet = λ d. subst AreQuiet (sym (none_there c.new.result.forest d (c.new.ensures.none d))) none_quiet;
    parts = λ d tree is. absurd (none-some tree (sym (no_tree c.new.result.forest d (c.new.ensures.none d)) ∙ is));
  };
  waits = subst (λ (n : ℕ). n ≤ 0) (sym (none_wait c.new.result.forest (λ d. no_tree c.new.result.forest d (c.new.ensures.none d)))) (le_refl 0);
}
