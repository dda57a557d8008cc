use Rattle.std.proofs.Common.{drop}
use Rattle.std.specs.List.{AllByRecursion}
use Rattle.log_entry.specs.Items.{IsRoot}
use Rattle.in_tree.proofs.checkpointing.see_roots.Given as goal

abbrev pub invariant-loop-root : goal.invariant-loop-root
invariant-loop-root l = AllByRecursion IsRoot (drop l.root-index l.roots) → AllByRecursion IsRoot l.roots
