use Rattle.std.proofs.Common.{subst, sym}
use Rattle.std.proofs.lemmas.List.{drop_all}
use Rattle.std.specs.List.{AllByRecursion}
use Rattle.log_entry.specs.Items.{IsRoot}
use Rattle.db_tree.proofs.Ending.{next_left}
use Rattle.in_tree.proofs.checkpointing.see_roots.Goals as goal

pub loop-root-preserved : goal.loop-root-preserved
loop-root-preserved c = λ rest.
    c.loop-root.invariant (subst (AllByRecursion IsRoot) (sym (next_left c.args.roots.now c.loop-root.root-index c.root-item.result c.loop-root-test.true c.root-item.is)) (c.see_root.ensures, rest))

pub returns : goal.returns
returns c = c.loop-root.invariant (subst (AllByRecursion IsRoot) (sym (drop_all c.loop-root.root-index c.args.roots.now c.loop-root-test.false)) tt)
