use Rattle.in_tree.proofs.logged_trees.LogTrees.new.Goals as goal

pub invariant_of-result : goal.invariant_of-result
invariant_of-result g c = record { ordered = c.into_trees.ensures.rising }
