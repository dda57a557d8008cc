use Rattle.tree_nodes.proofs.due_numbers.+settle.Given as goal

abbrev pub decreases-settle : goal.decreases-settle
decreases-settle l = l.place
