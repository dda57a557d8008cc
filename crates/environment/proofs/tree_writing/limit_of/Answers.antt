-- Where changes meet a limit, nothing is changed.
use Rattle.engine.proofs.LogLaws.{trees_left_same}
use Rattle.environment.proofs.tree_writing.limit_of.Goals as goal

pub returns-in_err-find_limit-clause-same : goal.returns-in_err-find_limit-clause-same
returns-in_err-find_limit-clause-same g c = trees_left_same c.args.trees.now c.find_limit.new.self c.find_limit.ensures.same c.find_limit.ensures.trees

pub returns-in-Some-Full-clause-same : goal.returns-in-Some-Full-clause-same
returns-in-Some-Full-clause-same g c = trees_left_same c.args.trees.now c.find_limit.new.self c.find_limit.ensures.same c.find_limit.ensures.trees

pub returns-in_default-clause-same : goal.returns-in_default-clause-same
returns-in_default-clause-same g c = trees_left_same c.args.trees.now c.find_limit.new.self c.find_limit.ensures.same c.find_limit.ensures.trees

pub returns-in_default-2-clause-same : goal.returns-in_default-2-clause-same
returns-in_default-2-clause-same g c = trees_left_same c.args.trees.now c.find_limit.new.self c.find_limit.ensures.same c.find_limit.ensures.trees
