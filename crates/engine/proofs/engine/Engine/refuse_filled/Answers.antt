use Rattle.engine.proofs.LogLaws.{trees_left_same}
use Rattle.engine.proofs.engine.Engine.refuse_filled.Goals as goal

pub returns-in_err-found-clause-same : goal.returns-in_err-found-clause-same
returns-in_err-found-clause-same g c = trees_left_same c.args.self.now.trees c.find_filling_limit.new.self c.find_filling_limit.ensures.same c.find_filling_limit.ensures.trees

pub returns-clause-same : goal.returns-clause-same
returns-clause-same g c = trees_left_same c.args.self.now.trees c.find_filling_limit.new.self c.find_filling_limit.ensures.same c.find_filling_limit.ensures.trees
