use Rattle.db_tree.proofs.Longer.{longer}
use Rattle.db_tree.proofs.Marking.{marked_or_split, committed}
use Rattle.db_tree.proofs.Logging.{logged, raised}
use Rattle.db_tree.proofs.SplitLaws.{by_name}
use Rattle.db_tree.proofs.laws.trees_fit_their_log.Goals as goal

pub returns-clause-longer : goal.returns-clause-longer
returns-clause-longer c = longer

pub returns-clause-marked : goal.returns-clause-marked
returns-clause-marked c = marked_or_split

pub returns-clause-committed : goal.returns-clause-committed
returns-clause-committed c = committed

pub returns-clause-logged : goal.returns-clause-logged
returns-clause-logged c = logged

pub returns-clause-raised : goal.returns-clause-raised
returns-clause-raised c = raised

pub returns-clause-by_name : goal.returns-clause-by_name
returns-clause-by_name c = by_name
