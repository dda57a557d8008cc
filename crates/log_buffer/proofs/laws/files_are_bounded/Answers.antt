use Rattle.log_buffer.proofs.LogPositions.{are_bounded, all_after, appends_join}
use Rattle.log_buffer.proofs.laws.files_are_bounded.Goals as goal

pub returns-clause-bounded : goal.returns-clause-bounded
returns-clause-bounded c = are_bounded

pub returns-clause-rises : goal.returns-clause-rises
returns-clause-rises c = all_after

pub returns-clause-joins : goal.returns-clause-joins
returns-clause-joins c = appends_join
