use Rattle.log_buffer.proofs.GrowthLaws.{appended_is_placed, appended_are_placed}
use Rattle.log_buffer.proofs.LastEntry.{appended_is_last}
use Rattle.log_buffer.proofs.laws.entries_go_last.Goals as goal

pub returns-clause-last : goal.returns-clause-last
returns-clause-last c = appended_is_last

pub returns-clause-placed : goal.returns-clause-placed
returns-clause-placed c = appended_is_placed

pub returns-clause-all : goal.returns-clause-all
returns-clause-all c = appended_are_placed
