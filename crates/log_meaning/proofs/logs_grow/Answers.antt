use Rattle.log_meaning.proofs.Standing.{stands_neutral, stands_put, stands_delete, stands_commit, stands_end}
use Rattle.log_meaning.proofs.logs_grow.Goals as goal

pub returns : goal.returns
returns c = record { neutral = stands_neutral; put = stands_put; delete = stands_delete; commit = stands_commit; end = stands_end }
