use Rattle.log_meaning.proofs.Found.{opened_is_begun}
use Rattle.log_meaning.proofs.logs_begin.Goals as goal

pub returns : goal.returns
returns c = opened_is_begun
