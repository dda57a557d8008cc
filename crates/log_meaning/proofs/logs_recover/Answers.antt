use Rattle.log_meaning.proofs.Leaving.{stands_leaves, recovers_first, recovers_push}
use Rattle.log_meaning.proofs.Opened.{read_files_leave}
use Rattle.log_meaning.proofs.logs_recover.Goals as goal

pub returns : goal.returns
returns c = record { read = read_files_leave; leaves = stands_leaves; first = recovers_first; push = recovers_push }
