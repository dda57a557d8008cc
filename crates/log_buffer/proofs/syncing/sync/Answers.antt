use Rattle.std.proofs.Common.{rules}
use Rattle.log_buffer.proofs.syncing.sync.Goals as goal

pub returns-in-Ok-clause-done : goal.returns-in-Ok-clause-done
returns-in-Ok-clause-done g c = search rules
