use Rattle.log_meaning.proofs.Alike.{replayed_alike, read_alike}
use Rattle.log_meaning.proofs.plain_logs_are_replayed.Goals as goal

pub returns : goal.returns
returns c = record { replayed = replayed_alike; read = read_alike }
