use Rattle.indexed_standings.proofs.Committing.{commits-keep_up}
use Rattle.indexed_standings.proofs.laws.commits_keep_up.Goals as goal

pub returns : goal.returns
returns c = commits-keep_up
