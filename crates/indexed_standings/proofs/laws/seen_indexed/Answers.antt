use Rattle.indexed_standings.proofs.Seeing.{seen-indexed}
use Rattle.indexed_standings.proofs.laws.seen_indexed.Goals as goal

pub returns : goal.returns
returns c = seen-indexed
