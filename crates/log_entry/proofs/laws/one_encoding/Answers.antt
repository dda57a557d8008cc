use Rattle.log_entry.proofs.ReadingLaws.{one}
use Rattle.log_entry.proofs.laws.one_encoding.Goals as goal

pub returns : goal.returns
returns c = one
