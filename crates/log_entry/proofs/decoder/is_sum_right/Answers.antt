use Rattle.log_entry.proofs.DecodeSteps.{sum_tested}
use Rattle.log_entry.proofs.decoder.is_sum_right.Goals as goal

pub returns : goal.returns
returns c = sum_tested c.args.bytes.now c.args.len c.number_at.result c.adler32.result c.number_at.ensures c.adler32.ensures
