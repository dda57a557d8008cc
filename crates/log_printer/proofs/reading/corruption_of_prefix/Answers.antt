use Rattle.std.proofs.Common.{rules}
use Rattle.log_printer.proofs.reading.corruption_of_prefix.Goals as goal

pub returns : goal.returns
returns c = search rules
