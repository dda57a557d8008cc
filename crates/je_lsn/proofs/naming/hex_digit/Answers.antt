use Rattle.je_lsn.proofs.FileNames.{digit-letter}
use Rattle.je_lsn.proofs.naming.hex_digit.Goals as goal

pub returns-else-value-le9-clause-digit : goal.returns-else-value-le9-clause-digit
returns-else-value-le9-clause-digit c = digit-letter c.args.value c.if-value-le9.false
