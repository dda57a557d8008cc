use Rattle.std.proofs.Common.{arith}
use Rattle.log_entry.proofs.ReadingLaws.{found_if, only}
use Rattle.log_entry.proofs.decoder.decode.Goals as goal

pub returns-clause-found : goal.returns-clause-found
returns-clause-found c = found_if c.decode_front.result c.args.bytes.now (λ i. omega (arith, c.type_inv.bytes i)) c.decode_front.ensures

pub returns-clause-only : goal.returns-clause-only
returns-clause-only c = λ e p rest is lt same. only c.decode_front.result c.args.bytes.now e p rest c.decode_front.ensures is lt same
