use Rattle.std.proofs.Common.{◌≡◌, arith}
use Rattle.std.specs.Int.{w32, from_be_bytes}
use Rattle.je_bytes.proofs.Fields.{number_in-taken}
use Rattle.je_bytes.proofs.reader.Reader.u32.Goals as goal

pub returns-clause-ok : goal.returns-clause-ok
returns-clause-ok c =
    let is : c.read_u32.result ≡ from_be_bytes w32 c.in_ok-taken.taken.now = omega (arith, c.read_u32.ensures) in
    number_in-taken w32 c.read_u32.result c.args.self.now c.in_ok-taken.taken.now c.take.new.self c.in_ok-taken.ensures.ok is
