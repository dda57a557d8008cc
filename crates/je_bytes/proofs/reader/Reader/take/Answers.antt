use Rattle.std.proofs.Common.{refl}
use Rattle.je_bytes.proofs.Fields.{bytes_in-short}
use Rattle.je_bytes.proofs.reader.Reader.take.Goals as goal

pub returns-then-self-len-clause-short : goal.returns-then-self-len-clause-short
returns-then-self-len-clause-short c = bytes_in-short c.args.len c.self.inside.rest.now c.args.self.now c.self.view_is c.if-self-len.true

pub returns-then-self-len-clause-unchanged : goal.returns-then-self-len-clause-unchanged
returns-then-self-len-clause-unchanged c = refl
