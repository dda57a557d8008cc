use Rattle.std.proofs.Common.{refl}
use Rattle.je_lsn.proofs.lsn.Lsn.new.Goals as goal

pub returns : goal.returns
returns c = rw (c.from.ensures, c.from-2.ensures) refl
