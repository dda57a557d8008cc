use Rattle.std.proofs.Common.{◌/◌, ◌^◌, ap}
use Rattle.je_lsn.proofs.lsn.Lsn.file.Goals as goal

pub returns : goal.returns
returns c = ap (λ n. n / 2 ^ 32) c.self.view_is
