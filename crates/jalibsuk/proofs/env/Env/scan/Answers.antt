use Rattle.std.proofs.Common.{refl}
use Rattle.jalibsuk.proofs.env.Env.scan.Goals as goal

-- a refused scan leaves the environment as the beginning of its walk did
pub returns-in-Err : goal.returns-in-Err
returns-in-Err g c = ((refl, (λ w. tt), (c.in-Err.ensures.walks, c.in-Err.ensures.names)), record { refused = tt; walks = tt; names = tt; lent = tt })
