use Rattle.std.proofs.Common.{refl, sym}
use Rattle.jalibsuk.proofs.env.Env.open_cursor.Goals as goal

pub returns-in-Ok-clause-opens : goal.returns-in-Ok-clause-opens
returns-in-Ok-clause-opens g c = (c.open_number.result, c.open_number.ensures.opens, sym c.in-Ok.is, refl)

pub returns-in-Err-clause-opens : goal.returns-in-Err-clause-opens
returns-in-Err-clause-opens g c = (c.open_number.result, c.open_number.ensures.opens, sym c.in-Err.is, tt)
