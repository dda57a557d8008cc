use Rattle.std.proofs.Common.{inl, refl}
use Rattle.jalibsuk.proofs.beginning.begin.Goals as goal

pub returns-in_default-clause-begins : goal.returns-in_default-clause-begins
returns-in_default-clause-begins g c = inl (refl, refl, c.in_default.ensures.all refl)
