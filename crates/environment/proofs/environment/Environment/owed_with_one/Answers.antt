use Rattle.std.proofs.Common.{ℕ, ◌+◌, ap}
use Rattle.environment.proofs.environment.Environment.owed_with_one.Goals as goal

pub returns : goal.returns
returns g c = λ st at. ap (λ (n : ℕ). n + 1) (c.owing-owing.ensures st at)
