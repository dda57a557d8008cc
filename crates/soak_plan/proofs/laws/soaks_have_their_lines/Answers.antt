use Rattle.soak_plan.proofs.RoundLaws.{soak_length}
use Rattle.soak_plan.proofs.laws.soaks_have_their_lines.Goals as goal

pub returns : goal.returns
returns c = soak_length
