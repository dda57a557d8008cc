use Rattle.txn_views.proofs.PlanLaws.{outcomes_are_models}
use Rattle.txn_views.proofs.laws.outcomes_are_models.Goals as goal

pub returns : goal.returns
returns c = outcomes_are_models
