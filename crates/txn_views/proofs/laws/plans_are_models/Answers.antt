use Rattle.txn_views.proofs.PlanLaws.{plans_are_models}
use Rattle.txn_views.proofs.laws.plans_are_models.Goals as goal

pub returns : goal.returns
returns c = plans_are_models
