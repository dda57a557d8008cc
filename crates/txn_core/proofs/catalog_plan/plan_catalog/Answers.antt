use Rattle.std.proofs.Common.{◌∙◌, ap, sym}
use Rattle.store_model.specs.Evaluation.{Outcome}
use Rattle.txn_core.proofs.PlanParts.{first_is}
use Rattle.txn_core.proofs.catalog_plan.plan_catalog.Goals as goal

pub returns : goal.returns
returns g c =
    let first = first_is c.as_slice.result.now c.change-item.result c.in-len1-up.len_at_least c.change-item.is in
    (c.change-item.result, first.0, sym (ap (λ (o : Outcome). o.changes) c.in_ok-planned.ensures) ∙ sym c.as_slice.ensures ∙ first.1, c.in_ok-log_catalog-in-len1-up.ensures)
