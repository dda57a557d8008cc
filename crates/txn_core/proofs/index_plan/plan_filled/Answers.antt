use Rattle.std.proofs.Common.{◌∙◌, ap, sym}
use Rattle.store_model.specs.Evaluation.{Outcome}
use Rattle.txn_core.proofs.PlanParts.{first_is}
use Rattle.txn_core.proofs.index_plan.plan_filled.Goals as goal

pub returns : goal.returns
returns g c =
    let first = first_is c.as_slice.result.now c.change-item.result c.in-len1-up.len_at_least c.change-item.is in (
      c.change-item.result,
      first.0,
      sym (ap (λ (o : Outcome). o.changes) c.in_ok-planned.ensures) ∙ sym c.as_slice.ensures ∙ first.1,
      c.in_ok-made-in-len1-up.made,
      c.in_ok-made-in-len1-up.ensures,
      c.in_ok-fill_index-in-len1-up.ensures,
    )
