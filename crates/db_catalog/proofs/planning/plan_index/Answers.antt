use Rattle.std.proofs.Common.{◌∙◌}
use Rattle.je_order.proofs.Results.{if_ok}
use Rattle.db_catalog.proofs.PlanningLaws.{index_made}
use Rattle.db_catalog.proofs.planning.plan_index.Goals as goal

pub returns : goal.returns
returns g c =
    let view = c.args.view.now in
    if_ok c.create_index_by.result
    (λ plan is. is ∙ index_made (g.V.CatalogView.seen view) (g.V.CatalogView.record_of view) (g.V.CatalogView.laws view) c.args.db.now c.args.index.now)
    c.create_index_by.ensures
