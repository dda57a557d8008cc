use Rattle.std.proofs.Common.{sym, subst}
use Rattle.db_catalog.specs.Planning.{IsCatalogLog}
use Rattle.db_catalog.proofs.PlanningLaws.{planned_logged}
use Rattle.je_order.proofs.Results.{if_ok}
use Rattle.db_catalog.proofs.planning.catalog_changes.Goals as goal

pub returns-clause-planned : goal.returns-clause-planned
returns-clause-planned g c =
    let view = c.args.view.now in
    let store = g.V.CatalogView.seen view in
    let change = c.args.change.now in
    if_ok c.changes_of.result (λ logged is. λ call rest h. subst (IsCatalogLog store (g.V.CatalogView.record_of view) c.args.number change) (sym is) (planned_logged store (g.V.CatalogView.record_of view) (g.V.CatalogView.laws view) c.args.number call change rest h)) c.changes_of.ensures
