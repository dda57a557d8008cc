use Rattle.db_catalog.proofs.PlanningLaws.{seen_as}
use Rattle.db_catalog.proofs.found_db.find_db.Goals as goal

pub returns-clause-seen : goal.returns-clause-seen
returns-clause-seen g c =
    let view = c.args.view.now in
    seen_as (g.V.CatalogView.seen view) (g.V.CatalogView.record_of view) (g.V.CatalogView.laws view) c.args.name.now c.look_up.result c.look_up.ensures
