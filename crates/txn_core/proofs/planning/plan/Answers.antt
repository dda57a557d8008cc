use Rattle.std.proofs.Common.{IfOk, subst, sym}
use Rattle.store_model.specs.declared.call.Call.{Call}
use Rattle.txn_core.specs.Known.{known_of}
use Rattle.txn_core.specs.Planning.{IsPlanned}
use Rattle.txn_core.proofs.CatalogPlanLaws.{catalog_call, catalog_planned_ok}
use Rattle.txn_core.proofs.IndexPlanLaws.{index_planned_ok}
use Rattle.txn_core.proofs.planning.plan.Goals as goal

pub returns-in-List : goal.returns-in-List
returns-in-List g c p session has =
    catalog_planned_ok (known_of (g.T.Records.cells c.args.trees.now) c.args.totals c.args.last_db) p session c.args.call.now c.plan_catalog.result c.requires.can has (catalog_call c.args.call.now c.in-List.is) c.plan_catalog.ensures

pub returns-in-CreateIndex : goal.returns-in-CreateIndex
returns-in-CreateIndex g c p session has =
    subst (λ (call : Call). IfOk c.plan_filled.result (IsPlanned (known_of (g.T.Records.cells c.args.trees.now) c.args.totals c.args.last_db) p session call)) (sym c.in-CreateIndex.is)
    (index_planned_ok (known_of (g.T.Records.cells c.args.trees.now) c.args.totals c.args.last_db) p session c.in-CreateIndex.db c.in-CreateIndex.index c.plan_filled.result c.requires.can has
    c.ranges.last_db.fits c.plan_filled.ensures)
