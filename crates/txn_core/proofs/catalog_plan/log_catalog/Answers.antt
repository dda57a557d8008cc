use Rattle.std.proofs.Common.{◌∙◌, ◌+◌}
use Rattle.log_replay.specs.Logging.{record_named}
use Rattle.txn_core.specs.Known.{committed}
use Rattle.txn_core.proofs.PlanParts.{logs_next, totals_are}
use Rattle.txn_core.proofs.catalog_plan.log_catalog.Goals as goal

pub returns : goal.returns
returns g c = record {
  named = c.see_name.ensures;
  fits = c.in_ok-see_fitting.ensures;
  makes = c.number_made_by-makes.result;
  is_next = c.number_made_by-makes.ensures;
  rows = logs_next c.number_made_by-makes.result (record_named (committed (g.T.Records.cells c.args.catalog.now.trees.now))) c.next_number-number.result (c.args.last_db + 1)
      c.args.change.now c.as_slice.result.now c.in_ok-changes.changes.items c.in_ok-changes.ensures (c.as_slice.ensures ∙ c.in_ok-logged.ensures.exact) c.next_number-number.ensures;
  last_db = c.last_db_after.ensures;
  totals = totals_are (committed (g.T.Records.cells c.args.catalog.now.trees.now)) c.args.change.now c.args.totals c.in_ok-databases.databases c.records_left-records.result c.in_ok-gone.gone
      c.in_ok-databases.ensures c.in_ok-gone.ensures c.records_left-records.ensures;
  gone = c.in_ok-gone.ensures;
}
