use Rattle.std.proofs.Common.{◌∙◌, ap}
use Rattle.je_order.specs.declared.name.Name.{Name}
use Rattle.store_model.specs.Evaluation.{plain_name}
use Rattle.log_replay.specs.Rows.{data_at}
use Rattle.txn_core.specs.Known.{committed}
use Rattle.txn_core.proofs.ViewLaws.{has_database}
use Rattle.txn_core.proofs.catalog_rows.CatalogRowsCatalogView.has.Goals as goal

pub returns : goal.returns
returns g c =
    let rows = committed (g.T.Records.cells c.args.self.now.trees.now) in
    c.is_some.ensures
    ∙ has_database rows c.args.name.now c.data_of.result c.args.self.now.environment
    (c.data_of.ensures ∙ ap (λ (n : Name). data_at n (rows 0)) (c.in_ok-name.ensures ∙ ap plain_name c.as_slice.ensures.value))
