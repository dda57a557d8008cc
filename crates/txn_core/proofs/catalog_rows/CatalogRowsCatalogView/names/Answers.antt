use Rattle.txn_core.specs.Known.{committed}
use Rattle.txn_core.proofs.ViewLaws.{names_ok}
use Rattle.txn_core.proofs.catalog_rows.CatalogRowsCatalogView.names.Goals as goal

pub returns : goal.returns
returns g c = names_ok (committed (g.T.Records.cells c.args.self.now.trees.now)) c.names.result c.names.ensures
