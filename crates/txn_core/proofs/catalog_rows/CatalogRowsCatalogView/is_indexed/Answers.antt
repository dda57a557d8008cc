use Rattle.std.proofs.Common.{◌∙◌, ℕ, ap, sym}
use Rattle.log_replay.specs.Rows.{is_indexed}
use Rattle.txn_core.specs.Known.{committed}
use Rattle.txn_core.proofs.IndexViews.{indexed_in}
use Rattle.txn_core.proofs.catalog_rows.CatalogRowsCatalogView.is_indexed.Goals as goal

pub returns : goal.returns
returns g c =
    let rows = committed (g.T.Records.cells c.args.self.now.trees.now) in
    c.has_index.ensures ∙ ap (λ (n : ℕ). is_indexed (rows 0) n) c.in_ok-number.ensures
    ∙ sym (indexed_in rows c.args.name.now c.args.self.now.environment c.args.self.now.rising)
