use Rattle.std.proofs.Common.{◌∙◌, ap}
use Rattle.record_map.specs.Cells.{edge_of}
use Rattle.cursor_je.specs.Looks.{edge_in}
use Rattle.txn_views.specs.Seen.{seen_rows}
use Rattle.txn_core.specs.Views.{pairs_found}
use Rattle.txn_core.proofs.ViewLaws.{first_seen}
use Rattle.txn_views.proofs.txn_rows.TxnRowsView.first_from.Goals as goal

pub returns : goal.returns
returns g c =
    c.record_found.ensures
    ∙ ap (pairs_found c.args.self.now.kind) c.next.ensures
    ∙ first_seen c.args.self.now.kind (seen_rows c.args.self.now.viewer.level c.args.self.now.viewer.txn (g.T.Records.cells c.args.self.now.trees.now c.args.self.now.number)) (edge_of c.edge_ref.result) (edge_in c.args.from) c.args.self.now.right
    (c.edge_ref.ensures ∙ c.in_ok-from.ensures)
