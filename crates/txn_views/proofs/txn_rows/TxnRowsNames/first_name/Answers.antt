use Rattle.std.proofs.Common.{◌∙◌}
use Rattle.record_map.specs.Cells.{edge_of}
use Rattle.cursor_je.specs.Looks.{edge_in}
use Rattle.txn_views.proofs.SeenLaws.{name_of_found}
use Rattle.txn_views.proofs.txn_rows.TxnRowsNames.first_name.Goals as goal

pub returns : goal.returns
returns g c =
    c.name_found.ensures
    ∙ name_of_found (edge_of c.edge_ref.result) (edge_in c.args.from) c.cell_from.result (g.T.Records.cells c.args.self.now.trees.now c.args.self.now.number) (c.edge_ref.ensures ∙ c.in_ok-from.ensures) c.cell_from.ensures.found
