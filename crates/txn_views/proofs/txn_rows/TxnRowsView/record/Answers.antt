use Rattle.std.proofs.Common.{◌∙◌}
use Rattle.cursor_je.specs.Looks.{name_in}
use Rattle.txn_views.specs.Seen.{seen_rows, seen_rises}
use Rattle.txn_core.proofs.ViewLaws.{record_seen}
use Rattle.txn_views.proofs.txn_rows.TxnRowsView.record.Goals as goal

pub returns : goal.returns
returns g c =
    c.record_found.ensures
    ∙ record_seen c.args.self.now.kind (seen_rows c.args.self.now.viewer.level c.args.self.now.viewer.txn (g.T.Records.cells c.args.self.now.trees.now c.args.self.now.number)) c.in_ok-name.name (name_in c.args.name) c.record.result c.args.self.now.right
    (seen_rises c.args.self.now.viewer.level c.args.self.now.viewer.txn (g.T.Records.cells c.args.self.now.trees.now c.args.self.now.number) c.args.self.now.rising) c.in_ok-name.ensures c.record.ensures.name c.record.ensures.value
