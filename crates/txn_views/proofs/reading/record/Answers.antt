use Rattle.std.proofs.Common.{◌∙◌, Some, None}
use Rattle.record_tree.specs.Occupied.{occupied_by}
use Rattle.txn_views.proofs.SeenLaws.{data_seen}
use Rattle.txn_views.proofs.reading.record.Goals as goal

pub returns-in-Some-data_in-clause-value : goal.returns-in-Some-data_in-clause-value
returns-in-Some-data_in-clause-value g c =
    c.in-Some-data_in.ensures
    ∙ data_seen c.args.viewer.level c.args.viewer.txn c.args.name.now (Some (occupied_by c.in-Some.cell.now)) (g.T.Records.cells c.args.trees.now c.args.db) c.in-Some.ensures.rising c.in-Some.ensures.found

pub returns-in-None-data_in-clause-value : goal.returns-in-None-data_in-clause-value
returns-in-None-data_in-clause-value g c =
    c.in-None-data_in.ensures
    ∙ data_seen c.args.viewer.level c.args.viewer.txn c.args.name.now (Some (occupied_by c.in-Some.cell.now)) (g.T.Records.cells c.args.trees.now c.args.db) c.in-Some.ensures.rising c.in-Some.ensures.found

pub returns-in-None-clause-value : goal.returns-in-None-clause-value
returns-in-None-clause-value g c = data_seen c.args.viewer.level c.args.viewer.txn c.args.name.now None (g.T.Records.cells c.args.trees.now c.args.db) c.in-None.ensures.rising c.in-None.ensures.found
