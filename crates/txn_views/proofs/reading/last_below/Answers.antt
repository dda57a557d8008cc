use Rattle.std.proofs.Common.{◌∙◌, ap}
use Rattle.record_map.specs.Cells.{edge_of, last_of}
use Rattle.record_tree.specs.Occupied.{occupied_by}
use Rattle.txn_core.proofs.ReadingLaws.{fewer_below}
use Rattle.txn_views.proofs.SeenLaws.{found_last, passed_last, none_last}
use Rattle.txn_views.proofs.reading.last_below.Goals as goal

pub returns-in-Some-data_in : goal.returns-in-Some-data_in
returns-in-Some-data_in g c =
    found_last c.args.viewer.level c.args.viewer.txn (edge_of c.upto.upto) (c.in-Some.name.now, occupied_by c.in-Some.cell.now) (g.T.Records.cells c.args.trees.now c.args.db) c.in-Some-data_in.«data».now
    c.in-Some.ensures.rising c.in-Some.ensures.found c.in-Some-data_in.ensures
    ∙ ap last_of c.upto.invariant

pub upto-smaller : goal.upto-smaller
upto-smaller g c =
    fewer_below (edge_of c.upto.upto) (c.in-Some.name.now, occupied_by c.in-Some.cell.now) (g.T.Records.cells c.args.trees.now c.args.db) c.in-Some.ensures.rising c.in-Some.ensures.found

pub upto-preserved : goal.upto-preserved
upto-preserved g c =
    passed_last c.args.viewer.level c.args.viewer.txn (edge_of c.upto.upto) (c.in-Some.name.now, occupied_by c.in-Some.cell.now) (g.T.Records.cells c.args.trees.now c.args.db)
    c.in-Some.ensures.rising c.in-Some.ensures.found c.in_default-data_in.ensures
    ∙ c.upto.invariant

pub returns : goal.returns
returns g c =
    none_last c.args.viewer.level c.args.viewer.txn (edge_of c.upto.upto) (g.T.Records.cells c.args.trees.now c.args.db) c.in_default.ensures.found ∙ ap last_of c.upto.invariant
