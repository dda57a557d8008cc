use Rattle.std.proofs.Common.{◌∙◌, ap}
use Rattle.record_map.specs.Cells.{edge_of, first_of}
use Rattle.record_tree.specs.Occupied.{occupied_by}
use Rattle.txn_core.proofs.ReadingLaws.{fewer_behind}
use Rattle.txn_views.proofs.SeenLaws.{found_next, passed_next, none_next}
use Rattle.txn_views.proofs.reading.next.Goals as goal

pub returns-in-Some-data_in : goal.returns-in-Some-data_in
returns-in-Some-data_in g c =
    found_next c.args.viewer.level c.args.viewer.txn (edge_of c.from.from) (c.in-Some.name.now, occupied_by c.in-Some.cell.now) (g.T.Records.cells c.args.trees.now c.args.db) c.in-Some-data_in.«data».now
    c.in-Some.ensures.rising c.in-Some.ensures.found c.in-Some-data_in.ensures
    ∙ ap first_of c.from.invariant

pub from-smaller : goal.from-smaller
from-smaller g c =
    fewer_behind (edge_of c.from.from) (c.in-Some.name.now, occupied_by c.in-Some.cell.now) (g.T.Records.cells c.args.trees.now c.args.db) c.in-Some.ensures.rising c.in-Some.ensures.found

pub from-preserved : goal.from-preserved
from-preserved g c =
    passed_next c.args.viewer.level c.args.viewer.txn (edge_of c.from.from) (c.in-Some.name.now, occupied_by c.in-Some.cell.now) (g.T.Records.cells c.args.trees.now c.args.db)
    c.in-Some.ensures.rising c.in-Some.ensures.found c.in_default-data_in.ensures
    ∙ c.from.invariant

pub returns : goal.returns
returns g c =
    none_next c.args.viewer.level c.args.viewer.txn (edge_of c.from.from) (g.T.Records.cells c.args.trees.now c.args.db) c.in_default.ensures.found ∙ ap first_of c.from.invariant
