use Rattle.std.proofs.Common.{◌∙◌, ap}
use Rattle.record_map.specs.Cells.{edge_of, last_of}
use Rattle.record_tree.specs.Occupied.{occupied_by}
use Rattle.txn_core.proofs.ReadingLaws.{found_below, fewer_below, none_below_edge, passed_below}
use Rattle.txn_core.proofs.reading.last_below.Goals as goal

pub returns-in-Some-committed_in : goal.returns-in-Some-committed_in
returns-in-Some-committed_in g c =
    found_below (edge_of c.upto.upto) (c.in-Some.name.now, occupied_by c.in-Some.cell.now) (g.T.Records.cells c.args.trees.now c.args.db) c.in-Some-committed_in.«data».now
    c.in-Some.ensures.rising c.in-Some.ensures.found c.in-Some-committed_in.ensures
    ∙ ap last_of c.upto.invariant

pub upto-smaller : goal.upto-smaller
upto-smaller g c =
    fewer_below (edge_of c.upto.upto) (c.in-Some.name.now, occupied_by c.in-Some.cell.now) (g.T.Records.cells c.args.trees.now c.args.db) c.in-Some.ensures.rising c.in-Some.ensures.found

pub upto-preserved : goal.upto-preserved
upto-preserved g c =
    passed_below (edge_of c.upto.upto) (c.in-Some.name.now, occupied_by c.in-Some.cell.now) (g.T.Records.cells c.args.trees.now c.args.db) c.in-Some.ensures.rising c.in-Some.ensures.found
    c.in_default-committed_in.ensures
    ∙ c.upto.invariant

pub returns : goal.returns
returns g c = none_below_edge (edge_of c.upto.upto) (g.T.Records.cells c.args.trees.now c.args.db) c.in_default.ensures.found ∙ ap last_of c.upto.invariant
