use Rattle.std.proofs.Common.{◌∙◌, ap}
use Rattle.record_map.specs.Cells.{edge_of, first_of}
use Rattle.record_tree.specs.Occupied.{occupied_by}
use Rattle.txn_core.proofs.ReadingLaws.{committed_rises, found_from, fewer_behind, none_from, passed_from}
use Rattle.txn_core.proofs.reading.next.Goals as goal

pub returns-in-Some-committed_in-clause-found : goal.returns-in-Some-committed_in-clause-found
returns-in-Some-committed_in-clause-found g c =
    found_from (edge_of c.from.from) (c.in-Some.name.now, occupied_by c.in-Some.cell.now) (g.T.Records.cells c.args.trees.now c.args.db) c.in-Some-committed_in.«data».now
    c.in-Some.ensures.rising c.in-Some.ensures.found c.in-Some-committed_in.ensures
    ∙ ap first_of c.from.invariant

pub returns-in-Some-committed_in-clause-rising : goal.returns-in-Some-committed_in-clause-rising
returns-in-Some-committed_in-clause-rising g c = committed_rises (g.T.Records.cells c.args.trees.now c.args.db) c.in-Some.ensures.rising

pub from-smaller : goal.from-smaller
from-smaller g c =
    fewer_behind (edge_of c.from.from) (c.in-Some.name.now, occupied_by c.in-Some.cell.now) (g.T.Records.cells c.args.trees.now c.args.db) c.in-Some.ensures.rising c.in-Some.ensures.found

pub from-preserved : goal.from-preserved
from-preserved g c =
    passed_from (edge_of c.from.from) (c.in-Some.name.now, occupied_by c.in-Some.cell.now) (g.T.Records.cells c.args.trees.now c.args.db) c.in-Some.ensures.rising c.in-Some.ensures.found
    c.in_default-committed_in.ensures
    ∙ c.from.invariant

pub returns-clause-found : goal.returns-clause-found
returns-clause-found g c = none_from (edge_of c.from.from) (g.T.Records.cells c.args.trees.now c.args.db) c.in_default.ensures.found ∙ ap first_of c.from.invariant

pub returns-clause-rising : goal.returns-clause-rising
returns-clause-rising g c = committed_rises (g.T.Records.cells c.args.trees.now c.args.db) c.in_default.ensures.rising
