use Rattle.std.proofs.Common.{◌∙◌, ap, sym, Some}
use Rattle.record_tree.specs.Occupied.{value_in}
use Rattle.txn_core.proofs.ReadingLaws.{committed_at}
use Rattle.txn_core.proofs.reading.data_of.Goals as goal

pub returns-in-Some-committed_in : goal.returns-in-Some-committed_in
returns-in-Some-committed_in g c =
    ap Some c.as_slice.ensures ∙ c.in-Some-committed_in.ensures ∙ ap value_in c.in-Some.ensures.found
    ∙ sym (committed_at c.args.name.now (g.T.Records.cells c.args.trees.now c.args.db) c.in-Some.ensures.rising)

pub returns-in-None-committed_in : goal.returns-in-None-committed_in
returns-in-None-committed_in g c =
    c.in-None-committed_in.ensures ∙ ap value_in c.in-Some.ensures.found
    ∙ sym (committed_at c.args.name.now (g.T.Records.cells c.args.trees.now c.args.db) c.in-Some.ensures.rising)

pub returns-in-None : goal.returns-in-None
returns-in-None g c =
    ap value_in c.in-None.ensures.found ∙ sym (committed_at c.args.name.now (g.T.Records.cells c.args.trees.now c.args.db) c.in-None.ensures.rising)
