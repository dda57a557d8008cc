use Rattle.std.proofs.Common.{◌∙◌, ap, sym}
use Rattle.record_tree.specs.Occupied.{value_in}
use Rattle.txn_core.proofs.ReadingLaws.{committed_at}
use Rattle.txn_core.proofs.reading.record.Goals as goal

pub returns-in-Some-committed_in-clause-value : goal.returns-in-Some-committed_in-clause-value
returns-in-Some-committed_in-clause-value g c =
    c.in-Some-committed_in.ensures ∙ ap value_in c.in-Some.ensures.found
    ∙ sym (committed_at c.args.name.now (g.T.Records.cells c.args.trees.now c.args.db) c.in-Some.ensures.rising)

pub returns-in-None-committed_in-clause-value : goal.returns-in-None-committed_in-clause-value
returns-in-None-committed_in-clause-value g c =
    c.in-None-committed_in.ensures ∙ ap value_in c.in-Some.ensures.found
    ∙ sym (committed_at c.args.name.now (g.T.Records.cells c.args.trees.now c.args.db) c.in-Some.ensures.rising)

pub returns-in-None-clause-value : goal.returns-in-None-clause-value
returns-in-None-clause-value g c =
    ap value_in c.in-None.ensures.found ∙ sym (committed_at c.args.name.now (g.T.Records.cells c.args.trees.now c.args.db) c.in-None.ensures.rising)
