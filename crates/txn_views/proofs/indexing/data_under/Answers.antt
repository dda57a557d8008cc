use Rattle.std.proofs.Common.{List, ◌∙◌, ap, Some}
use Rattle.je_order.specs.declared.name.Name.{Name}
use Rattle.log_replay.specs.Rows.{Row, data_at}
use Rattle.txn_views.specs.Seen.{seen_rows}
use Rattle.txn_views.proofs.TargetLaws.{data_here}
use Rattle.txn_views.proofs.indexing.data_under.Goals as goal

pub returns-in-Some : goal.returns-in-Some
returns-in-Some g c =
    let rows : List Row = seen_rows c.args.viewer.level c.args.viewer.txn (g.T.Records.cells c.args.trees.now c.args.db) in
    ap Some c.as_slice.ensures ∙ c.in-Some.ensures.value ∙ ap (λ (n : Name). data_at n rows) c.in_ok-name.ensures ∙ data_here c.args.key.now rows c.requires.right

pub returns : goal.returns
returns g c =
    let rows : List Row = seen_rows c.args.viewer.level c.args.viewer.txn (g.T.Records.cells c.args.trees.now c.args.db) in
    c.in-None.ensures.value ∙ ap (λ (n : Name). data_at n rows) c.in_ok-name.ensures ∙ data_here c.args.key.now rows c.requires.right
