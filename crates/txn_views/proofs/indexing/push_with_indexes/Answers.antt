use Rattle.std.proofs.Common.{◌≡◌, OnOk, List, ◌∙◌, sym, subst}
use Rattle.txn_views.specs.declared.db_change.DbChange.{DbChange}
use Rattle.txn_views.proofs.TargetLaws.{plain_where, own_and_pairs}
use Rattle.txn_views.proofs.indexing.push_with_indexes.Goals as goal

pub returns : goal.returns
returns g c =
    subst (λ (l : List DbChange). OnOk c.push_all.result (c.push_all.new.changes.items ≡ l))
    (own_and_pairs c.args.viewer.level c.args.viewer.txn (g.T.Records.cells c.args.trees.now) c.args.db c.args.indexes.now c.args.change c.args.changes.now.items c.push-2.new.self.items
    c.in_ok-pairs.pairs.items (plain_where c.args.db.kind c.args.indexes.now c.requires.plain (sym c.is_empty.ensures ∙ c.if-is_empty.false))
    c.in_ok-push-2.ensures.items c.in_ok-pairs.ensures) c.push_all.ensures
