use Rattle.std.proofs.Common.{List, ◌++◌, ◌∙◌, ap, sym}
use Rattle.std.specs.Vec.Iter.{into_iter_items}
use Rattle.store_model.specs.Store.{Pair}
use Rattle.store_model.specs.Indexes.{Numbered, all_changes}
use Rattle.store_model.specs.declared.record_change.RecordChange.{RecordChange}
use Rattle.index_map.specs.Laws.{over_of, indexes_at}
use Rattle.txn_views.specs.Targets.{found_at, seen_in, found_changes}
use Rattle.txn_views.proofs.TargetLaws.{one_more}
use Rattle.txn_views.proofs.indexing.all_changes.Goals as goal

pub changes-preserved : goal.changes-preserved
changes-preserved g c =
    let see : Numbered → List Pair = seen_in c.args.viewer.level c.args.viewer.txn (g.T.Records.cells c.args.trees.now) in
    one_more c.args.found.over c.args.found.db c.changing-db.result c.args.found.indexes.now see c.in-Some.change c.in_ok-change.change (into_iter_items c.next.new.self)
    c.changes.all.items c.push_with_indexes.new.changes.items c.changing-db.ensures c.in_ok-change.ensures c.in_ok-push_with_indexes.ensures
    ∙ ap (λ (l : List RecordChange). c.changes.all.items ++ found_changes (all_changes (over_of c.args.found.over) (found_at c.args.found.db) (indexes_at c.args.found.indexes.now) see l))
    (sym c.in-Some.ensures.steps.0)
    ∙ c.changes.invariant
