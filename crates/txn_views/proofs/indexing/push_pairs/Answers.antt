use Rattle.std.proofs.Common.{List, map, ap, ◌++◌, ◌∙◌}
use Rattle.store_model.specs.declared.record_change.RecordChange.{RecordChange}
use Rattle.index_map.specs.Laws.{index_at}
use Rattle.txn_views.specs.Targets.{found_changes}
use Rattle.txn_views.proofs.indexing.push_pairs.Goals as goal

pub loop-change-init : goal.loop-change-init
loop-change-init c =
    ap (λ (l : List RecordChange). c.args.changes.now.items ++ found_changes (map (λ (x : RecordChange). (index_at c.args.index, x)) l))
    (c.into_iter-change-iterator.ensures.into_iter_gives.0 ∙ c.into_vec-change-items.ensures ∙ c.in_ok-pairs.ensures)
