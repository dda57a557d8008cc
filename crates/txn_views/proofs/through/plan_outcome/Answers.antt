use Rattle.std.proofs.Common.{List, ◌∙◌, ap}
use Rattle.record_tree.specs.Occupied.{AllCells}
use Rattle.store_model.specs.Store.{Pair}
use Rattle.store_model.specs.Records.{Evaluated}
use Rattle.store_model.specs.Indexes.{Numbered, all_changes, answer_through}
use Rattle.index_map.specs.Laws.{over_of, indexes_at}
use Rattle.txn_views.specs.Targets.{found_at, seen_in, found_changes, with_found_numbers}
use Rattle.txn_views.proofs.through.plan_outcome.Goals as goal

pub returns : goal.returns
returns g c =
    let cells : AllCells = g.T.Records.cells c.args.trees.now in
    let found = c.args.found in
    let see : Numbered → List Pair = seen_in c.args.level c.args.txn cells in
    record {
      answer = c.in_ok-answer.ensures ∙ ap (λ (e : Evaluated). answer_through (over_of found.over) see e.answer) c.in_ok-planned.ensures;
      changes = c.in_ok-own.ensures ∙ ap with_found_numbers c.in_ok-changes.ensures
          ∙ ap (λ (e : Evaluated). with_found_numbers (found_changes (all_changes (over_of found.over) (found_at found.db) (indexes_at found.indexes.now) see e.changes))) c.in_ok-planned.ensures;
    }
