use Rattle.std.proofs.Common.{List, ◌∙◌, ap, sym, subst}
use Rattle.std.specs.List.{AllByRecursion}
use Rattle.std.specs.Option.{option_copied}
use Rattle.record_tree.specs.Occupied.{AllCells}
use Rattle.store_model.specs.Store.{Pair}
use Rattle.store_model.specs.Records.{Evaluated}
use Rattle.store_model.specs.Indexes.{Numbered, all_changes, answer_through}
use Rattle.cursor_je.specs.Looks.{planned_in}
use Rattle.cursor_je.specs.Reaches.{part_in}
use Rattle.index_map.specs.Laws.{over_of, indexes_at}
use Rattle.txn_views.specs.Targets.{found_at, changing_at, seen_in, found_changes, with_found_numbers}
use Rattle.txn_views.proofs.TargetLaws.{InReadable, changing_is, readable_changing, all_readable, target_needs}
use Rattle.txn_views.proofs.through.plan_target.Goals as goal

pub push_changes-requires : goal.push_changes-requires
push_changes-requires g c =
    let cells : AllCells = g.T.Records.cells c.args.trees.now in
    let found = c.args.found in
    subst (AllByRecursion (InReadable c.args.level c.args.txn cells)) (sym (c.as_slice.ensures.value ∙ c.in_ok-changes.ensures))
    (all_readable c.args.level c.args.txn cells (over_of found.over) (changing_at found.over found.db) (found_at found.db) found.indexes.now (seen_in c.args.level c.args.txn cells)
    c.in_ok-planned.planned.changes (changing_is found.over found.db) (readable_changing c.args.level c.args.txn cells found.over found.db c.requires.db c.requires.over) c.requires.indexes)

pub returns : goal.returns
returns g c =
    let cells : AllCells = g.T.Records.cells c.args.trees.now in
    let found = c.args.found in
    let see : Numbered → List Pair = seen_in c.args.level c.args.txn cells in
    record {
      answer = c.in_ok-answer.ensures ∙ ap (λ (e : Evaluated). answer_through (over_of found.over) see e.answer) c.in_ok-planned.ensures;
      changes = c.in_ok-own.ensures ∙ ap with_found_numbers c.in_ok-changes.ensures
          ∙ ap (λ (e : Evaluated). with_found_numbers (found_changes (all_changes (over_of found.over) (found_at found.db) (indexes_at found.indexes.now) see e.changes))) c.in_ok-planned.ensures;
      needs = target_needs c.args.level c.args.txn cells found c.args.call.now (option_copied c.args.at) (planned_in c.in_ok-planned.planned) (part_in c.part_of-part.result)
          c.in_ok-needs.needs.items c.push_record.new.needs.items c.push_changes.new.needs.items c.as_slice.result.now c.in_ok-planned.ensures c.part_of-part.ensures c.in_ok-needs.ensures
          c.in_ok-push_record.ensures (c.as_slice.ensures.value ∙ c.in_ok-changes.ensures) c.in_ok-push_changes.ensures;
      place = ap (λ (e : Evaluated). e.place) c.in_ok-planned.ensures;
    }
