use Rattle.std.proofs.Common.{List, option_copied, subst, sym, take}
use Rattle.je_order.specs.declared.name.Name.{Name}
use Rattle.record_map.specs.declared.cell.Cell.{Cell}
use Rattle.record_tree.specs.LoadedSlots.{shows_deletion_inside}
use Rattle.db_tree.specs.Loading.{GetsDeletions}
use Rattle.db_tree.proofs.loading.put_and_note.Goals as goal

pub returns-clause-got : goal.returns-clause-got
returns-clause-got c =
    subst (λ (l : List (Name × Cell)). GetsDeletions (shows_deletion_inside c.args.low.now (option_copied c.args.high) c.args.slots.now) c.args.at c.args.cells.now l) (sym c.note_low.ensures) c.in_ok-put_deletions.ensures.got

pub returns-clause-some : goal.returns-clause-some
returns-clause-some c =
    let some = c.put_deletions.ensures.some in (
      some.0,
      subst (λ (l : List (Name × Cell)). GetsDeletions (shows_deletion_inside c.args.low.now (option_copied c.args.high) (take some.0 c.args.slots.now)) c.args.at c.args.cells.now l) (sym c.note_low.ensures) some.1,
    )
