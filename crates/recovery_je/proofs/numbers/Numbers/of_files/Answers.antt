use Rattle.std.proofs.Common.{◌∙◌, ◌+◌, ℕ, List, ap, sym, drop}
use Rattle.log_trees.specs.Placed.{Placed}
use Rattle.recovery_je.specs.LogRead.{entries_of_files}
use Rattle.recovery_je.specs.Numbers.{numbers_over}
use Rattle.recovery_je.proofs.EntryPlaces.{next_item}
use Rattle.recovery_je.proofs.NoteLaws.{over_append}
use Rattle.recovery_je.proofs.numbers.Numbers.of_files.Goals as goal

pub loop-file-preserved : goal.loop-file-preserved
loop-file-preserved c =
    let i = c.loop-file.file-index in
    let rest = entries_of_files (drop (i + 1) c.args.files.now) in
    ap (numbers_over c.args.redo rest) c.in_ok-numbers.ensures
    ∙ sym (over_append c.args.redo c.file-item.result.1 rest c.loop-file.numbers)
    ∙ ap (λ (l : List (ℕ × List Placed)). numbers_over c.args.redo (entries_of_files l) c.loop-file.numbers) (sym (next_item c.args.files.now i c.file-item.result c.loop-file-test.true c.file-item.is))
    ∙ c.loop-file.invariant
