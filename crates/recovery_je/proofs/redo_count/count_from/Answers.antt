use Rattle.std.proofs.Common.{◌∙◌, ap}
use Rattle.recovery_je.specs.LogRead.{entries_of_files}
use Rattle.recovery_je.specs.Putting.{are_whole}
use Rattle.recovery_je.proofs.CountLaws.{counts_else}
use Rattle.recovery_je.proofs.redo_count.count_from.Goals as goal

pub returns-else-entries : goal.returns-else-entries
returns-else-entries c =
    counts_else c.count_files-else-entries.result c.from_u64.result c.args.redo (entries_of_files c.as_slice-else-entries.result.now) c.args.entries.now c.entries.inside.whole c.from_u64.ensures
    (ap entries_of_files c.as_slice-else-entries.ensures.value ∙ c.entries.view_is) (c.entries.invariant.1 ∙ ap are_whole c.entries.view_is) c.if-entries.false c.count_files-else-entries.ensures
