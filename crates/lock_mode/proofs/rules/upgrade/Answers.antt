use Rattle.std.proofs.Common.{rules}
use Rattle.lock_mode.proofs.rules.upgrade.Goals as goal

pub returns-in-RangeRead-default : goal.returns-in-RangeRead-default
returns-in-RangeRead-default c = search rules

pub returns-in-Write-default : goal.returns-in-Write-default
returns-in-Write-default c = search rules

pub returns-in_default-RangeInsert : goal.returns-in_default-RangeInsert
returns-in_default-RangeInsert c = search rules

pub returns-in_default-RangeInsert-2 : goal.returns-in_default-RangeInsert-2
returns-in_default-RangeInsert-2 c = search rules

pub returns-in_default-RangeInsert-3 : goal.returns-in_default-RangeInsert-3
returns-in_default-RangeInsert-3 c = search rules
