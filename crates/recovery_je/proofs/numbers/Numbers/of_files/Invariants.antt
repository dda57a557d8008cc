use Rattle.std.proofs.Common.{◌≡◌, drop}
use Rattle.recovery_je.specs.LogRead.{entries_of_files}
use Rattle.recovery_je.specs.Numbers.{none_numbered, numbers_over}
use Rattle.recovery_je.proofs.numbers.Numbers.of_files.Given as goal

abbrev pub invariant-loop-file : goal.invariant-loop-file
invariant-loop-file l = numbers_over l.redo (entries_of_files (drop l.file-index l.files)) l.numbers ≡ numbers_over l.redo (entries_of_files l.files) none_numbered
