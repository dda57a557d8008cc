use Rattle.std.proofs.Common.{◌<◌, ap, sym, subst, length, ℕ, List, arith}
use Rattle.std.proofs.lemmas.List.{length-map}
use Rattle.log_trees.specs.Placed.{Placed}
use Rattle.recovery_je.specs.LogRead.{entries_of_files, IsFileWith}
use Rattle.recovery_je.proofs.FileLookups.{file_found, file_nowhere}
use Rattle.recovery_je.proofs.log_read.file_among.Goals as goal

pub returns-in-Ok : goal.returns-in-Ok
returns-in-Ok c =
    let files = c.args.files.now in
    let len = length-map files (λ (f : ℕ × List Placed). f.0) in
    let same = ap length c.requires.files_are.numbers_are in
    let below : c.in-Ok.i < length files = omega (arith, c.in-Ok.ensures.bound, same, len) in
    subst (IsFileWith (entries_of_files files) c.args.at) (sym c.index-files-i.is)
    (file_found c.index-files-i.result files c.args.numbers.now c.args.at c.file.result.0 c.in-Ok.i c.requires c.file.ensures c.in-Ok.ensures.position below)

pub returns-in-Err : goal.returns-in-Err
returns-in-Err c = file_nowhere c.args.files.now c.args.numbers.now c.args.at c.file.result.0 c.in-Err.field-0 c.requires c.file.ensures c.in-Err.ensures.position
