use Rattle.std.proofs.Common.{◌<◌, ap, length, ℕ, List, arith, ◌∙◌}
use Rattle.std.proofs.lemmas.List.{length-map}
use Rattle.log_trees.specs.Placed.{Placed}
use Rattle.recovery_je.proofs.FileLookups.{numbered_found, numbered_nowhere}
use Rattle.recovery_je.proofs.log_read.file_numbered.Goals as goal

pub returns-in-Ok : goal.returns-in-Ok
returns-in-Ok c =
    let files = c.args.files.now in
    let len = length-map files (λ (f : ℕ × List Placed). f.0) in
    let same = ap length c.requires.files_are.numbers_are in
    let below : c.in-Ok.i < length files = omega (arith, c.in-Ok.ensures.bound, same, len) in
    ap (λ (file : ℕ × List Placed). file.1) c.index-files-i.is ∙ numbered_found c.index-files-i.result files c.args.numbers.now c.args.file.0 c.in-Ok.i c.requires c.in-Ok.ensures.position below

pub returns-in-Err : goal.returns-in-Err
returns-in-Err c = numbered_nowhere c.args.files.now c.args.numbers.now c.args.file.0 c.in-Err.field-0 c.requires c.in-Err.ensures.position
