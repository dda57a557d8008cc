use Rattle.std.proofs.Common.{◌≡◌, ◌≤◌, ◌+◌, ◌*◌, drop, sum_by}
use Rattle.file_use.specs.declared.file_use.FileUse.{FileUse}
use Rattle.use_printer.proofs.printing.sum_lives.Given as goal

-- those so far are counted
abbrev pub invariant-loop-file : goal.invariant-loop-file
invariant-loop-file l =
    (l.live + sum_by (λ (file : FileUse). file.live) (drop l.file-index l.files) ≡ sum_by (λ (file : FileUse). file.live) l.files) × (l.live ≤ l.file-index * 18446744073709551616)
