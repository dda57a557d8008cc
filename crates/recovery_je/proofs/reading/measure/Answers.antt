use Rattle.std.proofs.Common.{◌∙◌, ap, length, List, ℕ}
use Rattle.log_trees.specs.Placed.{Placed}
use Rattle.recovery_je.specs.declared.file_len.FileLen.{FileLen}
use Rattle.recovery_je.specs.LogRead.{entries_in}
use Rattle.recovery_je.specs.Measuring.{with_header}
use Rattle.recovery_je.proofs.FilesRead.{standing_length}
use Rattle.recovery_je.proofs.reading.measure.Goals as goal

pub returns : goal.returns
returns c =
    let file = c.file.inside in
    let tail = c.args.tail.now in
    let of : ℕ → FileLen = λ n. record { number = tail.file; len = tail.len; entries = n; end = tail.end } in
    ap of (c.count_with_header.ensures
    ∙ ap (with_header tail.end) (ap length c.as_slice.ensures.value ∙ standing_length file.number.0 file.bytes.items file.offsets.items (entries_in file.number.0 file.bytes.items) c.file.invariant ∙ ap (λ (f : ℕ × List Placed). length f.1) c.file.view_is))
