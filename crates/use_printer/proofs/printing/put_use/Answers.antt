use Rattle.std.proofs.Common.{ap}
use Rattle.std.specs.List.{flat_map}
use Rattle.text_out.proofs.BufferedText.{adds_same, adds_then}
use Rattle.use_printer.specs.UseText.{file_use_line, files_line}
use Rattle.use_printer.proofs.printing.put_use.Goals as goal

pub returns : goal.returns
returns g c =
    let all = adds_same _ _ (ap files_line c.as_slice-files.ensures) c.put_totals.ensures in
    let each = adds_same _ _ (ap (flat_map file_use_line) c.as_slice-files.ensures) c.put_files.ensures in
    adds_then (adds_then (adds_then all each) c.put_records.ensures) c.put_last_txn.ensures
