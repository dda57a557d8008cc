use Rattle.std.proofs.Common.{ap, decimal}
use Rattle.text_out.proofs.BufferedText.{adds_same, adds_then}
use Rattle.check_printer.proofs.printing.put_file.Goals as goal

pub returns : goal.returns
returns g c =
    let entries = adds_then (adds_then (adds_then (adds_then c.put.ensures c.put_file_name.ensures) c.put-2.ensures) c.put_number.ensures) c.put-3.ensures in
    let end = adds_same _ _ (ap decimal c.from.ensures) c.put_number-2.ensures in
    adds_then (adds_then entries end) c.put-4.ensures
