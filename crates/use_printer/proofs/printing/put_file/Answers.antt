use Rattle.std.proofs.Common.{ap, decimal}
use Rattle.text_out.proofs.BufferedText.{adds_same, adds_then}
use Rattle.use_printer.proofs.printing.put_file.Goals as goal

pub returns : goal.returns
returns g c =
    let util = adds_same _ _ (ap decimal c.percent.ensures) c.put_sum.ensures in
    let name = adds_then c.put.ensures c.put_name.ensures in
    adds_then (adds_then (adds_then (adds_then (adds_then (adds_then (adds_then name c.put-2.ensures) c.put_number.ensures) c.put-3.ensures) c.put_number-2.ensures) c.put-4.ensures) util) c.put-5.ensures
