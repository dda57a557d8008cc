use Rattle.std.proofs.Common.{ap, decimal}
use Rattle.text_out.proofs.BufferedText.{adds_same, adds_then}
use Rattle.use_printer.proofs.printing.put_totals.Goals as goal

pub returns : goal.returns
returns g c =
    let total = adds_same _ _ (ap decimal c.sum_totals.ensures) c.put_sum.ensures in
    let live = adds_same _ _ (ap decimal c.sum_lives.ensures) c.put_sum-2.ensures in
    adds_then (adds_then (adds_then (adds_then (adds_then (adds_then c.put.ensures c.put_number.ensures) c.put-2.ensures) total) c.put-3.ensures) live) c.put-4.ensures
