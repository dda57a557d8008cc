use Rattle.std.proofs.Common.{ap, decimal}
use Rattle.text_out.proofs.BufferedText.{adds_same, adds_then}
use Rattle.log_printer.proofs.printing.put_line.Goals as goal

pub returns : goal.returns
returns g c =
    let kind = adds_same _ _ c.kind_word.ensures c.put-2.ensures in
    let size = adds_same _ _ (ap decimal c.from.ensures) c.put_number.ensures in
    let sized = adds_then (adds_then (adds_then (adds_then c.put_lsn.ensures c.put.ensures) kind) c.put-3.ensures) size in
    let linked = adds_then (adds_then sized c.put-4.ensures) c.put_hexadecimal.ensures in
    adds_then (adds_then (adds_then linked c.put_txn.ensures) c.put_db.ensures) c.put-5.ensures
