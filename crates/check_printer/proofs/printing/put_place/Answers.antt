use Rattle.text_out.proofs.BufferedText.{adds_then}
use Rattle.check_printer.proofs.printing.put_place.Goals as goal

pub returns : goal.returns
returns g c = adds_then (adds_then c.put.ensures c.put_lsn.ensures) c.put-2.ensures
