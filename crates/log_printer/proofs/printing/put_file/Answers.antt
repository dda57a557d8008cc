use Rattle.text_out.proofs.BufferedText.{adds_then}
use Rattle.log_printer.proofs.printing.put_file.Goals as goal

pub returns : goal.returns
returns g c = adds_then (rw c.deref.ensures.value at c.put_lines.ensures) c.put_if_torn.ensures
