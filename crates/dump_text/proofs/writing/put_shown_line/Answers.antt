use Rattle.text_out.proofs.BufferedText.{adds_then}
use Rattle.dump_text.proofs.writing.put_shown_line.Goals as goal

pub returns : goal.returns
returns g c = adds_then c.put_byte.ensures (adds_then c.put_shown.ensures c.put_byte-2.ensures)
