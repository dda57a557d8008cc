use Rattle.text_out.proofs.BufferedText.{adds_then}
use Rattle.dump_text.proofs.writing.put_pair.Goals as goal

pub returns : goal.returns
returns g c = adds_then c.put_shown_line.ensures c.put_shown_line-2.ensures
