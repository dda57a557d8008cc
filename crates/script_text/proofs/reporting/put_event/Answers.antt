use Rattle.text_out.proofs.BufferedText.{adds_then}
use Rattle.script_text.proofs.reporting.put_event.Goals as goal

pub returns : goal.returns
returns g c = adds_then (adds_then c.put_own_line.ensures c.put_victims.ensures) c.put_settled.ensures
