use Rattle.text_out.proofs.BufferedText.{adds_then}
use Rattle.script_text.proofs.reporting.put_end.Goals as goal

pub returns : goal.returns
returns g c =
    adds_then (adds_then (adds_then (adds_then (adds_then (adds_then c.put.ensures c.put_number.ensures) c.put-2.ensures) c.put_number-2.ensures) c.put-3.ensures) c.put_number-3.ensures) c.put-4.ensures
