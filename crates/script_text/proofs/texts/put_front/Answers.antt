use Rattle.std.proofs.Common.{ap, decimal}
use Rattle.text_out.proofs.BufferedText.{adds_then, adds_same}
use Rattle.script_text.proofs.texts.put_front.Goals as goal

pub returns : goal.returns
returns g c =
    let line = adds_same _ _ (ap decimal c.from.ensures) c.put_number.ensures in
    let session = adds_same _ _ (ap decimal c.from-2.ensures) c.put_number-2.ensures in
    adds_then (adds_then (adds_then line c.put.ensures) session) c.put-2.ensures
