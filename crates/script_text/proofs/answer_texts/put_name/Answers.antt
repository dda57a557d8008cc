use Rattle.text_out.proofs.BufferedText.{adds_then, adds_same}
use Rattle.script_text.proofs.answer_texts.put_name.Goals as goal

pub returns : goal.returns
returns g c = adds_then c.put.ensures (adds_same _ _ c.as_slice.ensures.value c.put-2.ensures)
