use Rattle.text_out.proofs.BufferedText.{adds_then}
use Rattle.script_text.proofs.answer_texts.put_record.Goals as goal

pub returns : goal.returns
returns g c =
    adds_then (adds_then (adds_then c.put.ensures c.put_bytes.ensures) c.put-2.ensures) c.put_bytes-2.ensures
