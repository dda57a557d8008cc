use Rattle.text_out.proofs.BufferedText.{adds_then, adds_same}
use Rattle.script_text.proofs.answer_texts.put_waiting.Goals as goal

pub returns : goal.returns
returns g c =
    let db = adds_same _ _ c.as_slice.ensures.value c.put-2.ensures in
    adds_then (adds_then (adds_then (adds_then (adds_then c.put.ensures db) c.put-3.ensures) c.put_place.ensures) c.put-4.ensures) c.put_number.ensures
