use Rattle.text_out.proofs.BufferedText.{adds_then}
use Rattle.script_text.proofs.answer_texts.put_list.Goals as goal

pub returns : goal.returns
returns g c = adds_then c.put.ensures c.put_names.ensures
